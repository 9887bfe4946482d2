use Rattle.std.proofs.Common.{arith}
use Rattle.digits.proofs.Appending.{appends_next}
use Rattle.digits.proofs.Writer.field.Goals as goal

pub returns-clause-written : goal.returns-clause-written
returns-clause-written c = appends_next c.decimal.ensures.written c.byte.ensures (omega (arith, c.byte.ensures.puts.place))
