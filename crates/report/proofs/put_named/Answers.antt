use Rattle.std.proofs.Common.{arith}
use mir.Syntax.{w64}
use mir.ValLaws.{to_z-of_z}
use Rattle.digits.proofs.Appending.{appends_next}
use Rattle.report.proofs.put_named.Goals as goal

pub returns-clause-written : goal.returns-clause-written
returns-clause-written c =
    appends_next c.bytes.ensures (rw (to_z-of_z w64 c.args.z c.ranges.z) at c.signed.ensures.written) (omega (arith, c.signed.ensures.within, c.bytes.ensures.puts.place))
