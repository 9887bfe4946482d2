use Rattle.std.proofs.Common.{arith}
use Rattle.digits.proofs.Appending.{decimal_within, appends_decimal}
use Rattle.digits.proofs.Writer.decimal.Goals as goal

pub overflow_add-self : goal.overflow_add-self
overflow_add-self c = record { fits = omega (arith, decimal_within c.args.self.now _ c.requires (omega (arith, c.ranges.n.fits)) c.put_number.ensures) }

pub returns-clause-written : goal.returns-clause-written
returns-clause-written c = appends_decimal c.args.self.now c.args.n c.requires c.ranges.n.fits c.put_number.ensures

pub returns-clause-within : goal.returns-clause-within
returns-clause-within c = omega (arith, decimal_within c.args.self.now c.args.n c.requires c.ranges.n.fits c.put_number.ensures)
