-- `put_number` writes the digits of n: those of its tenth by itself, and one more.
use native.Mathlib.Omega.{arith}
use Rattle.digits.proofs.Numbers.{number_short, number_at, number_long}
use Rattle.digits.proofs.+put_number.Goals as goal

pub bounds-out-k : goal.bounds-out-k
bounds-out-k t c = omega (arith, number_at c.put_number-k.ensures c.ranges.n.fits, c.put_number-k.auto.out, c.requires)

pub overflow_add-result : goal.overflow_add-result
overflow_add-result t c = omega (arith, number_at c.put_number-k.ensures c.ranges.n.fits)

pub returns-then-n-lt10 : goal.returns-then-n-lt10
returns-then-n-lt10 t c = number_short c.args.out.now c.args.n c.requires (omega (arith, c.if-n-lt10.true))

pub returns : goal.returns
returns t c = number_long c.put_number-k.ensures c.ranges.n.fits c.requires (omega (arith, c.if-n-lt10.false))
