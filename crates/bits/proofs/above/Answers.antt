-- A shift drops the bits below k, and what is left is 0 where no bit is set.
use Rattle.std.proofs.Common.{sym}
use Rattle.bits.proofs.Word.{some_above}
use Rattle.bits.proofs.above.Goals as goal

pub returns-then-k : goal.returns-then-k
returns-then-k c = sym (some_above c.args.word c.args.k c.ranges.word.fits c.if-k.true)
