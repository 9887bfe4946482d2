-- The loop keeps: the total counts the ones among the first k bits in the words before word i.
use Rattle.bits.proofs.Row.{OnesCounted}
use Rattle.bits.proofs.ones.Given as goal

abbrev pub invariant-loop-i : goal.invariant-loop-i
invariant-loop-i l = OnesCounted l.words l.from l.count l.k l.i l.total
