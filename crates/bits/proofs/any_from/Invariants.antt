-- The loop keeps: no bit from bit k on is set in the words before word i.
use Rattle.bits.proofs.Row.{Clear}
use Rattle.bits.proofs.any_from.Given as goal

abbrev pub invariant-loop-i : goal.invariant-loop-i
invariant-loop-i l = Clear l.words l.from l.count l.k l.i
