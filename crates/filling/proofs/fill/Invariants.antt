-- The numbers before the index are the value, and the others are as they were.
use Rattle.std.proofs.Common.{◌≡◌, ◌++◌, replicate, drop}
use Rattle.filling.proofs.fill.Given as goal

abbrev pub invariant-loop-x : goal.invariant-loop-x
invariant-loop-x g l = l.out ≡ replicate l.x-index l.value ++ drop l.x-index l.initial.out

-- The loop ends with the slice, so it needs no measure. A loop of another kind would have one here:
-- must-fail/without_end.edit gives it one that does not fall.
