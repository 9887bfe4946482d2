-- The nearest of the open vertices at the places before i.
use Rattle.method.specs.Tree.{entries}
use Rattle.method.specs.Front.{Nearest}
use Rattle.dual_step.proofs.nearest.Given as goal

abbrev pub invariant-loop-i : goal.invariant-loop-i
invariant-loop-i l = Nearest (entries l.distance) (entries l.order) l.count l.reached l.goal l.i l.place l.best
