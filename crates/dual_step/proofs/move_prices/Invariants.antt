-- The first i vertices of the list have moved.
use Rattle.method.specs.Tree.{entries}
use Rattle.method.specs.Front.{Shifted}
use Rattle.dual_step.proofs.move_prices.Given as goal

abbrev pub invariant-loop-i : goal.invariant-loop-i
invariant-loop-i l = Shifted l.rows (entries l.order) (entries l.distance) (entries l.initial.price) (entries l.price) l.i l.goal
