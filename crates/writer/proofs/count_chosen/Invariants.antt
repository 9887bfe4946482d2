use Rattle.std.proofs.Common.{◌≡◌, ◌*◌, ◌≤◌}
use Rattle.integers.specs.Sum.{sum}
use Rattle.graph.specs.Subgraph.{mark_at}
use Rattle.writer.proofs.count_chosen.Given as goal

abbrev pub invariant-loop-mark : goal.invariant-loop-mark
invariant-loop-mark l = (l.count ≡ sum l.mark-index (mark_at l.chosen)) × (l.count ≤ 255 * l.mark-index)
