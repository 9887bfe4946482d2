-- The vertices before v have their bounds.
use Rattle.std.proofs.Common.{ℕ, ◌<◌, ◌≡◌, length, get_or}
use Rattle.graph.specs.Limits.{most_vertices}
use Rattle.method.specs.Method.{natural_bound}
use Rattle.optimiser.proofs.table_of.Given as goal

abbrev pub invariant-loop-v : goal.invariant-loop-v
invariant-loop-v l = record {
  long : length l.most ≡ most_vertices;
  filled : (k : ℕ) → k < l.v → get_or l.most k 0 ≡ natural_bound l.bound k;
}
