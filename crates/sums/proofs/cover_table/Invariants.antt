-- The loop keeps: the table has the covers of the edges before e.
use Rattle.std.proofs.Common.{ℕ, ◌≡◌, ◌<◌, ◌^◌, pos, length, get_or, []}
use Rattle.integers.specs.Integer.{Within}
use Rattle.graph.specs.Graph.{graph_of}
use Rattle.dual.specs.Gap.{cover_of}
use Rattle.sums.specs.Lent.{prices_in}
use Rattle.sums.proofs.cover_table.Given as goal

abbrev pub invariant-loop-e : goal.invariant-loop-e
invariant-loop-e l =
    (length l.table ≡ 1024)
    × ((j : ℕ) → j < l.e → (get_or l.table j (pos 0) ≡ cover_of (graph_of l.s l.row l.column []) (prices_in l.prices) j) × Within (2 ^ 36) (get_or l.table j (pos 0)))
