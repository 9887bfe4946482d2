-- What the sums of the prices of a solved graph are where it is the doubled graph.
use Prim.Native.Nat.{ℕ, ◌+◌, ◌<◌}
use mathlib.Core.Path.{◌≡◌, subst, subst₂}
use mathlib.Core.List.{List}
use lib.IntN.{ℤ, pos, ◌+ℤ◌}
use lib.ListN.{length, get_or}
use Rattle.graph.specs.Graph.{Graph, vertices}
use Rattle.graph.specs.Doubled.{doubled, doubled_bounds}
use Rattle.dual.specs.Gap.{half_points}
use Rattle.dual.specs.Solve.{Solved, without_sets}
use Rattle.dual.specs.PriceGeneral.{DoublyPriced}
use Rattle.general_pricer.specs.SolvedWith.{SummedFrom}

-- Of n prices each is a sum of two in xs.
abbrev pub SumsIn : List ℤ → ℕ → List ℤ → Type 0
SumsIn xs n out = (k : ℕ) → k < n → half_points (get_or out k (pos 0)) ≡ get_or xs k (pos 0) +ℤ get_or xs (n + k) (pos 0)

-- The graph that is solved is the doubled graph, with its bounds, and there are as many sums of its prices as the graph has vertices and edges.
pub doubly_priced : {g h : Graph} {bound bounds vertex edge : List ℤ} → h ≡ doubled g → bounds ≡ doubled_bounds bound → length vertex ≡ vertices g →
    length edge ≡ g.edges → SummedFrom h bounds vertex edge → DoublyPriced g bound (without_sets vertex edge)
doubly_priced {vertex = vertex} {edge} graph bounds p q S = record {
  solution = S.solution;
  from = record {
    solved = subst₂ (λ h k. Solved h k S.solution) graph bounds S.solved;
    vertex = subst (λ n. SumsIn S.solution.vertex_prices n vertex) p S.of_vertex;
    edge = subst (λ n. SumsIn S.solution.edge_prices n edge) q S.of_edge;
  };
}
