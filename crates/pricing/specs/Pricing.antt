-- The prices that are handed out: those of edges come from their marks, and all are in half points.
use Rattle.std.specs.Prelude.{ℕ, ◌*◌, ◌-◌, ◌≤◌, ◌<◌, ◌≡◌, List, ℤ, pos, get_or}
use Rattle.graph.specs.Graph.{Graph, vertices}
use Rattle.graph.specs.Subgraph.{mark_at}
use Rattle.graph.specs.Passed.{Passed, MarksHold}
use Rattle.dual.specs.Gap.{half_points}
use Rattle.method.specs.Method.{level, top_price, value, cost}

-- The prices of edges can be told: where an edge is chosen, its weight is not below its ends' prices.
pub record Payable (g : Graph) (x : List ℕ) (price : ℕ → ℕ) : Type 0 where
  pub passed : Passed g
  pub most : (v : ℕ) → v < vertices g → price v ≤ top_price
  pub marks : MarksHold g.edges x
  pub chosen : (e : ℕ) → e < g.edges → mark_at x e ≡ 1 → cost g price e ≤ value g e

-- The price of edge e in points: where it is chosen, what its weight is above its ends' prices.
abbrev pub edge_price_of : Graph → List ℕ → (ℕ → ℕ) → ℕ → ℕ
edge_price_of g x price e = mark_at x e * (value g e - cost g price e)

-- The prices that are handed out, in half points.
pub record HandedOut (g : Graph) (x : List ℕ) (price : ℕ → ℕ) (vertex edge : List ℤ) : Type 0 where
  pub of_vertex : (v : ℕ) → v < vertices g → get_or vertex v (pos 0) ≡ half_points (pos (price v - level))
  pub of_edge : (e : ℕ) → e < g.edges → get_or edge e (pos 0) ≡ half_points (pos (edge_price_of g x price e))
