-- What weak duality asks of a graph and of its prices.
use Prim.Native.Nat.{ℕ, ◌<◌}
use mathlib.Core.Path.{◌≡◌}
use mathlib.Core.Bool.{true}
use mathlib.Core.List.{List}
use lib.IntN.{ℤ, pos}
use lib.Signed.{◌≤ℤ◌}
use Rattle.graph.specs.Graph.{Graph, vertices, first_end, second_end}
use Rattle.dual.specs.Prices.{Prices, vertex_price, edge_price, set_price}
use Rattle.dual.specs.Sets.{keeps_rules}
use Rattle.dual.specs.Gap.{worth_at, cover_of}

-- The ends of every edge are vertices of the graph.
pub record Incident (g : Graph) : Type 0 where
  pub first : (e : ℕ) → e < g.edges → first_end g e < vertices g
  pub second : (e : ℕ) → e < g.edges → second_end g e < vertices g

-- Prices are dual feasible if none is below 0, every odd set keeps the rules, and every edge is covered.
pub record DualFeasible (g : Graph) (bound : List ℤ) (P : Prices) : Type 0 where
  pub vertex_prices : (v : ℕ) → v < vertices g → pos 0 ≤ℤ vertex_price P v
  pub edge_prices : (e : ℕ) → e < g.edges → pos 0 ≤ℤ edge_price P e
  pub set_prices : (s : ℕ) → s < P.sets → pos 0 ≤ℤ set_price P s
  pub rules : (s : ℕ) → s < P.sets → keeps_rules g bound P.marks s ≡ true
  pub covering : (e : ℕ) → e < g.edges → worth_at g e ≤ℤ cover_of g P e
