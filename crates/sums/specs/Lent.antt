-- What is lent of prices, once the lengths and the number of odd sets are tested.
use Rattle.std.specs.Prelude.{◌≤◌, ◌≡◌, length}
use Rattle.graph.specs.declared.Shape.{Shape}
use Rattle.graph.specs.Limits.{most_sets}
use Rattle.graph.specs.Graph.{vertices_in}
use Rattle.dual.specs.Prices.{Prices, prices_of}
use Rattle.sums.specs.declared.Prices as declared

-- The prices that are lent.
abbrev pub prices_in : declared.Prices → Prices
prices_in P = prices_of P.vertex.now P.edge.now P.sets P.set.now P.marks.vertices.now P.marks.edges.now

-- A price for each vertex, for each edge, and for each of at most 16 odd sets.
pub record PricesLent (s : Shape) (P : Prices) : Type 0 where
  pub vertex_long : length P.vertex ≡ vertices_in s
  pub edge_long : length P.edge ≡ s.edges
  pub few : P.sets ≤ most_sets
  pub set_long : length P.set ≡ P.sets
