-- What the tests of a price sheet's lengths have shown once they have passed. Inner functions ask for it.
use Rattle.std.specs.Prelude.{◌*◌, ◌≡◌, length}
use Rattle.graph.specs.Limits.{vertex_words, edge_words}
use Rattle.graph.specs.Graph.{Graph, vertices}
use Rattle.dual.specs.Prices.{Prices}

-- A price sheet has just the lengths that n, m and the number of sets give (9).
pub record PriceLengths (g : Graph) (P : Prices) : Type 0 where
  pub vertex : length P.vertex ≡ vertices g
  pub edge : length P.edge ≡ g.edges
  pub set : length P.set ≡ P.sets
  pub set_vertices : length P.marks.vertices ≡ vertex_words * P.sets
  pub set_edges : length P.marks.edges ≡ edge_words * P.sets
