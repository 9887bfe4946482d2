-- What is left of a bipartite graph that is solved for its prices alone.
use Rattle.std.specs.Prelude.{ℕ, ◌+◌, ◌<◌, ◌≡◌, List, ℤ, pos, ◌+ℤ◌, length, get_or}
use Rattle.graph.specs.Graph.{Graph}
use Rattle.dual.specs.Gap.{half_points}
use Rattle.dual.specs.Solve.{Outputs, Solved, outputs_of}

-- The graph is solved, by some subgraph, with these prices of vertices and edges.
pub record SolvedWith (g : Graph) (bound vertex edge : List ℤ) : Type 0 where
  pub chosen : List ℕ
  pub solved : Solved g bound (outputs_of chosen vertex edge)

-- The graph is solved, and each price here is, as half points, the sum of two of its prices in points: of those of the vertices, and of the edges, the
-- second half stands after the first.
pub record SummedFrom (g : Graph) (bound vertex edge : List ℤ) : Type 0 where
  pub solution : Outputs
  pub solved : Solved g bound solution
  pub of_vertex : (v : ℕ) → v < length vertex →
      half_points (get_or vertex v (pos 0)) ≡ get_or solution.vertex_prices v (pos 0) +ℤ get_or solution.vertex_prices (length vertex + v) (pos 0)
  pub of_edge : (e : ℕ) → e < length edge →
      half_points (get_or edge e (pos 0)) ≡ get_or solution.edge_prices e (pos 0) +ℤ get_or solution.edge_prices (length edge + e) (pos 0)
