-- When the solver refuses, and what holds of its answer.
use Rattle.std.specs.Prelude.{ℕ, ◌<◌, ◌≡◌, Bool, ◌&&◌, List, [], ◌∷◌, ◌++◌, eqb, ℤ, pos, length, replicate, ◌≤ℤ◌, Ok, Err}
use Rattle.graph.specs.Limits.{workspace_numbers, greatest_solver_price}
use Rattle.graph.specs.declared.Fault.{Fault}
use Rattle.graph.specs.Refusal.{Outcome, refuses, Told, tells, refused_with, number_of, Test, passing}
use Rattle.graph.specs.declared.Shape.{Shape}
use Rattle.graph.specs.Graph.{Graph, shape_of, vertices, vertices_in}
use Rattle.graph.specs.Subgraph.{Optimal}
use Rattle.graph.specs.Tests.{bipartite_tests}
use Rattle.graph.specs.Index.{index_numbers_in, index_test}
use Rattle.dual.specs.Prices.{Prices, prices_of, vertex_price, edge_price}
use Rattle.dual.specs.Gap.{half_points, worth_at, cover_of, gap_of}

-- The lengths of the outputs that are lent to the solver: marks, vertex prices, edge prices and the workspace (scratch).
pub record Lent : Type 0 where
  pub chosen : ℕ
  pub vertex_prices : ℕ
  pub edge_prices : ℕ
  pub workspace : ℕ

abbrev pub lent_of : ℕ → ℕ → ℕ → ℕ → Lent
lent_of chosen vertex edge workspace = record { chosen = chosen; vertex_prices = vertex; edge_prices = edge; workspace = workspace }

-- What the solver hands out: the marks of the edges, those that it chose, and the prices of vertices and of edges.
pub record Outputs : Type 0 where
  pub chosen : List ℕ
  pub vertex_prices : List ℤ
  pub edge_prices : List ℤ

abbrev pub outputs_of : List ℕ → List ℤ → List ℤ → Outputs
outputs_of chosen vertex edge = record { chosen = chosen; vertex_prices = vertex; edge_prices = edge }

-- What is lent besides the graph and its bounds, the index too, has just the lengths that the numbers of vertices and of edges give, and the workspace its own
-- (9).
abbrev pub other_lengths : Shape → ℕ → Lent → Bool
other_lengths s index lent =
    eqb index (index_numbers_in s) && eqb lent.chosen s.edges && eqb lent.vertex_prices (vertices_in s) && eqb lent.edge_prices s.edges
    && eqb lent.workspace workspace_numbers

-- The solver's tests: those of a bipartite graph with bounds, and that the lent index is the graph's (18).
abbrev pub solver_tests : Graph → List ℤ → List ℕ → Lent → List Test
solver_tests g bound index lent = bipartite_tests g bound (other_lengths (shape_of g) (length index) lent) ++ (index_test g index ∷ [])

-- When the solver refuses. It accepts a graph with its bounds and its index where none of these tests refuses.
unfoldable pub solve : Graph → List ℤ → List ℕ → Lent → Outcome (Unit {0})
solve g bound index lent = passing (solver_tests g bound index lent) (Ok tt)

-- A price sheet of vertices and edges, and no odd sets.
abbrev pub without_sets : List ℤ → List ℤ → Prices
without_sets vertex edge = prices_of vertex edge 0 [] [] []

-- The solver's prices have no odd sets.
abbrev pub solver_prices : Outputs → Prices
solver_prices S = without_sets S.vertex_prices S.edge_prices

-- A price of the solver's is from 0 to 2,000,000 half points and even: a number of points in half points.
pub record SolverPrice (z : ℤ) : Type 0 where
  pub least : pos 0 ≤ℤ z
  pub greatest : z ≤ℤ pos greatest_solver_price
  pub points : ℤ
  pub even : z ≡ half_points points

-- What holds of the solver's answer, whose subgraph and prices are its own choice: the subgraph is optimal, the prices are even, in range and cover
-- every edge, and the gap is 0.
pub record Solved (g : Graph) (bound : List ℤ) (S : Outputs) : Type 0 where
  pub optimal : Optimal g bound S.chosen
  pub vertex_range : (v : ℕ) → v < vertices g → SolverPrice (vertex_price (solver_prices S) v)
  pub edge_range : (e : ℕ) → e < g.edges → SolverPrice (edge_price (solver_prices S) e)
  pub covering : (e : ℕ) → e < g.edges → worth_at g e ≤ℤ cover_of g (solver_prices S) e
  pub gap_is_zero : gap_of g bound S.chosen (solver_prices S) ≡ pos 0

-- Every mark and price is 0.
pub record Zero (lent : Lent) (S : Outputs) : Type 0 where
  pub marks : S.chosen ≡ replicate lent.chosen 0
  pub vertices : S.vertex_prices ≡ replicate lent.vertex_prices (pos 0)
  pub edges : S.edge_prices ≡ replicate lent.edge_prices (pos 0)

-- What the solver leaves: where it accepts the graph, a solution, and where it refuses only zeros; and the workspace holds zeros. All is as long as before.
pub record Left (g : Graph) (bound : List ℤ) (index : List ℕ) (lent : Lent) (S : Outputs) (workspace : List ℤ) : Type 0 where
  pub solved : solve g bound index lent ≡ Ok tt → Solved g bound S
  pub refused : (fault : Fault) (place : ℕ) → solve g bound index lent ≡ refuses fault place → Zero lent S
  pub cleared : workspace ≡ replicate lent.workspace (pos 0)
  pub chosen_long : length S.chosen ≡ lent.chosen
  pub vertex_long : length S.vertex_prices ≡ lent.vertex_prices
  pub edge_long : length S.edge_prices ≡ lent.edge_prices
