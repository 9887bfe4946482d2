-- When the call that prices a general graph (a tank sheet; document 02, U8) refuses, and what holds of its prices.
use Rattle.std.specs.Prelude.{ℕ, ◌+◌, ◌<◌, ◌≡◌, ◌&&◌, List, [], ◌∷◌, ◌++◌, eqb, ℤ, pos, ◌+ℤ◌, length, replicate, Ok, Err}
use Rattle.graph.specs.declared.Fault.{Fault}
use Rattle.graph.specs.Refusal.{Outcome, refuses, Told, tells, refused_with, number_of, Test, passing}
use Rattle.graph.specs.Graph.{Graph, vertices}
use Rattle.graph.specs.Tests.{bounded_tests}
use Rattle.graph.specs.Doubled.{doubled, doubled_bounds, doubled_test}
use Rattle.dual.specs.Prices.{Prices, vertex_price, edge_price}
use Rattle.dual.specs.Gap.{half_points}
use Rattle.dual.specs.Solve.{Outputs, solver_prices, Solved, without_sets}

-- Its tests, where v numbers are lent for the prices of vertices and e for those of edges: those of a graph with bounds (9, 4, 6, 7, 8, 10), and that the
-- graph is doubled (24).
abbrev pub general_tests : Graph → List ℤ → ℕ → ℕ → List Test
general_tests g bound v e = bounded_tests g bound (eqb v (vertices g) && eqb e g.edges) ++ (doubled_test g ∷ [])

-- When it refuses.
unfoldable pub price_general : Graph → List ℤ → ℕ → ℕ → Outcome (Unit {0})
price_general g bound v e = passing (general_tests g bound v e) (Ok tt)

-- The doubled graph is solved by S, and each vertex and each edge has, as half points, the sum of its two prices there in points. These are counted in half
-- points, so that twice the price is the sum of the two.
pub record PricedFrom (g : Graph) (bound : List ℤ) (S : Outputs) (P : Prices) : Type 0 where
  pub solved : Solved (doubled g) (doubled_bounds bound) S
  pub vertex : (v : ℕ) → v < vertices g → half_points (vertex_price P v) ≡ vertex_price (solver_prices S) v +ℤ vertex_price (solver_prices S) (vertices g + v)
  pub edge : (e : ℕ) → e < g.edges → half_points (edge_price P e) ≡ edge_price (solver_prices S) e +ℤ edge_price (solver_prices S) (g.edges + e)

-- What holds of its prices, which are its own choice: they come so from a solution of the doubled graph.
pub record DoublyPriced (g : Graph) (bound : List ℤ) (P : Prices) : Type 0 where
  pub solution : Outputs
  pub from : PricedFrom g bound solution P

-- What it leaves of v numbers for the prices of vertices and e for those of edges: where it accepts the graph, such prices, and where it refuses only zeros.
-- All is as long as before.
pub record GeneralLeft (g : Graph) (bound : List ℤ) (v e : ℕ) (vertex edge : List ℤ) : Type 0 where
  pub priced : price_general g bound v e ≡ Ok tt → DoublyPriced g bound (without_sets vertex edge)
  pub refused : (fault : Fault) (place : ℕ) → price_general g bound v e ≡ refuses fault place →
      (vertex ≡ replicate v (pos 0)) × (edge ≡ replicate e (pos 0))
  pub vertex_long : length vertex ≡ v
  pub edge_long : length edge ≡ e
