-- What the measuring call's numbers mean, and what they say of the solver's prices.
use Rattle.std.specs.Prelude.{ℕ, ◌≤◌, ◌<◌, ◌≡◌, ◌↔◌, List, ℤ, pos, ◌+ℤ◌, ◌≤ℤ◌, Ok}
use Rattle.graph.specs.Graph.{Graph}
use Rattle.graph.specs.Subgraph.{Feasible, Optimal, weight_of, lacks}
use Rattle.dual.specs.declared.Measures.{Measures}
use Rattle.dual.specs.Prices.{Prices}
use Rattle.dual.specs.Sets.{capacity}
use Rattle.dual.specs.Gap.{half_points, chosen_covered}
use Rattle.dual.specs.Measure.{measure, measures}
use Rattle.dual.specs.Solve.{Outputs, solver_prices}

-- What M, measured of the subgraph x against the prices P, means: they are the numbers that are defined, of a feasible subgraph; no slack is below 0,
-- and they add up to the gap; twice what x lacks against any feasible subgraph is at most the gap; and no feasible subgraph chooses more edges that an
-- odd set covers than the set's capacity.
pub record Meaning (g : Graph) (bound : List ℤ) (x : List ℕ) (P : Prices) (M : Measures) : Type 0 where
  pub numbers : M ≡ measures g bound x P
  pub feasible : Feasible g bound x
  pub vertex_slack : pos 0 ≤ℤ M.vertices
  pub set_slack : pos 0 ≤ℤ M.sets
  pub edge_slack : pos 0 ≤ℤ M.edges
  pub cover_slack : pos 0 ≤ℤ M.cover
  pub slacks : M.vertices +ℤ M.sets +ℤ M.edges +ℤ M.cover ≡ M.gap
  pub lack : (y : List ℕ) → Feasible g bound y → half_points (lacks g y x) ≤ℤ M.gap
  pub sets : (s : ℕ) → s < P.sets → (y : List ℕ) → Feasible g bound y → chosen_covered g y P.marks s ≤ capacity g bound P.marks s

-- What the solver's outputs say of a feasible subgraph y: measured against its prices y has for its gap just twice what it lacks against the chosen
-- subgraph, so that its gap is 0 where it weighs as much, or, which is the same, where it is optimal, and not otherwise.
pub record Certified (g : Graph) (bound : List ℤ) (S : Outputs) (y : List ℕ) : Type 0 where
  pub numbers : Measures
  pub measured : measure g bound y (solver_prices S) ≡ Ok numbers
  pub exact : numbers.gap ≡ half_points (lacks g S.chosen y)
  pub gap_is_zero : (numbers.gap ≡ pos 0) ↔ (weight_of g y ≡ weight_of g S.chosen)
  pub optimal : (numbers.gap ≡ pos 0) ↔ Optimal g bound y
