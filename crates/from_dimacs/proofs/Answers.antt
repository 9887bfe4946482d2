-- What `from_dimacs` writes, by what the reader yields.
use Rattle.std.specs.Prelude.{Ok}
use Prim.Native.Nat.{ℕ}
use mathlib.Core.Path.{◌≡◌, sym, ap, ◌∙◌}
use mathlib.Core.Bool.{true}
use mathlib.Core.List.{List}
use Rattle.graph.specs.Refusal.{Outcome}
use Rattle.graph.specs.Graph.{Graph, shape_of, shape_in_range}
use Rattle.graph.specs.Tests.{graph_lengths}
use Rattle.graph.specs.Passed.{Passed}
use Rattle.graph.proofs.Passed.{passed_lengths}
use Rattle.layout.specs.GraphText.{graph_text}
use Rattle.layout.specs.AssignmentText.{read_assignment}
use Rattle.assignments.proofs.Passes.{assignment_passes}
use Rattle.report.specs.declared.Source.TheVariants as Source
use Rattle.report.specs.Programs.{came_from, written, from_dimacs_output}
use Rattle.problem_reader.proofs.Lent.{lent_edges, weights_lent, bounds_lent, lengths_lent}

-- What it yields, by the arrays that it is lent.
abbrev pub lent_assignment : List ℕ → Outcome Graph
lent_assignment crosses = read_assignment lent_edges lent_edges weights_lent bounds_lent crosses

module _ (crosses : List ℕ) where
  pub writes : {o : Outcome Graph} → lent_assignment crosses ≡ o → from_dimacs_output crosses ≡ written graph_text (came_from Source.Assignment o)
  unfolding from_dimacs_output
  writes is = ap (λ (o : Outcome Graph). written graph_text (came_from Source.Assignment o)) (sym (lengths_lent (λ r c w b. read_assignment r c w b crosses)) ∙ is)

  -- A graph that it yields has passed the tests.
  module _ (g : Graph) (is : lent_assignment crosses ≡ Ok g) where
    pub passed : Passed g
    passed = (assignment_passes lent_edges lent_edges weights_lent bounds_lent crosses g is).0

    pub whole : (graph_lengths g ≡ true) × (shape_in_range (shape_of g) ≡ true)
    whole = (passed_lengths passed, passed.sound.sizes.test)
