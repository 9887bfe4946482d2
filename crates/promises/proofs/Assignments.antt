-- The promises of request U7 are kept.
use Rattle.std.specs.Prelude.{Ok}
use Prim.Native.Nat.{ℕ, ◌-◌}
use mathlib.Core.Path.{◌≡◌, sym, ap, ap₂, ◌∙◌, subst}
use mathlib.Core.List.{List, ◌++◌}
use lib.IntN.{ℤ, pos}
use lib.ListN.{replicate}
use Rattle.graph.specs.Limits.{most_vertices, most_edges, longest_text}
use Rattle.graph.specs.Refusal.{Outcome, output}
use Rattle.graph.specs.Graph.{Graph, vertices}
use Rattle.graph.specs.Passed.{Passed, Bounded}
use Rattle.graph.proofs.Passed.{bounds_passed}
use Rattle.layout.specs.GraphText.{graph_text}
use Rattle.layout.specs.TidyText.{tidy_text}
use Rattle.layout.specs.AssignmentText.{assignment_text, write_assignment, unit_bounds}
use Rattle.readback.proofs.GraphBack.{graph_back}
use Rattle.patterns.proofs.Texts.{passed_passing}
use Rattle.assignments.proofs.Written.{unit_long, unit_range, all_one, yields_written, unit_writes}
use Rattle.assignments.proofs.Back.{assignment_back, written_back}
use Rattle.assignments.proofs.Passes.{assignment_passes}
use Rattle.report.specs.declared.Source.TheVariants as Source
use Rattle.report.specs.Programs.{Run, has, Problem, came_from, written, and_then, problem_in}
use Rattle.report.specs.Programs.{to_dimacs_run, to_dimacs_output, from_dimacs_output}
use Rattle.promises.specs.Promises.{GoesOutAs, ComesInAs, ThereAndBack, OnlyUnitBounds, BoundsComeInAsOne, ReadAssignmentsPass}
use Rattle.promises.specs.Promises.{ReadAs, UnitSheet, SheetsThereAndBack}
use Rattle.promises.proofs.Solver.{lent-right, solver_takes}
use Rattle.promises.proofs.Kept.{passing-passed, passed_accepted}
use Rattle.promises.proofs.Tidied.{sheet-passed, passed_tidied, yields_once}
use Rattle.promises.proofs.Programs.{read-problem}

-- ---- out and back

no_two_alike : (g h : Graph) (bound other : List ℤ) (text : List ℕ) → GoesOutAs g bound text → GoesOutAs h other text → (g ≡ h) × (bound ≡ other)
no_two_alike g h bound other text (n, e) (k, f) =
    let a = written_back g bound n text e in
    let b = written_back h other k text f in
    let same : g ≡ h = yields_once a.0 b.0 in
    (same, a.1 ∙ ap (λ (x : Graph). unit_bounds x) same ∙ sym b.1)

pub there_and_back : ThereAndBack
there_and_back = record {
  graph = λ g bound text (n, e). (written_back g bound n text e).0;
  bounds = λ g bound text (n, e). sym (written_back g bound n text e).1;
  apart = no_two_alike;
}

-- ---- what can go out

pub only-unit-bounds : OnlyUnitBounds
only-unit-bounds g bound n = (
  λ (text, e).
      let W = yields_written g bound n text e in
      record { graph = passed_passing W.passed; two_sided = W.kind; bound_long = W.bound_long; ones = W.ones; lent = W.lent },
  λ C. (
    assignment_text g,
    ap₂ (λ (b : List ℤ) (m : ℕ). write_assignment g b m) (all_one g bound C.bound_long C.ones) C.lent
        ∙ unit_writes (passing-passed C.graph) C.two_sided,
  ),
)

-- ---- what comes in

came_passed : (text : List ℕ) (g : Graph) → ComesInAs text g → Passed g
came_passed text g e = (assignment_passes most_edges most_edges most_edges most_vertices text g e).0

pub bounds-come-in-as-one : BoundsComeInAsOne
bounds-come-in-as-one text g e = (
  (came_passed text g e).sound.sizes.order,
  ap (output most_vertices (pos 0) unit_bounds) e ∙ ap (λ (k : ℕ). unit_bounds g ++ replicate (most_vertices - k) (pos 0)) (unit_long g),
)

came_bounded : (g : Graph) → Bounded (vertices g) (unit_bounds g)
came_bounded g = bounds_passed g (unit_bounds g) (unit_long g) (unit_range g)

pub read-assignments-pass : ReadAssignmentsPass
read-assignments-pass = record {
  accepted = λ text g e. passed_accepted (came_passed text g e) (came_bounded g);
  solved = λ text g e n index built.
      let P = assignment_passes most_edges most_edges most_edges most_vertices text g e in
      solver_takes P.0 (came_bounded g) (lent-right g) P.1 n index built;
  tidied = λ text g e. (tidy_text g, passed_tidied (came_passed text g e));
  sent_out = λ text g e.
      let P = assignment_passes most_edges most_edges most_edges most_vertices text g e in (assignment_text g, unit_writes P.0 P.1);
}

-- ---- the programs

module _ (sheet limits : List ℕ) (g : Graph) (U : UnitSheet sheet limits g) where
  passed : Passed g
  passed = sheet-passed sheet g U.read

  -- What both programs read: the sheet with its limits.
  unit_read : problem_in sheet limits ≡ has (record { graph = g; bound = unit_bounds g })
  unit_read = read-problem sheet limits (record { graph = g; bound = unit_bounds g }) (record { graph = U.read; bounds = U.ones })

  sheet-out : to_dimacs_output sheet limits ≡ assignment_text g
  unfolding to_dimacs_output
  sheet-out =
      ap (λ (r : Run Problem). written (λ text. text) (and_then r to_dimacs_run)) unit_read
      ∙ ap (λ (o : Outcome (List ℕ)). written (λ text. text) (came_from Source.Input o)) (unit_writes passed U.two_sided)

  sheet-in : from_dimacs_output (assignment_text g) ≡ graph_text g
  unfolding from_dimacs_output
  sheet-in = ap (λ (o : Outcome Graph). written graph_text (came_from Source.Assignment o)) (assignment_back passed U.two_sided)

  sheet-back : from_dimacs_output (to_dimacs_output sheet limits) ≡ graph_text g
  sheet-back = ap from_dimacs_output sheet-out ∙ sheet-in

pub sheets-there-and-back : SheetsThereAndBack
sheets-there-and-back = record {
  out = λ sheet limits g U.
      (longest_text, unit_writes (passed sheet limits g U) U.two_sided ∙ ap Ok (sym (sheet-out sheet limits g U)));
  back = sheet-back;
  read = λ sheet limits g U. subst (λ (text : List ℕ). ReadAs text g) (sym (sheet-back sheet limits g U)) (graph_back (passed sheet limits g U));
}
