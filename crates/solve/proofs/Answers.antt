-- What a solved or refused problem leaves is what `solve` writes.
use Rattle.std.specs.Prelude.{Ok, Err}
use Prim.Native.Nat.{ℕ, ◌≤◌}
use mathlib.Core.Path.{◌≡◌, refl, sym, ap, ◌∙◌, subst}
use mathlib.Core.Logic.{◌≢◌}
use mathlib.Core.List.{List, [], ◌++◌}
use native.Mathlib.Omega.{arith}
use lib.IntN.{ℤ, pos}
use lib.ListN.{length, take, replicate}
use lib.Seq.{take_at}
use borrow.Author.Tests.{ne_eqb}
use Rattle.graph.specs.declared.Fault.{Fault}
use Rattle.graph.specs.declared.Refusal.{Refusal}
use Rattle.graph.specs.Refusal.{Outcome, refuses, reported, filled, output}
use Rattle.graph.specs.Graph.{Graph, vertices}
use Rattle.graph.specs.Subgraph.{Optimal}
use Rattle.graph.specs.Index.{index_numbers, build_index}
use Rattle.graph.specs.Passed.{SizesHold, Passed, MarksHold}
use Rattle.graph.proofs.Passing.{zero_one}
use Rattle.graph.proofs.Index.{index_fills}
use Rattle.layout.specs.SubgraphText.{subgraph_text}
use Rattle.dual.specs.Solve.{Lent, Outputs, solve, lent_of, Left}
use Rattle.duality.proofs.Passed.{solve-passed}
use Rattle.writer.specs.Written.{Written}
use Rattle.report.specs.declared.Source.{Source}
use Rattle.report.specs.Report.{refused_line, line_room, Composed}
use Rattle.report.specs.Programs.{Run, has, ends, came_from, and_then, written, Problem, problem_in, lent_for, solve_indexed, solve_problem, solve_output, subgraph_room}
use Rattle.report.specs.Programs.{SolveComposed}
use Rattle.report.proofs.Parts.{composed_inside, exact_none, exact_text, exact_line}
use Rattle.report.proofs.Runs.{run-goes, run_ends, line-fits}
use Rattle.problem_reader.proofs.Kept.{reported-yields, reported-refuses}
use Rattle.lent.proofs.Parts.{zeros-lent}
use Rattle.solve.specs.Solution.{Solution}

-- ---- what is lent

-- The arrays that marks and prices are lent from.
abbrev pub no_marks : List ℕ
no_marks = replicate 1024 0

abbrev pub no_prices : ℕ → List ℤ
no_prices n = replicate n (pos 0)

-- What is lent of them, where there are n vertices.
abbrev pub lent_parts : Graph → ℕ → Lent
lent_parts g n = lent_of (length (take g.edges no_marks)) (length (take n (no_prices 128))) (length (take g.edges (no_prices 1024))) 4096

pub all_lent : (g : Graph) {n : ℕ} → SizesHold g.kind g.rows g.columns g.edges → n ≡ vertices g → lent_parts g n ≡ lent_for g
all_lent g {n} sizes all =
    ap (λ k. lent_of k (length (take n (no_prices 128))) (length (take g.edges (no_prices 1024))) 4096) (sym (zeros-lent 0 1024 sizes.few))
    ∙ ap (λ k. lent_of g.edges k (length (take g.edges (no_prices 1024))) 4096) (sym (zeros-lent (pos 0) 128 (omega (arith, sizes.order))) ∙ all)
    ∙ ap (λ k. lent_of g.edges (vertices g) k 4096) (sym (zeros-lent (pos 0) 1024 sizes.few))

-- ---- what is answered

-- A line that was written to a buffer of 16,384 bytes.
pub line_kept : {text before after : List ℕ} {r : ℕ} → length before ≡ 16384 → Composed line_room text before after r → Composed subgraph_room text before after r
line_kept long = exact_line 16384 long (omega arith)

-- The solver is lent what the graph gives, and has answered a.
module _ (g : Graph) (bound : List ℤ) (index : List ℕ) {L : Lent} (lent : L ≡ lent_for g) {a : (Outcome (Unit {0}))} (says : a ≡ solve g bound index L) where
  outcome : {b : (Outcome (Unit {0}))} (o : Outcome (Unit {0})) → a ≡ b → b ≡ o → solve_indexed g bound index ≡ came_from Source.Input o
  outcome o is tells =
      ap (λ (l : Lent). came_from Source.Input (solve g bound index l)) (sym lent)
      ∙ ap (came_from Source.Input) ((sym says ∙ is ∙ tells))

  -- What is written stands for what the solver says.
  ends_with : {b : (Outcome (Unit {0}))} (o : Outcome (Unit {0})) (x : List ℕ) {before after : List ℕ} {r : ℕ} → a ≡ b → b ≡ o
      → Composed subgraph_room (written (λ h. subgraph_text h x) (and_then (came_from Source.Input o) (λ u. has g))) before after r
      → Composed subgraph_room (written (λ h. subgraph_text h x) (and_then (solve_indexed g bound index) (λ u. has g))) before after r
  ends_with o x {before} {after} {r} is tells h =
      subst (λ (s : Run (Unit {0})). Composed subgraph_room (written (λ h. subgraph_text h x) (and_then s (λ u. has g))) before after r)
      (sym (outcome o is tells)) h

  pub refusal_left : {f : Refusal} {before after : List ℕ} {r : ℕ} → a ≡ Err f → length before ≡ 16384
      → Composed line_room (refused_line Source.Input f.fault f.place) before after r → Solution g bound (solve_indexed g bound index) before after r
  refusal_left {f} is long h = record {
    chosen = [];
    optimal = λ e. let s = sym (outcome (refuses f.fault f.place) is refl) ∙ e in zero_one (cc);
    composed = ends_with (refuses f.fault f.place) [] is refl (line_kept long h);
  }

  -- It has chosen x.
  module _ (is : a ≡ (Ok tt)) {S : Outputs} {workspace : List ℤ} (left : Left g bound index L S workspace) where
    abbrev x : List ℕ
    x = S.chosen

    accepts : solve g bound index L ≡ Ok tt
    accepts = (sym says ∙ is)

    pub solved_passed : Passed g
    solved_passed = (solve-passed g bound index L accepts).passed

    optimal : Optimal g bound x
    optimal = (left.solved accepts).optimal

    marks_hold : MarksHold g.edges x
    marks_hold = record { long = optimal.feasible.long; each = optimal.feasible.marks }

    -- Its text was written.
    text_composed : {before after : List ℕ} {r : ℕ} → length before ≡ 16384 → Written 16384 (subgraph_text g x) after r → Composed subgraph_room (subgraph_text g x) before after r
    text_composed long W = exact_text 16384 long (W.text ∙ ap (λ n. filled n 0 (subgraph_text g x)) (sym long)) W.size

    -- Its marks stand in the part of an array that was lent, and are written from there.
    module _ (rest : List ℕ) where
      part : take g.edges (x ++ rest) ≡ x
      part = take_at x rest g.edges optimal.feasible.long

      pub part-marks : MarksHold g.edges (take g.edges (x ++ rest))
      part-marks = subst (MarksHold g.edges) (sym part) marks_hold

      pub part-written : {before after : List ℕ} {r : ℕ} → length before ≡ 16384 → Written 16384 (subgraph_text g (take g.edges (x ++ rest))) after r
          → Solution g bound (solve_indexed g bound index) before after r
      part-written {after = after} {r = r} long w = record {
        chosen = x;
        optimal = λ e. optimal;
        composed = ends_with (Ok tt) x is refl (text_composed long (subst (λ (y : List ℕ). Written 16384 (subgraph_text g y) after r) part w));
      }

-- ---- the index

-- What is lent of an array of zeros for the index.
abbrev pub no_index : List ℕ
no_index = replicate 2177 0

pub index_fits : (g : Graph) {k : ℕ} → SizesHold g.kind g.rows g.columns g.edges → k ≡ index_numbers g → k ≤ 2177
index_fits g sizes all = omega (arith, all, sizes.order, sizes.few)

-- The call that builds the index has answered a, where n numbers were lent for it.
module _ (g : Graph) (bound : List ℤ) {n : ℕ} (all : n ≡ index_numbers g) {a : (Outcome (Unit {0}))} (says : a ≡ reported (λ xs. tt) (build_index g n)) where
  built : {b : (Outcome (Unit {0}))} (o : Outcome (Unit {0})) → a ≡ b → b ≡ o → reported (λ xs. tt) (build_index g (index_numbers g)) ≡ o
  built o is tells =
      ap (λ k. reported (λ xs. tt) (build_index g k)) (sym all) ∙ (sym says ∙ is ∙ tells)

  pub index_refused : {f : Refusal} {before after : List ℕ} {r : ℕ} → a ≡ Err f → length before ≡ 16384
      → Composed line_room (refused_line Source.Input f.fault f.place) before after r → Solution g bound (solve_problem g bound) before after r
  index_refused {f} {before} {after} {r} is long h =
      let e = reported-refuses (λ xs. tt {0}) (build_index g (index_numbers g)) f.fault f.place (sym (built (refuses f.fault f.place) is refl)) in
      let ended : solve_problem g bound ≡ ends Source.Input f.fault f.place =
      ap (λ (o : Outcome (List ℕ)). and_then (came_from Source.Input o) (solve_indexed g bound)) e in
      record {
        chosen = [];
        optimal = λ s. let z = sym ended ∙ s in zero_one (cc);
        composed =
            subst (λ (s : Run (Unit {0})). Composed subgraph_room (written (λ h. subgraph_text h []) (and_then s (λ u. has g))) before after r)
            (sym ended) (line_kept long h);
      }

  -- It is built, and solved with what was lent.
  pub index_solved : {index before after : List ℕ} {r : ℕ} → a ≡ (Ok tt) → index ≡ output n 0 (λ xs. xs) (build_index g n)
      → Solution g bound (solve_indexed g bound index) before after r → Solution g bound (solve_problem g bound) before after r
  index_solved {index} {before} {after} {r} is held s =
      let y = reported-yields (λ xs. tt {0}) (build_index g (index_numbers g)) tt (sym (built (Ok tt) is refl)) in
      let same : y.value ≡ index = sym (held ∙ ap (λ k. output k 0 (λ xs. xs) (build_index g k)) all ∙ index_fills g (index_numbers g) y.yielded) in
      let solving : solve_problem g bound ≡ solve_indexed g bound index =
      ap (λ (o : Outcome (List ℕ)). and_then (came_from Source.Input o) (solve_indexed g bound)) y.yielded ∙ ap (solve_indexed g bound) same in
      subst (λ (R : Run (Unit {0})). Solution g bound R before after r) (sym solving) s

-- ---- a problem that is read or refused

-- What comes of a problem.
abbrev goes : Problem → Run Graph
goes P = and_then (solve_problem P.graph P.bound) (λ u. has P.graph)

module _ (sheet limits : List ℕ) {before after : List ℕ} {r : ℕ} where
  pub refusal_written : {source : Source} {fault : Fault} {place : ℕ} → ends source fault place ≡ problem_in sheet limits → length before ≡ 16384
      → Composed line_room (refused_line source fault place) before after r → (r ≤ length after) × SolveComposed sheet limits before after r
  unfolding solve_output
  refusal_written is long h = (
    composed_inside h,
    record {
      chosen = [];
      picked = λ room. record { optimal = λ Q e. zero_one (cc) };
      composed = run_ends subgraph_room (λ g. subgraph_text g []) goes is (line-fits 16384 (omega arith) long) h;
    },
  )

  pub solution_written : {P : Problem} → has P ≡ problem_in sheet limits → Solution P.graph P.bound (solve_problem P.graph P.bound) before after r
      → (r ≤ length after) × SolveComposed sheet limits before after r
  unfolding solve_output
  solution_written {P} is s = (
    composed_inside s.composed,
    record {
      chosen = s.chosen;
      picked = λ room. record {
        optimal = λ Q e.
            let q : P ≡ Q = cc in
            subst (λ (R : Problem). solve_problem R.graph R.bound ≡ has tt → Optimal R.graph R.bound s.chosen) q s.optimal;
      };
      composed = run-goes subgraph_room (λ g. subgraph_text g s.chosen) goes is s.composed;
    },
  )

-- The buffer has another length.
pub nothing_written : (sheet limits : List ℕ) {before after : List ℕ} → length before ≢ 16384 → after ≡ replicate (length before) 0
    → (0 ≤ length after) × SolveComposed sheet limits before after 0
nothing_written sheet limits {before} wrong cleared =
    let no_room = ne_eqb (length before) 16384 wrong in (
      omega arith,
      record {
        chosen = [];
        picked = λ room. let e = sym no_room ∙ room in zero_one (cc);
        composed = exact_none 16384 (solve_output sheet limits []) wrong cleared;
      },
    )
