-- What the readers of a graph and of bounds answer and leave is what reading a problem yields and leaves.
use Rattle.std.specs.Prelude.{Ok, Err}
use Prim.Native.Nat.{ℕ, ◌+◌, ◌-◌, ◌≤◌}
use mathlib.Core.Path.{◌≡◌, refl, sym, ap, ◌∙◌}
use mathlib.Core.Bool.{Bool}
use mathlib.Core.List.{List, [], ◌∷◌, ◌++◌}
use native.Mathlib.Omega.{arith}
use lib.Dec.{eqb}
use lib.IntN.{ℤ, pos}
use lib.ListN.{length, take, drop, replicate, length-replicate, replicate-append-replicate}
use lib.Seq.{length-take-le}
use borrow.Author.Tests.{eq-eqb}
use Rattle.graph.specs.declared.Fault.{Fault}
use Rattle.graph.specs.declared.Fault.TheVariants.{LentLength}
use Rattle.graph.specs.declared.Refusal.{Refusal}
use Rattle.graph.specs.declared.Shape.{Shape}
use Rattle.graph.specs.Refusal.{Outcome, refuses, once, passing, reported, filled, output}
use Rattle.graph.specs.Graph.{Graph, shape_of, vertices, vertices_in}
use Rattle.graph.proofs.Ranges.{sizes_hold}
use Rattle.layout.specs.declared.Rules.TheVariants.{New}
use Rattle.layout.specs.declared.Field.TheVariants as Field
use Rattle.layout.specs.declared.Numbers.TheVariants.{Bounds}
use Rattle.layout.specs.GraphText.{read_graph}
use Rattle.layout.specs.NumberText.{read_numbers}
use Rattle.lent.proofs.Filling.{filled-all}
use Rattle.lent.proofs.Parts.{drop-zeros}
use Rattle.report.specs.declared.Source.{Source}
use Rattle.report.specs.Programs.{Run, has, ends, run_reported, run_output, came_from, and_then, Problem, read_bounds, read_problem}
use Rattle.problem_reader.specs.Problem.{problem_shape, ProblemLeft}
use Rattle.problem_reader.proofs.Kept.{graph_whole, numbers_filled, graph_yielded, graph_refused, numbers_yielded, numbers_refused}

-- ---- the bounds of n vertices

-- The output has b numbers, and was cleared.
module _ (b n : ℕ) (limits : List ℕ) {cleared : List ℤ} (zeros : cleared ≡ replicate b (pos 0)) where
  long : length cleared ≡ b
  long = ap length zeros ∙ length-replicate b (pos 0)

  bounds_tested : {right : Bool} → eqb b 128 ≡ right → read_bounds b n limits ≡ passing (once LentLength right ∷ []) (read_numbers Bounds n n limits)
  bounds_tested e = ap (λ (right : Bool). passing (once LentLength right ∷ []) (read_numbers Bounds n n limits)) e

  -- Its length is right, and the first n numbers are lent.
  module _ (right : length cleared ≡ 128) (few : n ≤ 128) where
    pub bounds_long : n ≡ length (take n cleared)
    bounds_long = sym (length-take-le n cleared (omega arith))

    numbers_are : read_bounds b n limits ≡ read_numbers Bounds n n limits
    numbers_are = bounds_tested (eq-eqb b 128 (sym long ∙ right))

    rest_is : drop n cleared ≡ replicate (b - n) (pos 0)
    rest_is = ap (drop n) zeros ∙ drop-zeros (pos 0) n b

    pub bounds_left : {part : List ℤ} → part ≡ output (length (take n cleared)) (pos 0) (λ zs. zs) (read_numbers Bounds n (length (take n cleared)) limits)
        → part ++ drop n cleared ≡ output b (pos 0) (λ zs. zs) (read_bounds b n limits)
    bounds_left {part} holds =
        go (read_numbers Bounds n n limits) refl
        (holds ∙ ap (λ k. output k (pos 0) (λ zs. zs) (read_numbers Bounds n k limits)) (sym bounds_long))
        ∙ sym (ap (output b (pos 0) (λ zs. zs)) numbers_are)
      where
        go : (o : Outcome (List ℤ)) → read_numbers Bounds n n limits ≡ o → part ≡ output n (pos 0) (λ zs. zs) o
            → part ++ drop n cleared ≡ output b (pos 0) (λ zs. zs) o
        go (Ok zs) is e =
            let full = (numbers_filled New Bounds n n limits zs is).read in
            ap (λ (xs : List ℤ). xs ++ drop n cleared) (e ∙ filled-all n (pos 0) zs full)
            ∙ ap (λ (xs : List ℤ). zs ++ xs) (rest_is ∙ ap (λ k. replicate (b - k) (pos 0)) (sym full))
        go (Err refusal) is e =
            let all : n + (b - n) ≡ b = omega (arith, long) in
            ap (λ (xs : List ℤ). xs ++ drop n cleared) e ∙ ap (λ (xs : List ℤ). replicate n (pos 0) ++ xs) rest_is
            ∙ replicate-append-replicate n (b - n) (pos 0) ∙ ap (λ k. replicate k (pos 0)) all

-- ---- the problem

-- The sizes that are told are in range.
pub told-few : (r c w : ℕ) (sheet : List ℕ) {a : (Outcome Shape)} {s : Shape} {n : ℕ} → a ≡ reported shape_of (read_graph r c w sheet)
    → a ≡ Ok s → n ≡ vertices_in s → n ≤ 128
told-few r c w sheet says is all =
    let y = graph_yielded says is in
    let g = y.value in
    let sizes = sizes_hold g.kind g.rows g.columns g.edges (graph_whole New Field.Integer r c w sheet g y.yielded).1 in
    omega (arith, all, ap vertices_in y.told, sizes.order)

-- What is left where reading has ended, or has a problem.
module _ {W : Run Problem} {r c w b : ℕ} {row column : List ℕ} {weight bound : List ℤ} where
  zeros-left : {source : Source} {fault : Fault} {place : ℕ} → W ≡ ends source fault place → row ≡ replicate r 0 → column ≡ replicate c 0
      → weight ≡ replicate w (pos 0) → bound ≡ replicate b (pos 0) → ProblemLeft W r c w b row column weight bound
  zeros-left e i j k l = record {
    rows = i ∙ sym (ap (run_output r 0 (λ (P : Problem). P.graph.row)) e);
    columns = j ∙ sym (ap (run_output c 0 (λ (P : Problem). P.graph.column)) e);
    weights = k ∙ sym (ap (run_output w (pos 0) (λ (P : Problem). P.graph.weight)) e);
    bounds = l ∙ sym (ap (run_output b (pos 0) (λ (P : Problem). P.bound)) e);
  }

  problem_left : (P : Problem) → W ≡ has P → row ≡ filled r 0 P.graph.row → column ≡ filled c 0 P.graph.column
      → weight ≡ filled w (pos 0) P.graph.weight → bound ≡ filled b (pos 0) P.bound → ProblemLeft W r c w b row column weight bound
  problem_left P e i j k l = record {
    rows = i ∙ sym (ap (run_output r 0 (λ (Q : Problem). Q.graph.row)) e);
    columns = j ∙ sym (ap (run_output c 0 (λ (Q : Problem). Q.graph.column)) e);
    weights = k ∙ sym (ap (run_output w (pos 0) (λ (Q : Problem). Q.graph.weight)) e);
    bounds = l ∙ sym (ap (run_output b (pos 0) (λ (Q : Problem). Q.bound)) e);
  }

-- What reading comes to after the graph.
abbrev pub with_bounds : Graph → Outcome (List ℤ) → Run Problem
with_bounds g o = and_then (came_from Source.Limits o) (λ bound. has (record { graph = g; bound = bound }))

module _ (r c w b : ℕ) (sheet limits : List ℕ) where
  abbrev with_graph : Outcome Graph → Run Problem
  with_graph o = and_then (came_from Source.Sheet o) (λ g. with_bounds g (read_bounds b (vertices g) limits))

  graph_as : (o : Outcome Graph) → read_graph r c w sheet ≡ o → read_problem r c w b sheet limits ≡ with_graph o
  unfolding read_problem
  graph_as o e = ap with_graph e

  bounds_as : (g : Graph) {s : Shape} {n : ℕ} (o : Outcome (List ℤ)) → read_graph r c w sheet ≡ Ok g → shape_of g ≡ s → n ≡ vertices_in s
      → read_bounds b n limits ≡ o → read_problem r c w b sheet limits ≡ with_bounds g o
  bounds_as g o yielded same all e =
      graph_as (Ok g) yielded ∙ ap (λ k. with_bounds g (read_bounds b k limits)) (ap vertices_in same ∙ sym all) ∙ ap (with_bounds g) e

  abbrev whole : Run Problem
  whole = read_problem r c w b sheet limits

  abbrev Left : List ℕ → List ℕ → List ℤ → List ℤ → Type 0
  Left row column weight bound = ProblemLeft whole r c w b row column weight bound

  -- The graph reader has answered a.
  module _ {a : Outcome Shape} (says : a ≡ reported shape_of (read_graph r c w sheet)) where
    sheet-ends : {f : Refusal} → a ≡ Err f → whole ≡ ends Source.Sheet f.fault f.place
    sheet-ends {f} is = graph_as (refuses f.fault f.place) (graph_refused says is)

    pub sheet-told : {f : Refusal} → a ≡ Err f → ends Source.Sheet f.fault f.place ≡ run_reported problem_shape whole
    sheet-told is = sym (ap (run_reported problem_shape) (sheet-ends is))

    pub sheet-left : {f : Refusal} → a ≡ Err f → {row column : List ℕ} {weight bound : List ℤ}
        → row ≡ output r 0 (λ (g : Graph). g.row) (read_graph r c w sheet) → column ≡ output c 0 (λ (g : Graph). g.column) (read_graph r c w sheet)
        → weight ≡ output w (pos 0) (λ (g : Graph). g.weight) (read_graph r c w sheet) → bound ≡ replicate b (pos 0) → Left row column weight bound
    sheet-left {f} is rows columns weights cleared =
        let o = graph_refused says is in
        zeros-left (sheet-ends is) (rows ∙ ap (output r 0 (λ (g : Graph). g.row)) o) (columns ∙ ap (output c 0 (λ (g : Graph). g.column)) o)
        (weights ∙ ap (output w (pos 0) (λ (g : Graph). g.weight)) o) cleared

    -- It has read a shape, and the reader of the bounds has answered d.
    module _ {s : Shape} (is : a ≡ Ok s) {n : ℕ} (all : n ≡ vertices_in s) {d : Outcome (Unit {0})} (answer : d ≡ reported (λ zs. tt {0}) (read_bounds b n limits)) where
      limits-ends : {f : Refusal} → d ≡ Err f → whole ≡ ends Source.Limits f.fault f.place
      limits-ends {f} ended = let y = graph_yielded says is in bounds_as y.value (refuses f.fault f.place) y.yielded y.told all (numbers_refused answer ended)

      pub limits-told : {f : Refusal} → d ≡ Err f → ends Source.Limits f.fault f.place ≡ run_reported problem_shape whole
      limits-told ended = sym (ap (run_reported problem_shape) (limits-ends ended))

      pub limits-left : {f : Refusal} → d ≡ Err f → {row column : List ℕ} {weight bound : List ℤ} → row ≡ replicate r 0 → column ≡ replicate c 0
          → weight ≡ replicate w (pos 0) → bound ≡ output b (pos 0) (λ zs. zs) (read_bounds b n limits) → Left row column weight bound
      limits-left {f} ended i j k l = zeros-left (limits-ends ended) i j k (l ∙ ap (output b (pos 0) (λ zs. zs)) (numbers_refused answer ended))

      problem-has : (came : d ≡ Ok tt) → whole ≡ has (record { graph = (graph_yielded says is).value; bound = (numbers_yielded answer came).value })
      problem-has came =
          let y = graph_yielded says is in
          let o = numbers_yielded answer came in bounds_as y.value (Ok o.value) y.yielded y.told all o.yielded

      pub problem-told : d ≡ Ok tt → has s ≡ run_reported problem_shape whole
      problem-told came = ap (λ (t : Shape). has t) (sym (graph_yielded says is).told) ∙ sym (ap (run_reported problem_shape) (problem-has came))

      pub problem-left : d ≡ Ok tt → {row column : List ℕ} {weight bound : List ℤ}
          → row ≡ output r 0 (λ (g : Graph). g.row) (read_graph r c w sheet) → column ≡ output c 0 (λ (g : Graph). g.column) (read_graph r c w sheet)
          → weight ≡ output w (pos 0) (λ (g : Graph). g.weight) (read_graph r c w sheet) → bound ≡ output b (pos 0) (λ zs. zs) (read_bounds b n limits)
          → Left row column weight bound
      problem-left came rows columns weights bounds =
          let y = graph_yielded says is in
          let o = numbers_yielded answer came in
          problem_left (record { graph = y.value; bound = o.value }) (problem-has came)
          (rows ∙ ap (output r 0 (λ (g : Graph). g.row)) y.yielded)
          (columns ∙ ap (output c 0 (λ (g : Graph). g.column)) y.yielded)
          (weights ∙ ap (output w (pos 0) (λ (g : Graph). g.weight)) y.yielded)
          (bounds ∙ ap (output b (pos 0) (λ zs. zs)) o.yielded)
