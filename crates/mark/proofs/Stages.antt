-- What each stage of `mark` comes to, from what the call that it makes answers.
use Rattle.std.specs.Prelude.{Ok, Err}
use Prim.Native.Nat.{ℕ, ◌+◌, ◌≤◌}
use mathlib.Core.Path.{◌≡◌, sym, ap, ap₂, ◌∙◌, subst}
use mathlib.Core.List.{List}
use native.Mathlib.Omega.{arith}
use lib.IntN.{ℤ, pos}
use lib.ListN.{length, take, drop}
use Rattle.graph.specs.declared.Fault.{Fault}
use Rattle.graph.specs.declared.Refusal.{Refusal}
use Rattle.graph.specs.Refusal.{Outcome, refuses, reported, output}
use Rattle.graph.specs.Graph.{Graph, vertices}
use Rattle.layout.specs.declared.Rules.TheVariants.{New}
use Rattle.layout.specs.declared.Numbers.TheVariants.{Prices}
use Rattle.layout.specs.NumberText.{read_numbers}
use Rattle.layout.specs.SubgraphText.{read_subgraph}
use Rattle.dual.specs.declared.Measures.{Measures}
use Rattle.dual.specs.Measure.{measure}
use Rattle.dual.specs.Solve.{without_sets}
use Rattle.lent.proofs.Filling.{filled-all}
use Rattle.report.specs.declared.Source.{Source}
use Rattle.report.specs.Report.{measured_line, line_room, Composed}
use Rattle.report.specs.Programs.{Run, ends, came_from, and_then, written, mark_prices, mark_plan, mark_problem}
use Rattle.problem_reader.proofs.Kept.{numbers_filled, subgraph_whole, numbers_yielded, numbers_refused, subgraph_yielded, subgraph_refused}

-- The line of a run is that of an equal run.
pub same_line : {P Q : Run Measures} {before after : List ℕ} {r : ℕ} → P ≡ Q → Composed line_room (written measured_line P) before after r
    → Composed line_room (written measured_line Q) before after r
same_line {P} {Q} {before} {after} {r} e h = subst (λ (R : Run Measures). Composed line_room (written measured_line R) before after r) e h

-- What is read from a text goes on to the next stage, and a refusal ends the run. W is what the reader yields, and U what the stage asks for.
module _ {N A : Type 0} (source : Source) {W U : Outcome (List N)} (same : W ≡ U) (next : List N → Run A) where
  stage_ends : {fault : Fault} {place : ℕ} → W ≡ refuses fault place → ends source fault place ≡ and_then (came_from source U) next
  stage_ends e = ap (λ (o : Outcome (List N)). and_then (came_from source o) next) (sym e ∙ same)

  -- The reader's output holds all that is read.
  stage_goes : (n : ℕ) (z : N) (xs : List N) {out : List N} → W ≡ Ok xs → length xs ≡ n → out ≡ output n z (λ ys. ys) W →
      next out ≡ and_then (came_from source U) next
  stage_goes n z xs e long holds =
      ap next (holds ∙ ap (output n z (λ ys. ys)) e ∙ filled-all n z xs long)
      ∙ ap (λ (o : Outcome (List N)). and_then (came_from source o) next) (sym e ∙ same)

-- The prices, lent in two parts: the line of what the measuring answers is written.
pub prices_composed : (g : Graph) (bound : List ℤ) (x : List ℕ) (price : List ℤ) {n : ℕ} {vertex edge : List ℤ} {says : Outcome Measures} {before after : List ℕ} {r : ℕ}
    → n ≡ vertices g → vertex ≡ take n price → edge ≡ drop n price → says ≡ measure g bound x (without_sets vertex edge)
    → Composed line_room (written measured_line (came_from Source.Input says)) before after r
    → Composed line_room (written measured_line (mark_prices g bound x price)) before after r
prices_composed g bound x price all front back is =
    same_line
    (ap (came_from Source.Input)
    (is
    ∙ ap₂ (λ vertex edge. measure g bound x (without_sets vertex edge)) front back
    ∙ ap (λ k. measure g bound x (without_sets (take k price) (drop k price))) all))

-- The prices of n vertices are among them all.
pub vertices-priced : (n edges : ℕ) {all vertices : ℕ} → n ≡ vertices → n + edges ≡ all → vertices ≤ all
vertices-priced n edges e f = omega arith

-- The prices are read, n numbers where `count` are asked for.
module _ (g : Graph) (bound : List ℤ) (x prices : List ℕ) (count n : ℕ) (asked : count ≡ vertices g + g.edges) (lent : count ≡ n) where
  prices_asked : read_numbers Prices count n prices ≡ read_numbers Prices (vertices g + g.edges) (vertices g + g.edges) prices
  prices_asked = ap₂ (λ i j. read_numbers Prices i j prices) asked (sym lent ∙ asked)

  module _ {a : (Outcome (Unit {0}))} (says : a ≡ reported (λ zs. tt {0}) (read_numbers Prices count n prices)) where
    pub plan_ends : {f : Refusal} → a ≡ Err f → ends Source.Prices f.fault f.place ≡ mark_plan g bound x prices
    plan_ends is = stage_ends Source.Prices prices_asked (mark_prices g bound x) (numbers_refused says is)

    pub plan_goes :
        {price part : List ℤ} → a ≡ (Ok tt) → price ≡ part → part ≡ output n (pos 0) (λ zs. zs) (read_numbers Prices count n prices)
        → mark_prices g bound x price ≡ mark_plan g bound x prices
    plan_goes is first holds =
        let y = numbers_yielded says is in
        stage_goes Source.Prices prices_asked (mark_prices g bound x) n (pos 0) y.value y.yielded
        ((numbers_filled New Prices count n prices y.value y.yielded).read ∙ lent) (first ∙ holds)

-- The subgraph is read into n marks.
module _ (g : Graph) (bound : List ℤ) (plan prices : List ℕ) (n : ℕ) (lent : g.edges ≡ n) where
  marks_asked : read_subgraph g n plan ≡ read_subgraph g g.edges plan
  marks_asked = ap (λ k. read_subgraph g k plan) (sym lent)

  module _ {a : (Outcome (Unit {0}))} (says : a ≡ reported (λ x. tt {0}) (read_subgraph g n plan)) where
    pub problem_ends : {f : Refusal} → a ≡ Err f → ends Source.Plan f.fault f.place ≡ mark_problem g bound plan prices
    problem_ends is = stage_ends Source.Plan marks_asked (λ x. mark_plan g bound x prices) (subgraph_refused says is)

    pub problem_goes :
        {chosen part : List ℕ} → a ≡ (Ok tt) → chosen ≡ part → part ≡ output n 0 (λ x. x) (read_subgraph g n plan)
        → mark_plan g bound chosen prices ≡ mark_problem g bound plan prices
    problem_goes is first holds =
        let y = subgraph_yielded says is in
        stage_goes Source.Plan marks_asked (λ x. mark_plan g bound x prices) n 0 y.value y.yielded
        (subgraph_whole New g n plan y.value y.yielded ∙ lent) (first ∙ holds)
