-- What a priced or refused problem leaves is what `price_tanks` writes.
use Rattle.std.specs.Prelude.{Ok, Err}
use Prim.Native.Nat.{ℕ, ◌+◌, ◌≤◌}
use mathlib.Core.Path.{◌≡◌, refl, sym, ap, ap₂, ◌∙◌, subst}
use mathlib.Core.Logic.{◌≢◌}
use mathlib.Core.List.{List, [], ◌++◌}
use native.Mathlib.Omega.{arith}
use lib.IntN.{ℤ}
use lib.ListN.{length, replicate, length-append}
use lib.Seq.{take_at, drop_at}
use borrow.Author.Tests.{ne_eqb}
use Rattle.graph.specs.declared.Fault.{Fault}
use Rattle.graph.specs.declared.Refusal.{Refusal}
use Rattle.graph.specs.Limits.{longest_text}
use Rattle.graph.specs.Refusal.{Outcome, refuses}
use Rattle.graph.specs.Graph.{Graph, vertices}
use Rattle.graph.proofs.Passing.{zero_one}
use Rattle.layout.specs.NumberText.{number_text}
use Rattle.dual.specs.Solve.{without_sets}
use Rattle.dual.specs.PriceGeneral.{price_general, DoublyPriced, GeneralLeft}
use Rattle.writer.specs.Written.{Written}
use Rattle.report.specs.declared.Source.{Source}
use Rattle.report.specs.Report.{refused_line, line_room, Composed}
use Rattle.report.specs.Programs.{Run, has, ends, came_from, written, Problem, problem_in, prices_from, price_problem, price_output, whole_text_room, PriceComposed}
use Rattle.report.proofs.Parts.{composed_inside, exact_none}
use Rattle.report.proofs.Runs.{run-goes, run_ends, line-fits}
use Rattle.problem_reader.proofs.Texts.{line_written, all_written}
use Rattle.price_tanks.specs.PricesWritten.{PricesWritten}

-- ---- what is answered

-- The call is lent v and e numbers, as many as the graph gives.
module _ (g : Graph) (bound : List ℤ) {v e : ℕ} (vertex-lent : v ≡ vertices g) (edge-lent : e ≡ g.edges) where
  comes_to : {o : Outcome (Unit {0})} → price_general g bound v e ≡ o → price_problem g bound ≡ came_from Source.Input o
  comes_to is = ap (came_from Source.Input) (sym (ap₂ (price_general g bound) vertex-lent edge-lent) ∙ is)

  -- It has answered a.
  module _ {a : (Outcome (Unit {0}))} (says : a ≡ price_general g bound v e) where
    outcome : {b : (Outcome (Unit {0}))} (o : Outcome (Unit {0})) → a ≡ b → b ≡ o → price_general g bound v e ≡ o
    outcome o is tells = (sym says ∙ is ∙ tells)

    pub refusal_left : {f : Refusal} {before after : List ℕ} {r : ℕ} → a ≡ Err f → length before ≡ longest_text
        → Composed line_room (refused_line Source.Input f.fault f.place) before after r → PricesWritten g bound before after r
    refusal_left {f} is long C =
        let ended = comes_to (outcome (refuses f.fault f.place) is refl) in
        let text : Run (Unit {0}) → List ℕ = written (λ u. number_text []) in
        record {
          prices = [];
          long = λ h. let z = sym ended ∙ h in zero_one (cc);
          priced = λ h. let z = sym ended ∙ h in zero_one (cc);
          composed = (line_written (text (price_problem g bound)) (ap text ended) long C).1;
        }

    -- It has set these prices, and their text was written from lists that hold them.
    pub prices_left : {vertex edge first rest : List ℤ} {before after : List ℕ} {r : ℕ} → a ≡ (Ok tt) → GeneralLeft g bound v e vertex edge
        → first ≡ vertex → rest ≡ edge → length before ≡ longest_text → Written longest_text (number_text (first ++ rest)) after r
        → PricesWritten g bound before after r
    prices_left {vertex} {edge} is left firsts rests long W =
        let accepts = outcome (Ok tt) is refl in
        let vertex-long = left.vertex_long ∙ vertex-lent in
        let all = vertex ++ edge in
        let text : Run (Unit {0}) → List ℕ = written (λ u. number_text all) in
        record {
          prices = all;
          long = λ h. length-append vertex edge ∙ ap₂ ◌+◌ vertex-long (left.edge_long ∙ edge-lent);
          priced = λ h.
              subst (DoublyPriced g bound)
              (ap₂ without_sets (sym (take_at vertex edge (vertices g) vertex-long)) (sym (drop_at vertex edge (vertices g) vertex-long)))
              (left.priced accepts);
          composed = (all_written (text (price_problem g bound)) (ap text (comes_to accepts) ∙ ap number_text (sym (ap₂ ◌++◌ firsts rests))) long W).1;
        }

-- ---- a problem that is read or refused

-- What comes of a problem.
abbrev price_run : Problem → Run (Unit {0})
price_run P = price_problem P.graph P.bound

module _ (sheet limits : List ℕ) {before after : List ℕ} {r : ℕ} where
  pub refusal_written : {source : Source} {fault : Fault} {place : ℕ} → ends source fault place ≡ problem_in sheet limits → length before ≡ longest_text
      → Composed line_room (refused_line source fault place) before after r → (r ≤ length after) × PriceComposed sheet limits before after r
  unfolding price_output
  refusal_written is long C = (
    composed_inside C,
    record {
      prices = [];
      picked = λ room. record { long = λ Q h. zero_one (cc); priced = λ Q h. zero_one (cc) };
      composed = run_ends whole_text_room (λ u. number_text []) price_run is (line-fits longest_text (omega arith) long) C;
    },
  )

  pub priced_composed : {P : Problem} → has P ≡ problem_in sheet limits → PricesWritten P.graph P.bound before after r
      → (r ≤ length after) × PriceComposed sheet limits before after r
  unfolding price_output
  priced_composed {P} is W =
      let zs = W.prices in
      let same : (Q : Problem) → problem_in sheet limits ≡ has Q → P ≡ Q = λ Q h. cc in (
        composed_inside W.composed,
        record {
          prices = zs;
          picked = λ room. record {
            long = λ Q h. subst (λ (R : Problem). price_run R ≡ has tt → length zs ≡ vertices R.graph + R.graph.edges) (same Q h) W.long;
            priced = λ Q h.
                subst (λ (R : Problem). price_run R ≡ has tt → DoublyPriced R.graph R.bound (prices_from R.graph zs)) (same Q h) W.priced;
          };
          composed = run-goes whole_text_room (λ u. number_text zs) price_run is W.composed;
        },
      )

-- The buffer has another length.
pub nothing_written : (sheet limits : List ℕ) {before after : List ℕ} → length before ≢ longest_text → after ≡ replicate (length before) 0
    → (0 ≤ length after) × PriceComposed sheet limits before after 0
nothing_written sheet limits {before} wrong cleared =
    let no_room = ne_eqb (length before) longest_text wrong in (
      omega arith,
      record {
        prices = [];
        picked = λ room. let z = sym no_room ∙ room in zero_one (cc);
        composed = exact_none longest_text (price_output sheet limits []) wrong cleared;
      },
    )
