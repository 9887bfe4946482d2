-- What the first tests of the measuring call show, and what it yields by the first test that refuses.
use Rattle.std.specs.Prelude.{Ok, Err}
use Prim.Native.Nat.{ℕ, ◌*◌}
use mathlib.Core.Path.{◌≡◌, refl, sym, ap, ◌∙◌}
use mathlib.Core.Bool.{Bool, true, false, ◌&&◌}
use mathlib.Core.List.{List, [], ◌∷◌, ◌++◌}
use native.Mathlib.Omega.{arith}
use lib.Dec.{eqb}
use lib.IntN.{ℤ}
use lib.ListN.{length}
use borrow.Author.Tests.{eqb-true}
use Rattle.graph.specs.declared.Fault.TheVariants.{LentLength}
use Rattle.graph.specs.declared.Refusal.{Refusal}
use Rattle.graph.specs.Refusal.{Outcome, refuses, Test, once, passing}
use Rattle.graph.specs.Graph.{Graph, vertices}
use Rattle.graph.specs.Tests.{graph_lengths, graph_tests, bound_test, mark_test}
use Rattle.graph.proofs.Passing.{passes, passes_split}
use Rattle.graph.proofs.Passed.{graph_passed, bounds_passed, marks_passed}
use Rattle.graph.proofs.Ranges.{both, held}
use Rattle.dual.specs.declared.Measures.{Measures}
use Rattle.dual.specs.Prices.{Prices}
use Rattle.dual.specs.Measure.{measure, measures, measure_lengths}
use Rattle.dual.specs.Passed.{PriceLengths}
use Rattle.measure.specs.Shown.{lengths_besides, subgraph_tests, SubgraphShown, price_tests, last_tests, yields_later}
use Rattle.checks.proofs.Tests.{part-refuses, part-passes}

module _ (g : Graph) (bound : List ℤ) (x : List ℕ) (P : Prices) where
  abbrev besides : Bool
  besides = lengths_besides g bound x P

  pub record OthersHold : Type 0 where
    pub bounds : length bound ≡ vertices g
    pub marks : length x ≡ g.edges
    pub prices : PriceLengths g P

  pub others_hold : besides ≡ true → OthersHold
  others_hold e =
      let h =
      held (eqb (length bound) (vertices g))
      (eqb (length x) g.edges ∷ eqb (length P.vertex) (vertices g) ∷ eqb (length P.edge) g.edges ∷ eqb (length P.set) P.sets
      ∷ eqb (length P.marks.vertices) (2 * P.sets) ∷ eqb (length P.marks.edges) (16 * P.sets) ∷ [])
      e in
      record {
        bounds = eqb-true (length bound) (vertices g) h.0;
        marks = eqb-true (length x) g.edges h.1.0;
        prices = record {
          vertex = eqb-true (length P.vertex) (vertices g) h.1.1.0;
          edge = eqb-true (length P.edge) g.edges h.1.1.1.0;
          set = eqb-true (length P.set) P.sets h.1.1.1.1.0;
          set_vertices = eqb-true (length P.marks.vertices) (2 * P.sets) h.1.1.1.1.1.0;
          set_edges = eqb-true (length P.marks.edges) (16 * P.sets) h.1.1.1.1.1.1.0;
        };
      }

  -- The call's tests, with the lengths apart.
  lengths_apart : measure_lengths g bound x P ≡ graph_lengths g && besides
  lengths_apart = go (graph_lengths g)
    where
      go : (b : Bool) → b && eqb (length bound) (vertices g) && eqb (length x) g.edges && eqb (length P.vertex) (vertices g)
          && eqb (length P.edge) g.edges && eqb (length P.set) P.sets && eqb (length P.marks.vertices) (2 * P.sets)
          && eqb (length P.marks.edges) (16 * P.sets) ≡ b && besides
      go true = refl
      go false = refl

  abbrev later : List Test
  later = price_tests g bound x P ++ last_tests g bound P

  call_is : passing (subgraph_tests g bound x besides ++ later) (Ok (measures g bound x P)) ≡ measure g bound x P
  unfolding measure
  call_is = ap (λ c. passing (once LentLength c ∷ (graph_tests g ++ (bound_test g bound ∷ mark_test g x ∷ later))) (Ok (measures g bound x P))) (sym lengths_apart)

  -- The first tests are made, with the other lengths as b.
  module _ {b : Bool} (r : (Outcome (Unit {0}))) (is : b ≡ besides) (say : r ≡ passing (subgraph_tests g bound x b) (Ok tt)) where
    said : r ≡ passing (subgraph_tests g bound x besides) (Ok tt)
    said = say ∙ ap (λ c. passing (subgraph_tests g bound x c) (Ok tt)) is

    pub first_refused : {f : Refusal} → r ≡ Err f → refuses f.fault f.place ≡ measure g bound x P
    first_refused e = part-refuses (subgraph_tests g bound x besides) later (Ok (measures g bound x P)) said e ∙ call_is

    module _ (passed : r ≡ (Ok tt)) where
      pub shown : SubgraphShown g bound x P
      shown =
          let p = (passes (subgraph_tests g bound x besides) (Ok tt) tt (sym said ∙ passed)).0 in
          let l = both (graph_lengths g) besides (p.0 0 (omega arith)) in
          let h = others_hold l.1 in
          let q = passes_split (graph_tests g) (bound_test g bound ∷ mark_test g x ∷ []) p.1 in
          record {
            passed = graph_passed g l.0 q.0;
            bounded = bounds_passed g bound h.bounds (q.1.0, tt);
            marks = marks_passed g x h.marks (q.1.1.0, tt);
            lengths = h.prices;
          }

      pub later_decide : yields_later g bound x P ≡ measure g bound x P
      later_decide = part-passes (subgraph_tests g bound x besides) later (Ok (measures g bound x P)) said passed refl ∙ call_is

  -- Of the later tests, those of the degrees and the prices are made.
  module _ (q : (Outcome (Unit {0}))) (says : q ≡ passing (price_tests g bound x P) (Ok tt)) where
    pub prices_refused : {f : Refusal} → q ≡ Err f → refuses f.fault f.place ≡ yields_later g bound x P
    prices_refused e = part-refuses (price_tests g bound x P) (last_tests g bound P) (Ok (measures g bound x P)) says e

    pub last_decide : q ≡ (Ok tt) → {v : Outcome Measures} → v ≡ passing (last_tests g bound P) (Ok (measures g bound x P)) →
        v ≡ yields_later g bound x P
    last_decide e h = part-passes (price_tests g bound x P) (last_tests g bound P) (Ok (measures g bound x P)) says e h
