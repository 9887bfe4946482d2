-- What the subgraph reader answers and leaves, from its tests and from what reading the lines yields.
use Rattle.std.specs.Prelude.{Ok, Err}
use Rattle.std.specs.Result.{is_err}
use Prim.Native.Nat.{ℕ}
use mathlib.Core.Path.{◌≡◌, sym, ap, ◌∙◌, subst}
use mathlib.Core.Bool.{true, false, ◌&&◌}
use mathlib.Core.List.{List, [], ◌∷◌}
use lib.Dec.{eqb}
use lib.IntN.{ℤ}
use lib.ListN.{length, replicate, length-replicate}
use borrow.Author.Tests.{eqb-true}
use Rattle.graph.specs.declared.Fault.TheVariants.{TextLength, LentLength}
use Rattle.graph.specs.declared.Refusal.{Refusal}
use Rattle.graph.specs.Refusal.{Outcome, refuses, Test, once, passing, reported, output}
use Rattle.graph.specs.declared.Shape.{Shape}
use Rattle.graph.specs.Graph.{Graph, graph_of}
use Rattle.graph.specs.Passed.{Passed}
use Rattle.graph.specs.Tests.{graph_lengths, graph_tests}
use Rattle.graph.proofs.Passing.{zero_one, passing-append}
use Rattle.checks.proofs.Refusals.{checked_passed, checked_refused}
use Rattle.lent.proofs.Lengths.{lent_passed}
use Rattle.layout.specs.declared.Rules.TheVariants.{New}
use Rattle.layout.specs.Text.{text_fits}
use Rattle.layout.specs.Lines.{read_text}
use Rattle.layout.specs.SubgraphText.{subgraph_layout, read_subgraph_by, read_subgraph, subgraph_reader_tests}
use Rattle.lent.specs.Holding.{Holds}
use Rattle.lent.proofs.Filling.{left-yields, left-refused}
use Rattle.subgraph_reader.specs.OnLine.{SubgraphReading}
use Rattle.subgraph_reader.proofs.OnLine.{layout_same}

module _ (g : Graph) (n : ℕ) (s : List ℕ) where
  -- The tests on lengths and numbers, and the test that follows them.
  abbrev numbers : List Test
  numbers = once LentLength (graph_lengths g && eqb n g.edges) ∷ graph_tests g

  abbrev from_text : List Test
  from_text = once TextLength (text_fits s) ∷ []

  abbrev noted : Outcome (Unit {0})
  noted = Ok tt

  -- The tests on lengths and numbers have answered r.
  module _ {r : (Outcome (Unit {0}))} (answers : r ≡ passing numbers noted) where
    pub numbers_refused : {f : Refusal} → r ≡ Err f → refuses f.fault f.place ≡ passing (subgraph_reader_tests g n s) noted
    numbers_refused is = sym (passing-append numbers from_text noted ∙ checked_refused numbers (passing from_text noted) answers is)

    pub text_left : r ≡ (Ok tt) → passing from_text noted ≡ passing (subgraph_reader_tests g n s) noted
    text_left is = sym (passing-append numbers from_text noted ∙ checked_passed numbers (passing from_text noted) answers is)

  abbrev whole : Outcome (List ℕ)
  whole = read_text (subgraph_layout New g) s

  reads : read_subgraph g n s ≡ passing (subgraph_reader_tests g n s) whole
  unfolding read_subgraph_by
  reads = sym (passing-append numbers from_text whole)

  -- What the call answers and leaves; a refusal leaves the output all 0.
  abbrev pub SubgraphAnswered : (Outcome (Unit {0})) → List ℕ → Type 0
  SubgraphAnswered a out = (a ≡ reported (λ x. tt {0}) (read_subgraph g n s)) × (out ≡ output n 0 (λ x. x) (read_subgraph g n s))

  -- All tests have answered r, where the output that was cleared is all 0.
  module _ {cleared : List ℕ} (zeros : cleared ≡ replicate n 0) (r : Outcome (Unit {0})) (says : r ≡ passing (subgraph_reader_tests g (length cleared) s) noted) where
    answers : r ≡ passing (subgraph_reader_tests g n s) noted
    answers = says ∙ ap (λ k. passing (subgraph_reader_tests g k s) noted) (ap length zeros ∙ length-replicate n 0)

    pub whole_lent : {x : Refusal} → r ≡ Err x → {y : Outcome (Unit {0})} → y ≡ Err x → SubgraphAnswered y cleared
    whole_lent {x} is same =
        let e = ap (reported (λ y. tt {0})) (sym (reads ∙ checked_refused (subgraph_reader_tests g n s) whole answers is)) in
        (same ∙ e, zeros ∙ left-refused n 0 (λ y. y) (λ y. tt {0}) (read_subgraph g n s) x.fault x.place e)

    module _ (is : r ≡ Ok tt) where
      text_read : read_subgraph g n s ≡ whole
      text_read = reads ∙ checked_passed (subgraph_reader_tests g n s) whole answers is

      lent : Passed g × (eqb n g.edges ≡ true)
      lent = lent_passed g (eqb n g.edges) (passing from_text noted) tt (sym (passing-append numbers from_text noted) ∙ sym answers ∙ is)

      pub passed : Passed g
      passed = lent.0

      size : n ≡ g.edges
      size = eqb-true n g.edges lent.1

      pub lent_cleared : cleared ≡ replicate g.edges 0
      lent_cleared = zeros ∙ ap (λ k. replicate k 0) size

      -- The text's lines have answered a. Where none was refused the output stays, and else it is cleared.
      module _ (a : Outcome (Unit {0})) {out : List ℕ} (R : SubgraphReading g s a out) where
        answered : a ≡ reported (λ x. tt {0}) (read_subgraph g n s)
        answered = R.says ∙ ap (λ (u : Outcome (List ℕ)). (reported (λ x. tt {0}) u)) (sym text_read)

        pub whole_read : is_err a ≡ false → SubgraphAnswered a out
        whole_read = go a answered
          where
            go : (b : Outcome (Unit {0})) → b ≡ reported (λ x. tt {0}) (read_subgraph g n s) → is_err b ≡ false → SubgraphAnswered b out
            go (Ok u) e q =
                let h = subst (λ w. Holds g.edges 0 (λ x. x) w out) (sym text_read) R.holds in
                (e, left-yields (λ x. tt {0}) (subst (λ k. Holds k 0 (λ x. x) (read_subgraph g n s) out) (sym size) h) e)
            go (Err x) e q = zero_one (cc)

        pub whole_refused : is_err a ≡ true → {new : List ℕ} → new ≡ replicate n 0 → SubgraphAnswered a new
        whole_refused q {new} z = go a answered q
          where
            go : (b : Outcome (Unit {0})) → b ≡ reported (λ x. tt {0}) (read_subgraph g n s) → is_err b ≡ true → SubgraphAnswered b new
            go (Ok u) e q = zero_one (cc)
            go (Err x) e q = (e, z ∙ left-refused n 0 (λ y. y) (λ y. tt {0}) (read_subgraph g n s) x.fault x.place e)

-- Reading does not look at the weights.
pub any_weights : {t : Shape} {row column s out : List ℕ} {a : (Outcome (Unit {0}))} → SubgraphReading (graph_of t row column []) s a out →
    (weight : List ℤ) → SubgraphReading (graph_of t row column weight) s a out
any_weights {t} {row} {column} {s} {out} R weight =
    let e = layout_same t row column weight in
    record {
      says = R.says ∙ ap (λ L. (reported (λ x. tt {0}) (read_text L s))) e;
      holds = subst (λ L. Holds t.edges 0 (λ x. x) (read_text L s) out) e R.holds;
    }
