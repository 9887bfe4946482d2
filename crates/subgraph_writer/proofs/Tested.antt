-- What the subgraph writer yields, by the first test that refuses.
use Rattle.std.specs.Prelude.{Ok, Err, Some, None, Option}
use Prim.Native.Nat.{ℕ, suc, ◌≤◌, ◌<◌}
use mathlib.Core.Path.{◌≡◌, sym, ap, ◌∙◌}
use mathlib.Core.Bool.{Bool, ◌&&◌, and_assoc}
use mathlib.Core.List.{List, [], ◌∷◌, ◌++◌}
use native.Mathlib.Omega.{arith}
use lib.Dec.{leb, eqb}
use lib.ListN.{length}
use borrow.Author.Tests.{eqb-true}
use Rattle.graph.specs.declared.Fault.TheVariants.{LentLength, Mark}
use Rattle.graph.specs.declared.Refusal.{Refusal}
use Rattle.graph.specs.Refusal.{Outcome, refuses, once, lowest, passing}
use Rattle.graph.specs.Graph.{Graph}
use Rattle.graph.specs.Subgraph.{mark_at}
use Rattle.graph.specs.Tests.{graph_lengths, graph_tests, mark_test}
use Rattle.graph.proofs.Passing.{passing-none, passing-found, passing-append, once-yields, lowest-some}
use Rattle.graph.proofs.Ranges.{both}
use Rattle.checks.proofs.Refusals.{checked_passed, checked_refused}
use Rattle.lowest.proofs.Scan.{says}
use Rattle.lent.proofs.Lengths.{lent_passed}
use Rattle.layout.specs.SubgraphText.{subgraph_text, writer_tests, write_subgraph}
use Rattle.readback.proofs.Accepted.{Accepted, number_tests, writes, accepted}

-- That all tests have passed.
abbrev pub noted : Outcome (Unit {0})
noted = Ok tt

-- All tests but that of the marks have passed.
pub record MarksLeft (g : Graph) (x : List ℕ) (n : ℕ) : Type 0 where
  pub long : length x ≡ g.edges
  pub few : g.edges ≤ 1024
  pub rest : passing (mark_test g x ∷ []) noted ≡ passing (writer_tests g x n) noted

-- Then the search for a mark that is neither 0 nor 1 has answered l.
module _ {g : Graph} {x : List ℕ} {n : ℕ} (L : MarksLeft g x n) {l : (Option ℕ)} (found : l ≡ lowest (length x) (λ e. leb (mark_at x e) 1)) where
  pub mark_few : {e : ℕ} → l ≡ Some e → e < 1024
  mark_few {e} at = omega (arith, (lowest-some (length x) (λ k. leb (mark_at x k) 1) e (sym found ∙ at)).among, L.long, L.few)

  pub mark_refused : {e : ℕ} → l ≡ Some e → refuses Mark (suc e) ≡ passing (writer_tests g x n) noted
  mark_refused {e} at = sym (passing-found (mark_test g x) [] noted e (says (λ k. leb (mark_at x k) 1) found at L.long)) ∙ L.rest

  pub marks_kept : l ≡ None → noted ≡ passing (writer_tests g x n) noted
  marks_kept at = sym (passing-none (mark_test g x) [] noted (says (λ k. leb (mark_at x k) 1) found at L.long)) ∙ L.rest

module _ (g : Graph) (x : List ℕ) (n : ℕ) where
  -- ---- the tests one after the other

  -- The lengths that the graph's are tested with.
  abbrev others : Bool
  others = eqb (length x) g.edges && eqb n 16384

  numbers-say : {o : Bool} (r : (Outcome (Unit {0}))) → o ≡ others → r ≡ passing (once LentLength (graph_lengths g && o) ∷ graph_tests g) noted →
      r ≡ passing (number_tests g x n) noted
  numbers-say r is-others answers =
      answers
      ∙ ap (λ (b : Bool). passing (once LentLength b ∷ graph_tests g) noted)
      (ap (λ (b : Bool). graph_lengths g && b) is-others ∙ sym (and_assoc (graph_lengths g) (eqb (length x) g.edges) (eqb n 16384)))

  tests_then : write_subgraph g x n ≡ passing (writer_tests g x n) (Ok (subgraph_text g x))
  tests_then = writes g x n ∙ sym (passing-append (number_tests g x n) (mark_test g x ∷ []) (Ok (subgraph_text g x)))

  -- The tests on lengths and numbers have answered r.
  module _ {o : Bool} {r : (Outcome (Unit {0}))} (is-others : o ≡ others) (answers : r ≡ passing (once LentLength (graph_lengths g && o) ∷ graph_tests g) noted) where
    pub numbers_refused : {f : Refusal} → r ≡ Err f → refuses f.fault f.place ≡ passing (writer_tests g x n) noted
    numbers_refused is =
        sym
        (passing-append (number_tests g x n) (mark_test g x ∷ []) noted
        ∙ checked_refused (number_tests g x n) (passing (mark_test g x ∷ []) noted) (numbers-say r is-others answers) is)

    pub numbers_passed : r ≡ (Ok tt) → MarksLeft g x n
    numbers_passed is =
        let kept = lent_passed g o noted tt (sym answers ∙ is) in
        record {
          long = eqb-true (length x) g.edges (both (eqb (length x) g.edges) (eqb n 16384) (sym is-others ∙ kept.1)).0;
          few = kept.0.sound.sizes.few;
          rest =
              sym
              (passing-append (number_tests g x n) (mark_test g x ∷ []) noted
              ∙ checked_passed (number_tests g x n) (passing (mark_test g x ∷ []) noted) (numbers-say r is-others answers) is);
        }

  -- ---- what is yielded after them

  module _ {r : (Outcome (Unit {0}))} (answers : r ≡ passing (writer_tests g x n) noted) where
    pub refused : {f : Refusal} → r ≡ Err f → write_subgraph g x n ≡ refuses f.fault f.place
    refused is = tests_then ∙ checked_refused (writer_tests g x n) (Ok (subgraph_text g x)) answers is

    module _ (is : r ≡ (Ok tt)) where
      pub yielded : write_subgraph g x n ≡ Ok (subgraph_text g x)
      yielded = tests_then ∙ checked_passed (writer_tests g x n) (Ok (subgraph_text g x)) answers is

      pub size : n ≡ 16384
      size =
          let w = (once-yields LentLength (graph_lengths g && eqb (length x) g.edges && eqb n 16384) (graph_tests g ++ (mark_test g x ∷ [])) noted tt
          (sym answers ∙ is)).0 in
          eqb-true n 16384 (both (graph_lengths g && eqb (length x) g.edges) (eqb n 16384) w).1

      pub fits : Accepted g x
      fits = accepted g x n (subgraph_text g x) yielded
