-- What the call yields, by the first test that refuses.
use Rattle.std.specs.Prelude.{Ok, Err, Some, None, Option}
use Prim.Native.Nat.{ℕ, suc, ◌^◌, ◌<◌}
use mathlib.Core.Path.{◌≡◌, sym, ◌∙◌}
use mathlib.Core.List.{List, [], ◌∷◌}
use lib.Dec.{eqb}
use lib.IntN.{ℤ}
use lib.ListN.{length}
use borrow.Author.Tests.{eqb-true}
use Rattle.graph.specs.declared.Refusal.{Refusal}
use Rattle.graph.specs.declared.Fault.TheVariants.{BoundNotOne}
use Rattle.graph.specs.Limits.{longest_text}
use Rattle.graph.specs.Refusal.{Outcome, refuses, Test, lowest, passing}
use Rattle.graph.specs.Graph.{Graph, bound_at, bound_is_one}
use Rattle.graph.specs.Tests.{one_test}
use Rattle.graph.specs.Passed.{Passed}
use Rattle.graph.proofs.Passing.{passing-append, passing-found, passing-none}
use Rattle.checks.proofs.Refusals.{checked_passed, checked_refused}
use Rattle.checks.proofs.Tests.{part-refuses, part-passes}
use Rattle.graph.specs.Tests.{kind_test, bipartite_tests}
use Rattle.lent.proofs.Bounded.{Shown, lowest-vertex, vertex_among, more_shown}
use Rattle.layout.specs.AssignmentText.{assignment_text, assignment_tests, write_assignment}

module _ (g : Graph) (bound : List ℤ) (n : ℕ) where
  -- The tests before the last, and the last.
  abbrev first : List Test
  first = bipartite_tests g bound (eqb n longest_text)

  abbrev last : List Test
  last = one_test g bound ∷ []

  abbrev outcome : Outcome (Unit {0})
  outcome = passing (assignment_tests g bound n) (Ok tt)

  -- ---- the tests one after the other

  -- The check r has made those before the last.
  module _ {r : (Outcome (Unit {0}))} (made : r ≡ passing first (Ok tt)) where
    pub first_refused : {f : Refusal} → r ≡ Err f → refuses f.fault f.place ≡ outcome
    first_refused is = part-refuses first last (Ok tt) made is

    module _ (is : r ≡ (Ok tt)) where
      shown : Shown g bound (eqb n longest_text)
      shown = more_shown g bound (eqb n longest_text) (kind_test g ∷ []) (Ok tt) tt (sym made ∙ is)

      -- The search for a bound that is not 1 answered l.
      module _ {l : (Option ℕ)} (found : l ≡ lowest (length bound) (λ v. bound_is_one (bound_at bound v))) where
        pub bound_among : {v : ℕ} → l ≡ Some v → v < 2 ^ 40
        bound_among at = vertex_among shown bound_is_one found at

        pub bound_refused : {v : ℕ} → l ≡ Some v → refuses BoundNotOne (suc v) ≡ outcome
        bound_refused {v} at = part-passes first last (Ok tt) made is (sym (passing-found (one_test g bound) [] (Ok tt) v (lowest-vertex shown bound_is_one found at)))

        pub all_passed : l ≡ None → Ok tt ≡ outcome
        all_passed at = part-passes first last (Ok tt) made is (sym (passing-none (one_test g bound) [] (Ok tt) (lowest-vertex shown bound_is_one found at)))

  -- ---- what is yielded after them

  module _ {r : (Outcome (Unit {0}))} (answers : r ≡ passing (assignment_tests g bound n) (Ok tt)) where
    pub refused : {f : Refusal} → r ≡ Err f → write_assignment g bound n ≡ refuses f.fault f.place
    unfolding write_assignment
    refused is = checked_refused (assignment_tests g bound n) (Ok (assignment_text g)) answers is

    module _ (is : r ≡ (Ok tt)) where
      pub yielded : write_assignment g bound n ≡ Ok (assignment_text g)
      unfolding write_assignment
      yielded = checked_passed (assignment_tests g bound n) (Ok (assignment_text g)) answers is

      taken : Shown g bound (eqb n longest_text)
      taken =
          more_shown g bound (eqb n longest_text) (kind_test g ∷ []) (passing last (Ok tt)) tt
          (sym (passing-append first last (Ok tt)) ∙ sym answers ∙ is)

      pub passed : Passed g
      passed = taken.passed

      pub size : n ≡ longest_text
      size = eqb-true n longest_text taken.rest
