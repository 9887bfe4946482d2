-- What the tests of a call that takes a bipartite graph with bounds yield, by the first that refuses, and what they show.
use Rattle.std.specs.Prelude.{Option, Ok, Err, Some, None}
use Prim.Native.Nat.{ℕ, suc, ◌^◌, ◌<◌}
use mathlib.Core.Path.{◌≡◌, sym, ap, ◌∙◌}
use mathlib.Core.Bool.{Bool, ◌&&◌}
use mathlib.Core.List.{List, [], ◌∷◌}
use lib.Dec.{eqb}
use lib.IntN.{ℤ}
use lib.ListN.{length}
use borrow.Author.Tests.{eqb-true}
use Rattle.graph.specs.declared.Kind.{Kind}
use Rattle.graph.specs.declared.Kind.TheVariants.{Bipartite, General}
use Rattle.graph.specs.declared.Refusal.{Refusal}
use Rattle.graph.specs.declared.Fault.TheVariants.{LentLength, Bound, NotBipartite}
use Rattle.graph.specs.Refusal.{Outcome, refuses, Test, once, lowest, passing}
use Rattle.graph.specs.Graph.{Graph, vertices, bound_at, bound_in_range}
use Rattle.graph.specs.Tests.{graph_lengths, graph_tests, bound_test, kind_test, is_bipartite}
use Rattle.graph.specs.Passed.{Passed}
use Rattle.graph.proofs.Passing.{passing-append}
use Rattle.graph.proofs.Ranges.{both}
use Rattle.checks.proofs.Tests.{part-refuses, part-passes, first_refuses, second_refuses, none_refuses}
use Rattle.graph.specs.Tests.{bipartite_tests}
use Rattle.lent.proofs.Lengths.{lent_passed}
use Rattle.lent.proofs.Bounded.{Shown, lowest-vertex, vertex_among}

module _ (g : Graph) (bound : List ℤ) (others : Bool) where
  -- ---- what the tests show

  -- The tests of the lengths and of the graph's numbers, and those that follow.
  abbrev first : List Test
  first = once LentLength (graph_lengths g && (eqb (length bound) (vertices g) && others)) ∷ graph_tests g

  abbrev later : List Test
  later = bound_test g bound ∷ kind_test g ∷ []

  first_shown : {A : Type 0} (o : Outcome A) (a : A) → passing first o ≡ Ok a → Shown g bound others
  first_shown o a e =
      let w = lent_passed g (eqb (length bound) (vertices g) && others) o a e in
      let h = both (eqb (length bound) (vertices g)) others w.1 in
      record { passed = w.0; long = eqb-true (length bound) (vertices g) h.0; rest = h.1 }

  pub bipartite-shown : {A : Type 0} (o : Outcome A) (a : A) → passing (bipartite_tests g bound others) o ≡ Ok a → Shown g bound others
  bipartite-shown o a e = first_shown (passing later o) a (sym (passing-append first later o) ∙ e)

  -- ---- what they yield

  abbrev outcome : Outcome (Unit {0})
  outcome = passing (bipartite_tests g bound others) (Ok tt)

  -- The lowest item that the test of a kind refuses.
  abbrev lowest_kind : Kind → Option ℕ
  lowest_kind k = lowest 1 (λ j. is_bipartite k)

  made : {o : Bool} (r : Outcome (Unit {0})) → o ≡ (eqb (length bound) (vertices g) && others) →
      r ≡ passing (once LentLength (graph_lengths g && o) ∷ graph_tests g) (Ok tt) → r ≡ passing first (Ok tt)
  made r told answers = answers ∙ ap (λ (b : Bool). passing (once LentLength (graph_lengths g && b) ∷ graph_tests g) (Ok tt)) told

  -- The check r has made the tests of the lengths, of which it was told o, and of the graph's numbers.
  module _ {o : Bool} {r : Outcome (Unit {0})} (told : o ≡ (eqb (length bound) (vertices g) && others))
      (answers : r ≡ passing (once LentLength (graph_lengths g && o) ∷ graph_tests g) (Ok tt)) where
    pub numbers_refused : {f : Refusal} → r ≡ Err f → refuses f.fault f.place ≡ outcome
    numbers_refused is = part-refuses first later (Ok tt) (made r told answers) is

    module _ (is : r ≡ Ok tt) where
      shown : Shown g bound others
      shown = first_shown (Ok tt) tt (sym (made r told answers) ∙ is)

      then : {v : Outcome (Unit {0})} → v ≡ passing later (Ok tt) → v ≡ outcome
      then e = part-passes first later (Ok tt) (made r told answers) is e

      -- The search for a bound out of range answered l.
      module _ {l : Option ℕ} (found : l ≡ lowest (length bound) (λ v. bound_in_range (bound_at bound v))) where
        pub bound_among : {v : ℕ} → l ≡ Some v → v < 2 ^ 40
        bound_among at = vertex_among shown bound_in_range found at

        pub bound_refused : {v : ℕ} → l ≡ Some v → refuses Bound (suc v) ≡ outcome
        bound_refused at = then (first_refuses (bound_test g bound) (kind_test g) (Ok tt) (lowest-vertex shown bound_in_range found at))

        pub kind_refused : l ≡ None → g.kind ≡ General → refuses NotBipartite 0 ≡ outcome
        kind_refused at e = then (second_refuses (bound_test g bound) (kind_test g) (Ok tt) (lowest-vertex shown bound_in_range found at) (ap lowest_kind e))

        pub all_passed : l ≡ None → g.kind ≡ Bipartite → Ok tt ≡ outcome
        all_passed at e = then (none_refuses (bound_test g bound) (kind_test g) (Ok tt) (lowest-vertex shown bound_in_range found at) (ap lowest_kind e))
