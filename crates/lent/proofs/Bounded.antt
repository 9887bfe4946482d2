-- What the tests of a call that takes a graph with bounds show.
use Rattle.std.specs.Prelude.{Ok, Some, Option}
use Prim.Native.Nat.{ℕ, ◌^◌, ◌<◌}
use mathlib.Core.Path.{◌≡◌, sym, ap, ◌∙◌}
use mathlib.Core.Bool.{Bool, true, ◌&&◌}
use mathlib.Core.List.{List, [], ◌∷◌, ◌++◌}
use native.Mathlib.Omega.{arith}
use lib.Dec.{eqb}
use lib.IntN.{ℤ}
use lib.ListN.{length}
use borrow.Author.Tests.{eqb-true}
use Rattle.graph.specs.declared.Fault.TheVariants.{LentLength}
use Rattle.graph.specs.Refusal.{Outcome, Test, once, lowest, passing}
use Rattle.graph.specs.Graph.{Graph, vertices, bound_at, bound_in_range}
use Rattle.graph.specs.Tests.{graph_lengths, graph_tests, bound_test, bounded_tests}
use Rattle.graph.specs.Passed.{Passed}
use Rattle.graph.proofs.Passing.{passing-append}
use Rattle.graph.proofs.Ranges.{both}
use Rattle.lowest.proofs.Scan.{says}
use Rattle.checks.proofs.Tests.{place_fits}
use Rattle.lent.proofs.Lengths.{lent_passed}

-- The graph has passed, and so have the length of the bounds and the other lengths.
pub record Shown (g : Graph) (bound : List ℤ) (others : Bool) : Type 0 where
  pub passed : Passed g
  pub long : length bound ≡ vertices g
  pub rest : others ≡ true

-- A search for a bound that does not keep a test has answered l.
module _ {g : Graph} {bound : List ℤ} {others : Bool} (S : Shown g bound others) (keeps : ℤ → Bool) {l : (Option ℕ)}
    (found : l ≡ lowest (length bound) (λ v. keeps (bound_at bound v))) where
  pub lowest-vertex : {m : (Option ℕ)} → l ≡ m → lowest (vertices g) (λ v. keeps (bound_at bound v)) ≡ m
  lowest-vertex at = says (λ v. keeps (bound_at bound v)) found at S.long

  pub vertex_among : {v : ℕ} → l ≡ Some v → v < 2 ^ 40
  vertex_among at = place_fits (vertices g) (λ v. keeps (bound_at bound v)) (lowest-vertex at) (omega (arith, S.passed.sound.sizes.order))

module _ (g : Graph) (bound : List ℤ) (others : Bool) where
  -- The tests of the lengths and of the graph's numbers, and those that follow.
  abbrev first : List Test
  first = once LentLength (graph_lengths g && (eqb (length bound) (vertices g) && others)) ∷ graph_tests g

  abbrev later : List Test
  later = bound_test g bound ∷ []

  first_shown : {A : Type 0} (o : Outcome A) (a : A) → passing first o ≡ Ok a → Shown g bound others
  first_shown o a e =
      let w = lent_passed g (eqb (length bound) (vertices g) && others) o a e in
      let h = both (eqb (length bound) (vertices g)) others w.1 in
      record { passed = w.0; long = eqb-true (length bound) (vertices g) h.0; rest = h.1 }

  pub bounded_shown : {A : Type 0} (o : Outcome A) (a : A) → passing (bounded_tests g bound others) o ≡ Ok a → Shown g bound others
  bounded_shown o a e = first_shown (passing later o) a (sym (passing-append first later o) ∙ e)

  -- So they do where others follow, as for a bipartite graph.
  pub more_shown : {A : Type 0} (ts : List Test) (o : Outcome A) (a : A) → passing (bounded_tests g bound others ++ ts) o ≡ Ok a → Shown g bound others
  more_shown ts o a e = bounded_shown (passing ts o) a (sym (passing-append (bounded_tests g bound others) ts o) ∙ e)

  -- The check r has made the tests of the lengths, of which it was told o, and of the graph's numbers; then a bound that is refused is one of 128.
  pub bound_among : (o : Bool) {r : Outcome (Unit {0})} {l : Option ℕ} → o ≡ (eqb (length bound) (vertices g) && others) →
      r ≡ passing (once LentLength (graph_lengths g && o) ∷ graph_tests g) (Ok tt) → r ≡ Ok tt →
      l ≡ lowest (length bound) (λ v. bound_in_range (bound_at bound v)) → (v : ℕ) → l ≡ Some v → v < 2 ^ 40
  bound_among o told answers is found v at =
      let shown = first_shown (Ok tt) tt (ap (λ b. passing (once LentLength (graph_lengths g && b) ∷ graph_tests g) (Ok tt)) (sym told) ∙ sym answers ∙ is) in
      vertex_among shown bound_in_range found at
