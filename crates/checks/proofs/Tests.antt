-- Laws of tests in their order, of which a check has made the first, or of which there are two.
use Rattle.std.specs.Prelude.{Option, None, Some, Ok, Err}
use Prim.Native.Nat.{ℕ, ◌^◌, ◌≤◌, ◌<◌}
use mathlib.Core.Path.{◌≡◌, refl, sym, ap, ◌∙◌}
use mathlib.Core.Bool.{Bool, true}
use mathlib.Core.List.{List, [], ◌∷◌, ◌++◌}
use native.Mathlib.Omega.{arith}
use Rattle.graph.specs.declared.Fault.{Fault}
use Rattle.graph.specs.declared.Refusal.{Refusal}
use Rattle.graph.specs.Refusal.{Outcome, refuses, Test, once, each, found, lowest, passing}
use Rattle.graph.proofs.Passing.{once-yields, passing-yields, lowest-some, passing-append, passing-none, passing-found}
use Rattle.checks.proofs.Refusals.{checked_passed, checked_refused}

-- A row of tests whose first part a check has made.
module _ {A : Type 0} (ts us : List Test) (o : Outcome A) {r : (Outcome (Unit {0}))} (say : r ≡ passing ts (Ok tt)) where
  pub part-refuses : {f : Refusal} → r ≡ Err f → refuses f.fault f.place ≡ passing (ts ++ us) o
  part-refuses is = sym (passing-append ts us o ∙ checked_refused ts (passing us o) say is)

  pub part-passes : r ≡ (Ok tt) → {v : Outcome A} → v ≡ passing us o → v ≡ passing (ts ++ us) o
  part-passes is e = e ∙ sym (passing-append ts us o ∙ checked_passed ts (passing us o) say is)

-- What a test shows that a check has made and that passed.
module _ {r : Outcome (Unit {0})} (was : r ≡ Ok tt) where
  pub once_kept : (f : Fault) (b : Bool) → r ≡ passing (once f b ∷ []) (Ok tt) → b ≡ true
  once_kept f b say = (once-yields f b [] (Ok tt) tt (sym say ∙ was)).0

  pub each_kept : (f : Fault) (n : ℕ) (keeps : ℕ → Bool) → r ≡ passing (each f n keeps ∷ []) (Ok tt) → lowest n keeps ≡ None
  each_kept f n keeps say = (passing-yields (each f n keeps) [] (Ok tt) tt (sym say ∙ was)).0

-- Two tests, by the first that refuses.
module _ {A : Type 0} (t u : Test) (o : Outcome A) where
  pub first_refuses : {k : ℕ} → lowest t.items t.keeps ≡ Some k → refuses t.fault (t.place k) ≡ passing (t ∷ u ∷ []) o
  first_refuses {k} e = sym (passing-found t (u ∷ []) o k e)

  module _ (p : lowest t.items t.keeps ≡ None) where
    pub second_refuses : {k : ℕ} → lowest u.items u.keeps ≡ Some k → refuses u.fault (u.place k) ≡ passing (t ∷ u ∷ []) o
    second_refuses {k} e = sym (passing-none t (u ∷ []) o p ∙ passing-found u [] o k e)

    pub none_refuses : lowest u.items u.keeps ≡ None → o ≡ passing (t ∷ u ∷ []) o
    none_refuses e = sym (passing-none t (u ∷ []) o p ∙ passing-none u [] o e)

-- An item that is refused is one of the n.
pub place_fits : (n : ℕ) (f : ℕ → Bool) {k : ℕ} → lowest n f ≡ Some k → n ≤ 2 ^ 40 → k < 2 ^ 40
place_fits n f {k} e l = omega (arith, (lowest-some n f k e).among)

-- A test made on other items that has the same lowest item which breaks it.
pub each_same : {A : Type 0} (f : Fault) (n m : ℕ) (a b : ℕ → Bool) (ts : List Test) (o : Outcome A) → lowest n a ≡ lowest m b →
    passing (each f n a ∷ ts) o ≡ passing (each f m b ∷ ts) o
each_same f n m a b ts o e = ap (λ l. found (each f n a) l (passing ts o)) e ∙ go (lowest m b)
  where
    go : (l : Option ℕ) → found (each f n a) l (passing ts o) ≡ found (each f m b) l (passing ts o)
    go None = refl
    go (Some k) = refl
