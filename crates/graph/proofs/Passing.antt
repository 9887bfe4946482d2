-- Laws of the lowest item that breaks a test, of some item with a property, and of tests in their order.
use Rattle.std.specs.Prelude.{Option, None, Some, Ok, Err}
use Prim.Native.Nat.{ℕ, zero, suc, ◌+◌, ◌<◌}
use mathlib.Core.Path.{◌≡◌, refl, sym, ap, ap₂, ◌∙◌}
use mathlib.Core.Bool.{Bool, true, false, cond, ◌||◌, or-true, not}
use mathlib.Core.List.{List, [], ◌∷◌, ◌++◌}
use native.Mathlib.Omega.{arith}
use native.Mathlib.Numerals.{add-one}
use native.Mathlib.Decide.{ℕ_discrete}
use borrow.Author.Tests.{not-true, not-false}
use Rattle.graph.specs.declared.Fault.{Fault}
use Rattle.graph.specs.Refusal.{Outcome, refuses, Test, once, or_else, lowest, found, passing}
use Rattle.graph.specs.Graph.{some?, every}

-- What cannot be.
pub zero_one : {A : Type 0} → ◌≡◌ {A = ℕ} 0 1 → A
zero_one e = absurd (omega arith)

-- A property of each item below n, and of n, is one of each below n + 1.
pub up_to : {P : ℕ → Type 0} {n : ℕ} → ((k : ℕ) → k < n → P k) → P n → (k : ℕ) → k < suc n → P k
up_to {P} {n} below here k l = elim (ℕ_discrete n k) [ yes e ↦ rw e at here | no e ↦ below k (omega (arith, e)) ]

-- No item breaks the test.
pub lowest-none : (n : ℕ) (f : ℕ → Bool) → lowest n f ≡ None → (k : ℕ) → k < n → f k ≡ true
lowest-none zero f e k l = absurd (omega arith)
lowest-none (suc n) f e k l = go (lowest n f) (f n) refl refl e (lowest-none n f)
  where
    go : (o : Option ℕ) (b : Bool) → lowest n f ≡ o → f n ≡ b → or_else o (cond b None (Some n)) ≡ None →
        (lowest n f ≡ None → (j : ℕ) → j < n → f j ≡ true) → f k ≡ true
    go None true p q h ih = up_to {P = λ j. f j ≡ true} (ih p) q k l
    go None false p q h ih = zero_one (cc)
    go (Some j) b p q h ih = zero_one (cc)

pub none_lowest : (n : ℕ) (f : ℕ → Bool) → ((k : ℕ) → k < n → f k ≡ true) → lowest n f ≡ None
none_lowest zero f h = refl
none_lowest (suc n) f h =
    ap₂ or_else (none_lowest n f (λ k l. h k (omega arith))) (ap (λ (b : Bool). cond {A = Option ℕ} b None (Some n)) (h n (omega arith)))

-- Item k is the lowest of n that breaks the test f.
pub record Lowest (n : ℕ) (f : ℕ → Bool) (k : ℕ) : Type 0 where
  pub among : k < n
  pub breaks : f k ≡ false
  pub before : (j : ℕ) → j < k → f j ≡ true

pub lowest-some : (n : ℕ) (f : ℕ → Bool) (k : ℕ) → lowest n f ≡ Some k → Lowest n f k
lowest-some zero f k e = zero_one (cc)
lowest-some (suc n) f k e = go (lowest n f) (f n) refl refl e (lowest-some n f k)
  where
    go : (o : Option ℕ) (b : Bool) → lowest n f ≡ o → f n ≡ b → or_else o (cond b None (Some n)) ≡ Some k → (lowest n f ≡ Some k → Lowest n f k) →
        Lowest (suc n) f k
    go None true p q h ih = zero_one (cc)
    go None false p q h ih =
        let s : n ≡ k = cc in
        record { among = omega arith; breaks = ap f (sym s) ∙ q; before = λ j l. lowest-none n f p j (omega arith) }
    go (Some i) b p q h ih =
        let found_it : Lowest n f k = ih (p ∙ h) in
        record { among = omega (arith, found_it.among); breaks = found_it.breaks; before = found_it.before }

pub some_lowest : (n : ℕ) (f : ℕ → Bool) (k : ℕ) → Lowest n f k → lowest n f ≡ Some k
some_lowest zero f k w = absurd (omega (arith, w.among))
some_lowest (suc n) f k w = elim (ℕ_discrete n k) [
  | yes e ↦
      ap₂ or_else (none_lowest n f (λ j l. w.before j (omega (arith, e))))
      (ap (λ (b : Bool). cond {A = Option ℕ} b None (Some n)) (ap f e ∙ w.breaks)) ∙ ap Some e
  | no e ↦
      ap (λ o. or_else o (cond (f n) None (Some n)))
      (some_lowest n f k (record { among = omega (arith, w.among, e); breaks = w.breaks; before = w.before }))
]

pub lowest-cong : (n : ℕ) (f g : ℕ → Bool) → ((k : ℕ) → k < n → f k ≡ g k) → lowest n f ≡ lowest n g
lowest-cong zero f g h = refl
lowest-cong (suc n) f g h =
    ap₂ or_else (lowest-cong n f g (λ k l. h k (omega arith))) (ap (λ (b : Bool). cond {A = Option ℕ} b None (Some n)) (h n (omega arith)))

-- None has the property.
pub some_none : (n : ℕ) (f : ℕ → Bool) → some? n f ≡ false → (k : ℕ) → k < n → f k ≡ false
some_none zero f e k l = absurd (omega arith)
some_none (suc n) f e k l = go (some? n f) (f n) refl refl e (some_none n f)
  where
    go : (a b : Bool) → some? n f ≡ a → f n ≡ b → a || b ≡ false → (some? n f ≡ false → (j : ℕ) → j < n → f j ≡ false) → f k ≡ false
    go true b p q h ih = zero_one (cc)
    go false true p q h ih = zero_one (cc)
    go false false p q h ih = up_to {P = λ j. f j ≡ false} (ih p) q k l

pub none_some : (n : ℕ) (f : ℕ → Bool) → ((k : ℕ) → k < n → f k ≡ false) → some? n f ≡ false
none_some zero f h = refl
none_some (suc n) f h = ap₂ ◌||◌ (none_some n f (λ k l. h k (omega arith))) (h n (omega arith))

-- One has it.
pub some_yes : (n : ℕ) (f : ℕ → Bool) (k : ℕ) → k < n → f k ≡ true → some? n f ≡ true
some_yes zero f k l h = absurd (omega arith)
some_yes (suc n) f k l h = elim (ℕ_discrete n k) [
  | yes e ↦ ap (λ b. some? n f || b) (ap f e ∙ h) ∙ or-true (some? n f)
  | no e ↦ ap (λ a. a || f n) (some_yes n f k (omega (arith, e)) h)
]

pub yes_some : (n : ℕ) (f : ℕ → Bool) → some? n f ≡ true → (k : ℕ) × (k < n) × (f k ≡ true)
yes_some zero f e = zero_one (cc)
yes_some (suc n) f e = go (some? n f) (f n) refl refl e (yes_some n f)
  where
    go : (a b : Bool) → some? n f ≡ a → f n ≡ b → a || b ≡ true → (some? n f ≡ true → (k : ℕ) × (k < n) × (f k ≡ true)) → (k : ℕ) × (k < suc n) × (f k ≡ true)
    go true b p q h ih = let w = ih p in (w.0, omega (arith, w.1), w.2)
    go false true p q h ih = (n, omega arith, q)
    go false false p q h ih = zero_one (cc)

pub some_cong : (n : ℕ) (f g : ℕ → Bool) → ((k : ℕ) → k < n → f k ≡ g k) → some? n f ≡ some? n g
some_cong zero f g h = refl
some_cong (suc n) f g h = ap₂ ◌||◌ (some_cong n f g (λ k l. h k (omega arith))) (h n (omega arith))

-- Each has it.
pub every_true : (n : ℕ) (f : ℕ → Bool) → every n f ≡ true → (k : ℕ) → k < n → f k ≡ true
every_true n f e k l = not-false (f k) (some_none n (λ j. not (f j)) (not-true (some? n (λ j. not (f j))) e) k l)

pub true_every : (n : ℕ) (f : ℕ → Bool) → ((k : ℕ) → k < n → f k ≡ true) → every n f ≡ true
true_every n f h = ap not (none_some n (λ j. not (f j)) (λ k l. ap not (h k l)))

pub some_next : (n : ℕ) (f : ℕ → Bool) → some? (n + 1) f ≡ some? n f || f n
some_next n f = ap (λ k. some? k f) (add-one n)

module _ {A : Type 0} where
  -- Tests that all pass, and one that refuses.
  pub passing-yields : (t : Test) (ts : List Test) (o : Outcome A) (a : A) → passing (t ∷ ts) o ≡ Ok a →
      (lowest t.items t.keeps ≡ None) × (passing ts o ≡ Ok a)
  passing-yields t ts o a e = go (lowest t.items t.keeps) refl e
    where
      go : (l : Option ℕ) → lowest t.items t.keeps ≡ l → found t l (passing ts o) ≡ Ok a →
          (lowest t.items t.keeps ≡ None) × (passing ts o ≡ Ok a)
      go None p h = (p, h)
      go (Some k) p h = zero_one (cc)

  pub passing-none : (t : Test) (ts : List Test) (o : Outcome A) → lowest t.items t.keeps ≡ None → passing (t ∷ ts) o ≡ passing ts o
  passing-none t ts o e = ap (λ l. found t l (passing ts o)) e

  pub passing-found : (t : Test) (ts : List Test) (o : Outcome A) (k : ℕ) → lowest t.items t.keeps ≡ Some k →
      passing (t ∷ ts) o ≡ refuses t.fault (t.place k)
  passing-found t ts o k e = ap (λ l. found t l (passing ts o)) e

  pub passing-append : (ts us : List Test) (o : Outcome A) → passing (ts ++ us) o ≡ passing ts (passing us o)
  passing-append [] us o = refl
  passing-append (t ∷ ts) us o = ap (found t (lowest t.items t.keeps)) (passing-append ts us o)

  -- A test made once.
  pub once-passes : (f : Fault) (b : Bool) (ts : List Test) (o : Outcome A) → b ≡ true → passing (once f b ∷ ts) o ≡ passing ts o
  once-passes f b ts o e = ap (λ c. passing (once f c ∷ ts) o) e

  pub once-refuses : (f : Fault) (b : Bool) (ts : List Test) (o : Outcome A) → b ≡ false → passing (once f b ∷ ts) o ≡ refuses f 0
  once-refuses f b ts o e = ap (λ c. passing (once f c ∷ ts) o) e

  pub once-yields : (f : Fault) (b : Bool) (ts : List Test) (o : Outcome A) (a : A) → passing (once f b ∷ ts) o ≡ Ok a →
      (b ≡ true) × (passing ts o ≡ Ok a)
  once-yields f true ts o a e = (refl, e)
  once-yields f false ts o a e = zero_one (cc)

-- Every item keeps its test.
abbrev pub Passes : List Test → Type 0
Passes [] = Unit {0}
Passes (t ∷ ts) = ((k : ℕ) → k < t.items → t.keeps k ≡ true) × Passes ts

pub passes : {A : Type 0} (ts : List Test) (o : Outcome A) (a : A) → passing ts o ≡ Ok a → Passes ts × (o ≡ Ok a)
passes [] o a e = (tt, e)
passes (t ∷ ts) o a e =
    let h = passing-yields t ts o a e in
    let r = passes ts o a h.1 in
    ((lowest-none t.items t.keeps h.0, r.0), r.1)

pub pass : {A : Type 0} (ts : List Test) → Passes ts → (o : Outcome A) → passing ts o ≡ o
pass [] p o = refl
pass (t ∷ ts) p o = passing-none t ts o (none_lowest t.items t.keeps p.0) ∙ pass ts p.1 o

pub passes_split : (ts us : List Test) → Passes (ts ++ us) → Passes ts × Passes us
passes_split [] us p = (tt, p)
passes_split (t ∷ ts) us p = let r = passes_split ts us p.1 in ((p.0, r.0), r.1)

pub passes_join : (ts us : List Test) → Passes ts → Passes us → Passes (ts ++ us)
passes_join [] us p q = q
passes_join (t ∷ ts) us p q = (p.0, passes_join ts us p.1 q)

-- What a call yields whose first tests have been made: their refusal, or the rest.
abbrev pub go_on : {A : Type 0} → Outcome (Unit {0}) → Outcome A → Outcome A
go_on (Ok u) rest = rest
go_on (Err refusal) rest = refuses refusal.fault refusal.place

pub passing-on : {A : Type 0} (ts : List Test) (rest : Outcome A) → passing ts rest ≡ go_on (passing ts (Ok tt)) rest
passing-on [] rest = refl
passing-on (t ∷ ts) rest = go (lowest t.items t.keeps) (passing-on ts rest)
  where
    go : (l : Option ℕ) → passing ts rest ≡ go_on (passing ts (Ok tt)) rest → found t l (passing ts rest) ≡ go_on (found t l (passing ts (Ok tt))) rest
    go None ih = ih
    go (Some k) ih = refl
