-- Laws of an output that is filled from the front, and of what it holds when the call returns.
use Rattle.std.specs.Prelude.{Ok, Err}
use Prim.Native.Nat.{ℕ, zero, suc, ◌+◌, ◌-◌, ◌<◌}
use mathlib.Core.Path.{◌≡◌, refl, sym, ap, ◌∙◌}
use mathlib.Core.List.{List, [], ◌∷◌, ◌++◌, append-nil}
use native.Mathlib.Omega.{arith}
use lib.ListN.{length, set, length-append, replicate, length-replicate}
use lib.Seq.{append_snoc, set_at}
use Rattle.graph.specs.declared.Fault.{Fault}
use Rattle.graph.specs.Refusal.{Outcome, refuses, reported, filled, output}
use Rattle.graph.proofs.Passing.{zero_one}
use Rattle.lent.specs.Holding.{Holds}

module _ {N : Type 0} (n : ℕ) (z : N) where
  -- A cleared output holds no number yet.
  pub filled_none : replicate n z ≡ filled n z []
  filled_none = let e : n ≡ n - 0 = omega arith in ap (λ k. replicate k z) e

  module _ (xs : List N) (x : N) (l : length xs < n) where
    rest : (k : ℕ) → n - length xs ≡ suc k → n - length (xs ++ (x ∷ [])) ≡ k
    rest k e = let m : length (xs ++ (x ∷ [])) ≡ length xs + 1 = length-append xs (x ∷ []) in omega arith

    -- One number more.
    pub filled_more : set (filled n z xs) (length xs) x ≡ filled n z (xs ++ (x ∷ []))
    filled_more = go (n - length xs) refl
      where
        go : (k : ℕ) → n - length xs ≡ k → set (filled n z xs) (length xs) x ≡ filled n z (xs ++ (x ∷ []))
        go zero e = absurd (omega arith)
        go (suc k) e =
            ap (λ j. set (xs ++ replicate j z) (length xs) x) e
            ∙ set_at xs z (replicate k z) x (length xs) refl
            ∙ sym (append_snoc xs x (replicate k z))
            ∙ ap (λ j. xs ++ (x ∷ []) ++ replicate j z) (sym (rest k e))

  -- An output that is full holds the numbers alone.
  pub filled-all : (xs : List N) → length xs ≡ n → filled n z xs ≡ xs
  filled-all xs e =
      let none : n - length xs ≡ 0 = omega arith in
      ap (λ j. xs ++ replicate j z) none ∙ append-nil xs

  pub filled-length : (xs : List N) → length xs < n + 1 → length (filled n z xs) ≡ n
  filled-length xs l = length-append xs (replicate (n - length xs) z) ∙ ap (λ k. length xs + k) (length-replicate (n - length xs) z) ∙ omega arith

module _ {A N : Type 0} {n : ℕ} {z : N} {f : A → List N} {W : Outcome A} {out : List N} where
  pub holds_refused : {fault : Fault} {place : ℕ} → W ≡ refuses fault place → Holds n z f W out
  holds_refused e = record { result = λ a y. zero_one (cc) }

  pub holds_yields : {a : A} → W ≡ Ok a → out ≡ filled n z (f a) → Holds n z f W out
  holds_yields {a} e h = record { result = λ b y. let s : a ≡ b = cc in h ∙ ap (λ c. filled n z (f c)) s }

  -- What the call leaves, by what it reports of its result.
  pub left-yields : {B : Type 0} (g : A → B) {b : B} → Holds n z f W out → Ok b ≡ reported g W → out ≡ output n z f W
  left-yields g {b} H = go W refl
    where
      go : (U : Outcome A) → W ≡ U → Ok b ≡ reported g U → out ≡ output n z f U
      go (Ok a) is e = H.result a is
      go (Err refusal) is e = zero_one (cc)

module _ {A B N : Type 0} (n : ℕ) (z : N) (f : A → List N) (g : A → B) where
  pub left-refused : (W : Outcome A) (fault : Fault) (place : ℕ) → refuses fault place ≡ reported g W → replicate n z ≡ output n z f W
  left-refused (Ok a) fault place e = zero_one (cc)
  left-refused (Err refusal) fault place e = refl
