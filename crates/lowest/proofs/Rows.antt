-- The lowest of two rows put together, and of three.
use Prim.Native.Nat.{ℕ, zero, suc, ◌+◌}
use mathlib.Core.Path.{◌≡◌, refl, sym, ap, ap₂, ◌∙◌}
use mathlib.Core.Bool.{Bool, true, false, cond}
use mathlib.Core.List.{List, ◌++◌}
use Rattle.std.specs.Prelude.{Option, None, Some}
use native.Mathlib.Nat.{add-zero, add-suc, add_assoc}
use lib.IntN.{ℤ, pos}
use lib.ListN.{length, get_or, length-append, get_or-append}
use lib.Seq.{get_or-append-add}
use Rattle.graph.specs.Refusal.{or_else, lowest}
use Rattle.graph.proofs.Passing.{lowest-cong}

-- An item of the second row stands after the n of the first.
abbrev pub after : ℕ → Option ℕ → Option ℕ
after n None = None
after n (Some k) = Some (n + k)

pub lowest-split : (n k : ℕ) (f : ℕ → Bool) → lowest (n + k) f ≡ or_else (lowest n f) (after n (lowest k (λ i. f (n + i))))
lowest-split n zero f = ap (λ m. lowest m f) (add-zero n) ∙ go (lowest n f)
  where
    go : (o : Option ℕ) → o ≡ or_else o None
    go None = refl
    go (Some k) = refl
lowest-split n (suc k) f =
    ap (λ m. lowest m f) (add-suc n k)
    ∙ ap (λ o. or_else o (cond (f (n + k)) None (Some (n + k)))) (lowest-split n k f)
    ∙ go (lowest n f) (lowest k (λ i. f (n + i))) (f (n + k))
  where
    go : (a b : Option ℕ) (t : Bool) → or_else (or_else a (after n b)) (cond t None (Some (n + k))) ≡ or_else a (after n (or_else b (cond t None (Some k))))
    go None None true = refl
    go None None false = refl
    go None (Some j) t = refl
    go (Some i) b t = refl

-- The lowest number of a row that does not keep a test.
abbrev pub lowest_of : (ℤ → Bool) → List ℤ → Option ℕ
lowest_of keeps zs = lowest (length zs) (λ k. keeps (get_or zs k (pos 0)))

module _ (keeps : ℤ → Bool) where
  pub lowest-append : (xs ys : List ℤ) → lowest_of keeps (xs ++ ys) ≡ or_else (lowest_of keeps xs) (after (length xs) (lowest_of keeps ys))
  lowest-append xs ys =
      ap (λ n. lowest n (λ k. keeps (get_or (xs ++ ys) k (pos 0)))) (length-append xs ys)
      ∙ lowest-split (length xs) (length ys) (λ k. keeps (get_or (xs ++ ys) k (pos 0)))
      ∙ ap₂ (λ a b. or_else a (after (length xs) b))
      (lowest-cong (length xs) (λ k. keeps (get_or (xs ++ ys) k (pos 0))) (λ k. keeps (get_or xs k (pos 0))) (λ k l. ap keeps (get_or-append xs ys (pos 0) k l)))
      (lowest-cong (length ys) (λ k. keeps (get_or (xs ++ ys) (length xs + k) (pos 0))) (λ k. keeps (get_or ys k (pos 0)))
      (λ k l. ap keeps (get_or-append-add xs ys k (pos 0))))

  -- Of three rows, by the first in which a number does not keep the test.
  module _ (xs ys zs : List ℤ) where
    pub in_first : {k : ℕ} → lowest_of keeps xs ≡ Some k → Some k ≡ lowest_of keeps (xs ++ (ys ++ zs))
    in_first e = sym (lowest-append xs (ys ++ zs) ∙ ap (λ o. or_else o (after (length xs) (lowest_of keeps (ys ++ zs)))) e)

    module _ (first-none : lowest_of keeps xs ≡ None) where
      later : lowest_of keeps (xs ++ (ys ++ zs)) ≡ after (length xs) (or_else (lowest_of keeps ys) (after (length ys) (lowest_of keeps zs)))
      later = lowest-append xs (ys ++ zs) ∙ ap₂ (λ a b. or_else a (after (length xs) b)) first-none (lowest-append ys zs)

      pub in_second : {k : ℕ} → lowest_of keeps ys ≡ Some k → Some (length xs + k) ≡ lowest_of keeps (xs ++ (ys ++ zs))
      in_second e = sym (later ∙ ap (λ o. after (length xs) (or_else o (after (length ys) (lowest_of keeps zs)))) e)

      pub in_third : {k : ℕ} → lowest_of keeps ys ≡ None → lowest_of keeps zs ≡ Some k → Some (length xs + length ys + k) ≡ lowest_of keeps (xs ++ (ys ++ zs))
      in_third {k} e f =
          sym (later ∙ ap₂ (λ a b. after (length xs) (or_else a (after (length ys) b))) e f ∙ ap Some (sym (add_assoc (length xs) (length ys) k)))

      pub in_none : lowest_of keeps ys ≡ None → lowest_of keeps zs ≡ None → None ≡ lowest_of keeps (xs ++ (ys ++ zs))
      in_none e f = sym (later ∙ ap₂ (λ a b. after (length xs) (or_else a (after (length ys) b))) e f)
