-- The two halves of a list that is doubled.
use Prim.Native.Nat.{ℕ, ◌+◌, ◌-◌, ◌<◌}
use mathlib.Core.Path.{◌≡◌, sym, ap, ap₂, ◌∙◌, subst}
use mathlib.Core.List.{List, ◌++◌}
use native.Mathlib.Omega.{arith}
use native.Mathlib.Decide.{dec_lt}
use lib.ListN.{length, get_or, length-append, get_or-append}
use lib.Seq.{get_or-append-add}

-- What holds in each half holds throughout.
pub halves : (P : ℕ → Type 0) (m : ℕ) → ((i : ℕ) → i < m → P i) → ((i : ℕ) → i < m → P (m + i)) → (i : ℕ) → i < m + m → P i
halves P m first second i l = elim (dec_lt i m) [
  | yes b ↦ first i b
  | no b ↦ let e : m + (i - m) ≡ i = omega (arith, b) in subst P e (second (i - m) (omega (arith, b)))
]

-- The lists xs and ys, each of m elements, one after the other.
module _ {A : Type 0} {m : ℕ} (xs ys : List A) (d : A) where
  pub in_first : length xs ≡ m → (i : ℕ) → i < m → get_or (xs ++ ys) i d ≡ get_or xs i d
  in_first long i l = get_or-append xs ys d i (omega (arith, long))

  pub in_second : length xs ≡ m → (i : ℕ) → get_or (xs ++ ys) (m + i) d ≡ get_or ys i d
  in_second long i = ap (λ n. get_or (xs ++ ys) (n + i) d) (sym long) ∙ get_or-append-add xs ys i d

  pub both_long : length xs ≡ m → length ys ≡ m → length (xs ++ ys) ≡ m + m
  both_long p q = length-append xs ys ∙ ap₂ ◌+◌ p q
