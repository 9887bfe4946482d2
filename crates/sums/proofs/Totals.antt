-- The steps of the loop that adds up at most 1,024 integers, each within 2 ^ 48, and what its callers have of it.
use Prim.Native.Nat.{ℕ, ◌+◌, ◌*◌, ◌^◌, ◌≤◌, ◌<◌}
use mathlib.Core.Path.{◌≡◌, ap, ◌∙◌}
use native.Mathlib.Omega.{arith}
use lib.IntN.{ℤ, ◌+ℤ◌}
use Rattle.integers.specs.Integer.{Within}
use Rattle.integers.specs.Sum.{sumℤ}
use Rattle.integers.proofs.Loops.{Summedℤ, summedℤ_more}
use Rattle.integers.proofs.Order.{within-add}
use Rattle.terms.proofs.Machine.{Fits64, fits, stored, stored_is, stored_within}

-- The term x is added to the total of the first i.
module _ {i : ℕ} (total x : ℤ) (few : i < 1024) (small : Within (2 ^ 48 * i) total) (hx : Fits64 x) (w : Within (2 ^ 48) x) where
  sum_small : Within (2 ^ 48 * (i + 1)) (total +ℤ stored x)
  sum_small = omega (arith, within-add total (stored x) {n = 2 ^ 48} small (stored_within x hx w (omega arith)))

  sum_fits : Fits64 (total +ℤ stored x)
  sum_fits = fits (total +ℤ stored x) (omega arith) sum_small

  pub total_small : Within (2 ^ 48 * (i + 1)) (stored (total +ℤ stored x))
  total_small = stored_within (total +ℤ stored x) sum_fits sum_small (omega arith)

  pub total_more : {n most : ℕ} {f : ℕ → ℤ} → Summedℤ n most f i total → i < n → (x ≡ f i) × Within most x →
      Summedℤ n most f (i + 1) (stored (total +ℤ stored x))
  total_more S l p = summedℤ_more S l (stored_is x hx ∙ p.0, stored_within x hx p.1 (omega arith)) (stored_is (total +ℤ stored x) sum_fits)

-- The sum r of the n terms f, which are m, each within a bound; k is large enough.
pub all_added : (f : ℕ → ℤ) (most k : ℕ) (r : ℤ) {n m : ℕ} → Fits64 r → (r ≡ sumℤ n f) × Within (most * n) r → n ≡ m → most * n ≤ k →
    (stored r ≡ sumℤ m f) × Within k (stored r)
all_added f most k r hr p e l = (stored_is r hr ∙ p.0 ∙ ap (λ j. sumℤ j f) e, stored_within r hr p.1 l)
