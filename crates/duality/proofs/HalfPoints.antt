-- Sums, differences and products in half points.
use Prim.Native.Nat.{ℕ}
use mathlib.Core.Path.{◌≡◌, refl, sym, ap, ap₂, ◌∙◌}
use lib.IntN.{ℤ, pos, ◌+ℤ◌, ◌-ℤ◌, ◌*ℤ◌, *ℤ_comm}
use Rattle.integers.specs.Sum.{sumℤ}
use Rattle.integers.proofs.Order.{two_times}
use Rattle.integers.proofs.Diff.{times_add}
use Rattle.integers.proofs.Sum.{sumℤ-cong, sumℤ-scale}
use Rattle.dual.specs.Gap.{half_points}
use Rattle.duality.proofs.Core.{times_diff}

-- The number a is the number of points b in half points.
pub record Half (a b : ℤ) : Type 0 where
  pub is : a ≡ half_points b

pub half_self : (z : ℤ) → Half (half_points z) z
half_self z = record { is = refl }

pub half_add : {a b c d : ℤ} → Half a b → Half c d → Half (a +ℤ c) (b +ℤ d)
half_add {b = b} {d = d} h k = record { is = ap₂ ◌+ℤ◌ h.is k.is ∙ sym (times_add (pos 2) b d) }

pub half_diff : {a b c d : ℤ} → Half a b → Half c d → Half (a -ℤ c) (b -ℤ d)
half_diff {b = b} {d = d} h k = record { is = ap₂ ◌-ℤ◌ h.is k.is ∙ sym (times_diff (pos 2) b d) }

-- A product with a number of half points, on either side.
pub half_times : (c : ℤ) {a b : ℤ} → Half a b → Half (c *ℤ a) (c *ℤ b)
half_times c {b = b} h = record { is = ap (λ z. c *ℤ z) (h.is ∙ two_times b) ∙ times_add c b b ∙ sym (two_times (c *ℤ b)) }

pub times_half : (c : ℤ) {a b : ℤ} → Half a b → Half (a *ℤ c) (b *ℤ c)
times_half c {a} {b} h = record { is = *ℤ_comm a c ∙ (half_times c h).is ∙ ap half_points (*ℤ_comm c b) }

pub half_sum : (n : ℕ) {f h : ℕ → ℤ} → ((i : ℕ) → Half (f i) (h i)) → Half (sumℤ n f) (sumℤ n h)
half_sum n {f} {h} e = record { is = sumℤ-cong n f _ (λ i l. (e i).is) ∙ sumℤ-scale n (pos 2) h }
