-- What a sum and a difference of two results are, and how large.
use Prim.Native.Nat.{ℕ, ◌+◌}
use mathlib.Core.Path.{◌≡◌, sym, ap₂, ◌∙◌, subst}
use lib.IntN.{ℤ, ◌+ℤ◌, ◌-ℤ◌}
use Rattle.integers.specs.Integer.{Within}
use Rattle.integers.proofs.Order.{within-add, within-diff}
use Rattle.terms.proofs.Machine.{Fits64, stored, stored_is}

-- An integer that is v, within n.
abbrev pub Is : ℤ → ℕ → ℤ → Type 0
Is v n x = (x ≡ v) × Within n x

module _ (x y r : ℤ) {p q : ℤ} {m n : ℕ} (hx : Fits64 x) (hy : Fits64 y) (a : Is p m x) (b : Is q n y) where
  pub plus : r ≡ stored x +ℤ stored y → Is (p +ℤ q) (m + n) r
  plus e =
      let s : r ≡ x +ℤ y = e ∙ ap₂ ◌+ℤ◌ (stored_is x hx) (stored_is y hy) in
      (s ∙ ap₂ ◌+ℤ◌ a.0 b.0, subst (λ (z : ℤ). Within (m + n) z) (sym s) (within-add x y a.1 b.1))

  pub minus : r ≡ stored x -ℤ stored y → Is (p -ℤ q) (m + n) r
  minus e =
      let s : r ≡ x -ℤ y = e ∙ ap₂ ◌-ℤ◌ (stored_is x hx) (stored_is y hy) in
      (s ∙ ap₂ ◌-ℤ◌ a.0 b.0, subst (λ (z : ℤ). Within (m + n) z) (sym s) (within-diff x y a.1 b.1))
