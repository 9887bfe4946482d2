-- What a call's result is once it is stored: the same integer, as small.
use Prim.Native.Nat.{ℕ, ◌^◌, ◌≤◌, ◌<◌}
use mathlib.Core.Path.{◌≡◌, ap, ◌∙◌}
use native.Mathlib.Omega.{arith}
use lib.IntN.{ℤ}
use lib.Signed.{mag}
use mir.Syntax.{w64}
use mir.Val.{to_z, of_z}
use Rattle.integers.specs.Integer.{up, dn, Within}
use Rattle.integers.proofs.Order.{mag_le, back}

-- An integer is a number of 64 bits.
abbrev pub Fits64 : ℤ → Type 0
Fits64 x = mag x < 2 ^ 63

pub fits : (x : ℤ) {n : ℕ} → n < 2 ^ 63 → Within n x → Fits64 x
fits x l w = omega (arith, mag_le x)

-- It as it is stored.
abbrev pub stored : ℤ → ℤ
stored x = to_z w64 (of_z w64 x)

pub stored_is : (x : ℤ) → Fits64 x → stored x ≡ x
stored_is x h = back w64 x h

pub stored_within : (x : ℤ) {m n : ℕ} → Fits64 x → Within m x → m ≤ n → Within n (stored x)
stored_within x h k l = omega (arith, ap up (stored_is x h), ap dn (stored_is x h))

-- A result that is v, within n.
pub stored_both : (x : ℤ) {v : ℤ} {n : ℕ} → Fits64 x → x ≡ v → Within n x → (stored x ≡ v) × Within n (stored x)
stored_both x h e k = (stored_is x h ∙ e, stored_within x h k (omega arith))
