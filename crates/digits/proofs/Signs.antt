-- How a number is written with its sign.
use mathlib.Core.Path.{◌≡◌, ap}
use mathlib.Core.Bool.{true, false}
use mathlib.Core.List.{[], ◌∷◌, ◌++◌}
use Prim.Native.Nat.{ℕ}
use lib.IntN.{ℤ, pos, negsuc, nat_abs}
use lib.Signed.{lt_z}
use mir.Syntax.{w64}
use mir.Val.{to_z, of_z}
use Rattle.layout.specs.Text.{decimal, signed}
use Rattle.integers.proofs.Order.{tests}

-- The number as it is read back from its bits.
abbrev pub from_bits : ℤ → ℤ
from_bits z = to_z w64 (of_z w64 z)

pub signed_below : (z : ℤ) (n : ℕ) → lt_z z (pos 0) ≡ true → n ≡ nat_abs z → (45 ∷ []) ++ decimal n ≡ signed z
signed_below (pos k) n h e = absurd (omega tests)
signed_below (negsuc k) n h e = ap (λ (m : ℕ). 45 ∷ decimal m) e

pub signed_above : (z : ℤ) (n : ℕ) → lt_z z (pos 0) ≡ false → n ≡ nat_abs z → decimal n ≡ signed z
signed_above (pos k) n h e = ap decimal e
signed_above (negsuc k) n h e = absurd (omega tests)
