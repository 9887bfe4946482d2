-- What tests say: one of two that holds or fails, and the numbers that are picked by them.
use Prim.Native.Nat.{ℕ, ◌≤◌, ◌<◌}
use mathlib.Core.Path.{◌≡◌, refl, ap}
use mathlib.Core.Logic.{◌⊎◌, inl, inr}
use mathlib.Core.Bool.{Bool, true, false, true≢false, cond, ◌&&◌, ◌||◌}
use native.Mathlib.Omega.{arith}
use lib.Dec.{ltb}
use borrow.Author.Tests.{lt-ltb, le-ltb}

-- One of two tests fails, where not both hold.
pub fails : (a b : Bool) → (a && b) ≡ false → (a ≡ false) ⊎ (b ≡ false)
fails true b e = inr e
fails false b e = inl refl

-- Where one of two tests holds, and where neither does.
pub one_of : (a b : Bool) → (a || b) ≡ true → (a ≡ true) ⊎ (b ≡ true)
one_of true b e = inl refl
one_of false b e = inr e

pub neither : (a b : Bool) → (a || b) ≡ false → (a ≡ false) × (b ≡ false)
neither true b e = absurd (true≢false e)
neither false b e = (refl, e)

-- A test counts at most 1.
pub one_at_most : (b : Bool) {k : ℕ} → k ≡ cond b 1 0 → k ≤ 1
one_at_most true e = omega arith
one_at_most false e = omega arith

-- One of two numbers, where the test is known.
pub if_less : {a b : ℕ} (x y : ℕ) → a < b → cond (ltb a b) x y ≡ x
if_less x y l = ap (λ (t : Bool). cond t x y) (lt-ltb _ _ l)

pub if_not_less : {a b : ℕ} (x y : ℕ) → b ≤ a → cond (ltb a b) x y ≡ y
if_not_less x y l = ap (λ (t : Bool). cond t x y) (le-ltb _ _ l)
