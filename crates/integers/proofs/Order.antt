-- omega decides orders, sums and differences of integers by their positive and negative parts; a test's answer is the order that it tests; what the
-- machine stores reads back.
use mathlib.Core.Path.{◌≡◌, refl, sym, ap, ap₂, ◌∙◌, subst}
use mathlib.Core.Bool.{Bool, true, false, not, cond, ◌&&◌, true≢false, false≢true}
use Prim.Native.Nat.{ℕ, zero, suc, ◌+◌, ◌*◌, ◌-◌, ◌^◌, ◌≤◌, ◌<◌}
use native.Mathlib.Omega.{arith}
use native.Mathlib.Nat.{mul-zero, mul-add, mul-le-mul_left, mul-le-mul_right, le_trans}
use lib.Dec.{T, ltb, ltb→lt, nltb→le, leb→le, le→leb, lt→ltb}
use lib.IntN.{ℤ, pos, negsuc, neg_ℤ, sub_ℕ, ◌+ℤ◌, ◌-ℤ◌, ◌*ℤ◌}
use lib.Signed.{◌≤ℤ◌, ◌<ℤ◌, le_z, lt_z, lt_z_no, mag, clash_ℤ}
use mir.Syntax.{Width}
use mir.Val.{SFits, hbits, to_z, of_z}
use mir.ValLaws.{to_z-of_z}
use borrow.Author.Tests.{leb-false}
use Rattle.integers.specs.Integer.{up, dn, Within, between}

-- ---- sums, differences, multiples

by_test : (t : Bool) (x y : ℤ) (P : ℤ → Type 0) → (T t → P x) → (T (not t) → P y) → P (cond t x y)
by_test true x y P first second = first tt
by_test false x y P first second = second tt

up-sub : (a b : ℕ) → up (sub_ℕ a b) + b ≡ a + dn (sub_ℕ a b)
up-sub a b =
    by_test (ltb a b) (negsuc (b - suc a)) (pos (a - b)) (λ z. up z + b ≡ a + dn z) (λ t. below (ltb→lt a b t)) (λ t. above (nltb→le a b t))
  where
    below : a < b → 0 + b ≡ a + suc (b - suc a)
    below h = omega arith

    above : b ≤ a → a - b + b ≡ a + 0
    above h = omega arith

pub up-add : (x y : ℤ) → up (x +ℤ y) + (dn x + dn y) ≡ (up x + up y) + dn (x +ℤ y)
up-add (pos a) (pos b) = omega arith
up-add (pos a) (negsuc b) = omega (arith, up-sub a (suc b))
up-add (negsuc a) (pos b) = omega (arith, up-sub b (suc a))
up-add (negsuc a) (negsuc b) = omega arith

pub up_neg : (x : ℤ) → (up (neg_ℤ x) ≡ dn x) × (dn (neg_ℤ x) ≡ up x)
up_neg (pos zero) = (refl, refl)
up_neg (pos (suc n)) = (refl, refl)
up_neg (negsuc n) = (refl, refl)

pub up-diff : (x y : ℤ) → up (x -ℤ y) + (dn x + up y) ≡ (up x + dn y) + dn (x -ℤ y)
up-diff x y = omega (arith, up-add x (neg_ℤ y), up_neg y)

pub up-times : (k : ℕ) (x : ℤ) → (up (pos k *ℤ x) ≡ k * up x) × (dn (pos k *ℤ x) ≡ k * dn x)
up-times k (pos n) = (refl, sym (mul-zero k))
up-times k (negsuc n) = ((up_neg (pos (k * suc n))).0 ∙ sym (mul-zero k), (up_neg (pos (k * suc n))).1)

-- ---- the order

pub le_up : {x y : ℤ} → x ≤ℤ y → up x + dn y ≤ up y + dn x
le_up {x = pos a} {y = pos b} h = omega (arith, leb→le a b h.le)
le_up {x = pos a} {y = negsuc b} h = absurd h.le
le_up {x = negsuc a} {y = pos b} h = omega arith
le_up {x = negsuc a} {y = negsuc b} h = omega (arith, leb→le b a h.le)

pub lt_up : {x y : ℤ} → x <ℤ y → up x + dn y < up y + dn x
lt_up {x = pos a} {y = pos b} h = omega (arith, ltb→lt a b h.lt)
lt_up {x = pos a} {y = negsuc b} h = absurd h.lt
lt_up {x = negsuc a} {y = pos b} h = omega arith
lt_up {x = negsuc a} {y = negsuc b} h = omega (arith, ltb→lt b a h.lt)

pub up_le : (x y : ℤ) → up x + dn y ≤ up y + dn x → x ≤ℤ y
up_le (pos a) (pos b) h = record { le = le→leb a b (omega arith) }
up_le (pos a) (negsuc b) h = absurd (omega arith)
up_le (negsuc a) (pos b) h = record { le = tt }
up_le (negsuc a) (negsuc b) h = record { le = le→leb b a (omega arith) }

pub up_lt : (x y : ℤ) → up x + dn y < up y + dn x → x <ℤ y
up_lt (pos a) (pos b) h = record { lt = lt→ltb a b (omega arith) }
up_lt (pos a) (negsuc b) h = absurd (omega arith)
up_lt (negsuc a) (pos b) h = record { lt = tt }
up_lt (negsuc a) (negsuc b) h = record { lt = lt→ltb b a (omega arith) }

pub up-eq : (x y : ℤ) → up x + dn y ≡ up y + dn x → x ≡ y
up-eq (pos a) (pos b) h = ap pos (omega arith)
up-eq (pos a) (negsuc b) h = absurd (omega arith)
up-eq (negsuc a) (pos b) h = absurd (omega arith)
up-eq (negsuc a) (negsuc b) h = ap negsuc (omega arith)

pub ruleset order = (arith, le_up, lt_up, up_le, up_lt, up-eq)

pub ≤ℤ-trans : {x y z : ℤ} → x ≤ℤ y → y ≤ℤ z → x ≤ℤ z
≤ℤ-trans h k = omega order

pub ≤ℤ-antisym : {x y : ℤ} → x ≤ℤ y → y ≤ℤ x → x ≡ y
≤ℤ-antisym h k = omega order

pub add-le : {x y u v : ℤ} → x ≤ℤ y → u ≤ℤ v → (x +ℤ u) ≤ℤ (y +ℤ v)
add-le {x} {y} {u} {v} h k = omega (order, up-add x u, up-add y v)

pub zero_times : (x : ℤ) → pos 0 *ℤ x ≡ pos 0
zero_times x = omega (order, up-times 0 x)

pub one-times : (x : ℤ) → pos 1 *ℤ x ≡ x
one-times x = omega (order, up-times 1 x)

pub two_times : (x : ℤ) → pos 2 *ℤ x ≡ x +ℤ x
two_times x = omega (order, up-times 2 x, up-add x x)

pub nonneg : {z : ℤ} → pos 0 ≤ℤ z → z ≡ pos (up z)
nonneg {z = pos n} h = refl
nonneg {z = negsuc n} h = absurd h.le

pub pos_nonneg : (n : ℕ) → pos 0 ≤ℤ pos n
pos_nonneg n = omega order

pub times_nonneg : (k : ℕ) {z : ℤ} → pos 0 ≤ℤ z → pos 0 ≤ℤ (pos k *ℤ z)
times_nonneg k {z = pos n} h = pos_nonneg (k * n)
times_nonneg k {z = negsuc n} h = absurd h.le

-- ---- size

small : (z : ℤ) (a b : ℕ) → up z + b ≡ a + dn z → up z + dn z ≤ a + b
small (pos n) a b e = omega arith
small (negsuc n) a b e = omega arith

pub add_small : (x y : ℤ) → up (x +ℤ y) + dn (x +ℤ y) ≤ (up x + dn x) + (up y + dn y)
add_small x y = omega (arith, small (x +ℤ y) (up x + up y) (dn x + dn y) (up-add x y))

pub diff_small : (x y : ℤ) → up (x -ℤ y) + dn (x -ℤ y) ≤ (up x + dn x) + (up y + dn y)
diff_small x y = omega (arith, small (x -ℤ y) (up x + dn y) (dn x + up y) (up-diff x y))

pub mag_le : (z : ℤ) → mag z ≤ up z + dn z
mag_le (pos n) = omega arith
mag_le (negsuc n) = omega arith

pub le-mag : (z : ℤ) → up z + dn z ≤ suc (mag z)
le-mag (pos n) = omega arith
le-mag (negsuc n) = omega arith

pub within-add : (x y : ℤ) {m n : ℕ} → Within m x → Within n y → Within (m + n) (x +ℤ y)
within-add x y h k = omega (arith, add_small x y)

pub within-diff : (x y : ℤ) {m n : ℕ} → Within m x → Within n y → Within (m + n) (x -ℤ y)
within-diff x y h k = omega (arith, diff_small x y)

pub within-neg : (x : ℤ) {n : ℕ} → Within n x → Within n (neg_ℤ x)
within-neg x h = omega (arith, up_neg x)

pub within-times : (k : ℕ) (x : ℤ) {n : ℕ} → Within n x → Within (k * n) (pos k *ℤ x)
within-times k x {n} h = omega (arith, up-times k x, mul-add k (up x) (dn x), mul-le-mul_left k h)

-- A number within n taken at most m times.
pub within-scaled : (k : ℕ) (x : ℤ) {m n : ℕ} → k ≤ m → Within n x → Within (m * n) (pos k *ℤ x)
within-scaled k x {m} {n} l h = le_trans (within-times k x h) (mul-le-mul_right n l)

-- ---- tests

is_true : (t : Bool) → T t → t ≡ true
is_true true h = refl
is_true false h = absurd h

is_false : (t : Bool) → (t ≡ true → ⊥) → t ≡ false
is_false true h = absurd (h refl)
is_false false h = refl

pub le_z_true : (x y : ℤ) → le_z x y ≡ true → x ≤ℤ y
le_z_true x y e = record { le = subst T (sym e) tt }

pub lt_z_true : (x y : ℤ) → lt_z x y ≡ true → x <ℤ y
lt_z_true x y e = record { lt = subst T (sym e) tt }

pub le_z_false : (x y : ℤ) → le_z x y ≡ false → y <ℤ x
le_z_false (pos a) (pos b) e = omega (order, leb-false a b e)
le_z_false (pos a) (negsuc b) e = record { lt = tt }
le_z_false (negsuc a) (pos b) e = absurd (true≢false e)
le_z_false (negsuc a) (negsuc b) e = omega (order, leb-false b a e)

pub lt_z_false : (x y : ℤ) → lt_z x y ≡ false → y ≤ℤ x
lt_z_false x y e = lt_z_no (subst (λ (t : Bool). T (not t)) (sym e) tt)

pub le-le_z : {x y : ℤ} → x ≤ℤ y → le_z x y ≡ true
le-le_z {x} {y} h = is_true (le_z x y) h.le

pub lt-lt_z : {x y : ℤ} → x <ℤ y → lt_z x y ≡ true
lt-lt_z {x} {y} h = is_true (lt_z x y) h.lt

pub lt-le_z : {x y : ℤ} → y <ℤ x → le_z x y ≡ false
lt-le_z {x} {y} h = is_false (le_z x y) (λ e. clash_ℤ h (le_z_true x y e))

pub le-lt_z : {x y : ℤ} → y ≤ℤ x → lt_z x y ≡ false
le-lt_z {x} {y} h = is_false (lt_z x y) (λ e. clash_ℤ (lt_z_true x y e) h)

-- for omega: a test's answer, read and shown
pub le_z_up : (x y : ℤ) → le_z x y ≡ true → up x + dn y ≤ up y + dn x
le_z_up x y e = le_up (le_z_true x y e)

pub le_z_not_up : (x y : ℤ) → le_z x y ≡ false → up y + dn x < up x + dn y
le_z_not_up x y e = lt_up (le_z_false x y e)

pub lt_z_up : (x y : ℤ) → lt_z x y ≡ true → up x + dn y < up y + dn x
lt_z_up x y e = lt_up (lt_z_true x y e)

pub lt_z_not_up : (x y : ℤ) → lt_z x y ≡ false → up y + dn x ≤ up x + dn y
lt_z_not_up x y e = le_up (lt_z_false x y e)

pub up-le_z : (x y : ℤ) → up x + dn y ≤ up y + dn x → le_z x y ≡ true
up-le_z x y h = le-le_z (up_le x y h)

pub up-not_le_z : (x y : ℤ) → up y + dn x < up x + dn y → le_z x y ≡ false
up-not_le_z x y h = lt-le_z (up_lt y x h)

pub up-lt_z : (x y : ℤ) → up x + dn y < up y + dn x → lt_z x y ≡ true
up-lt_z x y h = lt-lt_z (up_lt x y h)

pub up-not_lt_z : (x y : ℤ) → up y + dn x ≤ up x + dn y → lt_z x y ≡ false
up-not_lt_z x y h = le-lt_z (up_le y x h)

pub ruleset tests = (order, le_z_up, le_z_not_up, lt_z_up, lt_z_not_up, up-le_z, up-not_le_z, up-lt_z, up-not_lt_z)

pub between-true : (lo hi z : ℤ) → between lo hi z ≡ true → (lo ≤ℤ z) × (z ≤ℤ hi)
between-true lo hi z e = go (le_z lo z) (le_z z hi) refl refl e
  where
    go : (s t : Bool) → le_z lo z ≡ s → le_z z hi ≡ t → (s && t) ≡ true → (lo ≤ℤ z) × (z ≤ℤ hi)
    go true true p q e = (le_z_true lo z p, le_z_true z hi q)
    go true false p q e = absurd (false≢true e)
    go false t p q e = absurd (false≢true e)

pub le-between : {lo hi z : ℤ} → lo ≤ℤ z → z ≤ℤ hi → between lo hi z ≡ true
le-between h k = ap₂ ◌&&◌ (le-le_z h) (le-le_z k)

-- ---- the machine's numbers

pub fits_within : (w : Width) (z : ℤ) {n : ℕ} → Within n z → n < 2 ^ hbits w → SFits w z
fits_within w z h k = record { sfits = omega (arith, mag_le z) }

pub back : (w : Width) (z : ℤ) → mag z < 2 ^ hbits w → to_z w (of_z w z) ≡ z
back w z h = to_z-of_z w z (record { sfits = h })

pub within-back : (w : Width) (z : ℤ) {n : ℕ} → mag z < 2 ^ hbits w → Within n z → Within n (to_z w (of_z w z))
within-back w z {n} h k = subst (λ (x : ℤ). Within n x) (sym (back w z h)) k
