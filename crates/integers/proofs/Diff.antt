-- An integer as a difference of two naturals: by these laws an equation or an order of integers becomes one of naturals.
use mathlib.Core.Path.{◌≡◌, refl, sym, ap, ap₂, ◌∙◌}
use Prim.Native.Nat.{ℕ, suc, ◌+◌, ◌*◌}
use native.Mathlib.Omega.{arith}
use native.Mathlib.Nat.{mul-add}
use lib.IntN.{ℤ, pos, negsuc, neg_ℤ, neg_ℤ-neg_ℤ, neg_ℤ-+ℤ, ◌+ℤ◌, ◌-ℤ◌, ◌*ℤ◌}
use Rattle.integers.specs.Integer.{up, dn}
use Rattle.integers.proofs.Order.{up-add, up_neg, up-times, order}

-- z is a - b
pub record Diff (z : ℤ) (a b : ℕ) : Type 0 where
  pub diff : up z + b ≡ a + dn z

pub diff_self : (z : ℤ) → Diff z (up z) (dn z)
diff_self z = omega arith

pub diff_add : {x y : ℤ} {a b c d : ℕ} → Diff x a b → Diff y c d → Diff (x +ℤ y) (a + c) (b + d)
diff_add {x} {y} p q = omega (arith, up-add x y)

pub diff_neg : {x : ℤ} {a b : ℕ} → Diff x a b → Diff (neg_ℤ x) b a
diff_neg {x} p = omega (arith, up_neg x)

pub diff_sub : {x y : ℤ} {a b c d : ℕ} → Diff x a b → Diff y c d → Diff (x -ℤ y) (a + d) (b + c)
diff_sub p q = diff_add p (diff_neg q)

pub diff_times : (k : ℕ) {x : ℤ} {a b : ℕ} → Diff x a b → Diff (pos k *ℤ x) (k * a) (k * b)
diff_times k {x} {a} {b} p =
    omega (arith, up-times k x, ap (λ n. k * n) p.diff, mul-add k (up x) b, mul-add k a (dn x))

pub diff_eq : {x y : ℤ} {a b c d : ℕ} → Diff x a b → Diff y c d → a + d ≡ c + b → x ≡ y
diff_eq p q e = omega order

-- a product distributes over a sum
nat_times_add : (k : ℕ) (x y : ℤ) → pos k *ℤ (x +ℤ y) ≡ pos k *ℤ x +ℤ pos k *ℤ y
nat_times_add k x y =
    diff_eq
    (diff_times k (diff_add (diff_self x) (diff_self y)))
    (diff_add (diff_times k (diff_self x)) (diff_times k (diff_self y)))
    (omega (arith, mul-add k (up x) (up y), mul-add k (dn x) (dn y)))

neg_times : (k : ℕ) (x : ℤ) → negsuc k *ℤ x ≡ neg_ℤ (pos (suc k) *ℤ x)
neg_times k (pos n) = refl
neg_times k (negsuc n) = sym (neg_ℤ-neg_ℤ (pos (suc k * suc n)))

pub times_add : (c x y : ℤ) → c *ℤ (x +ℤ y) ≡ c *ℤ x +ℤ c *ℤ y
times_add (pos k) x y = nat_times_add k x y
times_add (negsuc k) x y =
    neg_times k (x +ℤ y)
    ∙ ap neg_ℤ (nat_times_add (suc k) x y)
    ∙ neg_ℤ-+ℤ (pos (suc k) *ℤ x) (pos (suc k) *ℤ y)
    ∙ sym (ap₂ ◌+ℤ◌ (neg_times k x) (neg_times k y))
