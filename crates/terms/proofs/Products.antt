-- The laws of products: a number taken a count of times, or by its mark, and a price times what is left of a most.
use Prim.Native.Nat.{ℕ, ◌+◌, ◌*◌, ◌^◌, ◌≤◌}
use mathlib.Core.Path.{◌≡◌, refl, sym, ap, ap₂, ◌∙◌, subst}
use native.Mathlib.Omega.{arith}
use lib.IntN.{ℤ, pos, neg_ℤ, ◌+ℤ◌, ◌-ℤ◌, ◌*ℤ◌, +ℤ_invl, *ℤ-zero, *ℤ_comm}
use Rattle.integers.specs.Integer.{up, dn, Within}
use Rattle.integers.proofs.Order.{order, up-add, up_neg, within-scaled, within-diff}
use Rattle.integers.proofs.Diff.{times_add}
use Rattle.dual.specs.Gap.{half_points}
use Rattle.terms.proofs.Machine.{Fits64, fits, stored, stored_is, stored_within}
use Rattle.terms.proofs.Steps.{Is, minus}

neg_of : (x y : ℤ) → x +ℤ y ≡ pos 0 → x ≡ neg_ℤ y
neg_of x y e = omega (order, up-add x y, up_neg y, ap up e, ap dn e)

times_neg : (z y : ℤ) → z *ℤ neg_ℤ y ≡ neg_ℤ (z *ℤ y)
times_neg z y =
    neg_of (z *ℤ neg_ℤ y) (z *ℤ y) (sym (times_add z (neg_ℤ y) y) ∙ ap (λ (x : ℤ). z *ℤ x) (+ℤ_invl y) ∙ *ℤ-zero z)

times_rest : (z : ℤ) (a b : ℕ) → pos a *ℤ z -ℤ pos b *ℤ z ≡ z *ℤ (pos a -ℤ pos b)
times_rest z a b =
    sym
    (times_add z (pos a) (neg_ℤ (pos b))
    ∙ ap₂ ◌+ℤ◌ (*ℤ_comm z (pos a)) (times_neg z (pos b) ∙ ap neg_ℤ (*ℤ_comm z (pos b))))

-- A price times what y leaves of x, which are k of the most and l that are used.
pub rested : (z x y : ℤ) {k l : ℕ} → Fits64 z → Fits64 x → Fits64 y → x ≡ pos k → y ≡ pos l → k ≤ 2 ^ 16 → l ≤ 2 ^ 16 → Within (2 ^ 31) z →
    Is (z *ℤ (pos k -ℤ pos l)) (2 ^ 48) (stored z *ℤ stored (stored x -ℤ stored y))
rested z x y {k} {l} hz hx hy ex ey a b w =
    let d = minus x y (stored x -ℤ stored y) hx hy (ex, subst (λ (u : ℤ). Within (2 ^ 16) u) (sym ex) (omega arith)) (ey, subst (λ (u : ℤ). Within (2 ^ 16) u) (sym ey) (omega arith)) refl in
    let e : stored z *ℤ stored (stored x -ℤ stored y) ≡ z *ℤ (pos k -ℤ pos l) =
    ap₂ ◌*ℤ◌ (stored_is z hz) (stored_is (stored x -ℤ stored y) (fits (stored x -ℤ stored y) (omega arith) d.1) ∙ d.0) in
    (e, subst (λ (u : ℤ). Within (2 ^ 48) u) (sym e) small)
  where
    small : Within (2 ^ 48) (z *ℤ (pos k -ℤ pos l))
    small =
        subst (λ (u : ℤ). Within (2 ^ 48) u) (times_rest z k l)
        (within-diff (pos k *ℤ z) (pos l *ℤ z) {m = 2 ^ 47} {n = 2 ^ 47} (within-scaled k z a w) (within-scaled l z b w))

-- A number within 2 ^ 31 can be taken at most 2 ^ 16 times.
pub scalable : (x : ℤ) (k : ℕ) → Fits64 x → k ≤ 2 ^ 16 → Within (2 ^ 31) x → Within (2 ^ 62) (pos k *ℤ stored x)
scalable x k h l w =
    let v : Within (2 ^ 31) (stored x) = stored_within x h w (omega arith) in
    omega (arith, within-scaled k (stored x) l v)

-- r is x, which is v, taken k times, and k is y.
pub scaled : (r x : ℤ) (k : ℕ) {y v : ℤ} → Fits64 r → Fits64 x → k ≤ 2 ^ 16 → pos k ≡ y → (x ≡ v) × Within (2 ^ 31) x → r ≡ pos k *ℤ stored x →
    (stored r ≡ y *ℤ v) × Within (2 ^ 47) (stored r)
scaled r x k hr hx l c p e =
    let s : r ≡ pos k *ℤ x = e ∙ ap (λ (z : ℤ). pos k *ℤ z) (stored_is x hx) in (
      stored_is r hr ∙ s ∙ ap₂ ◌*ℤ◌ c p.0,
      stored_within r hr (subst (λ (z : ℤ). Within (2 ^ 47) z) (sym s) (within-scaled k x l p.1)) (omega arith),
    )

-- r is x, which is v, in half points.
pub worth_is : (x r : ℤ) {v : ℤ} → Fits64 x → (x ≡ v) × Within (2 ^ 31) x → (r ≡ half_points (stored x)) × Within (2 * (up (stored x) + dn (stored x))) r →
    (r ≡ half_points v) × Within (2 ^ 32) r
worth_is x r hx p q =
    let e = stored_is x hx in
    (q.0 ∙ ap half_points (e ∙ p.0), omega (arith, q.1, p.1, ap up e, ap dn e))
