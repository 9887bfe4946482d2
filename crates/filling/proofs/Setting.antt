-- The law of every loop that sets the elements of a list from the front.
use Prim.Native.Nat.{ℕ, ◌+◌, ◌≤◌, ◌<◌}
use mathlib.Core.Path.{◌≡◌, refl, sym, ◌∙◌, subst}
use mathlib.Core.List.{List}
use native.Mathlib.Omega.{arith}
use native.Mathlib.Decide.{ℕ_discrete}
use lib.ListN.{length, get_or, set, length-set, replicate, length-replicate, get_or-replicate}
use lib.Seq.{get_or-set_same, get_or-set_other, ext_get_or}

-- The list a is l with the elements before h set: each of them has P, and the others are as they were.
pub record Filling {A : Type 0} (d : A) (P : ℕ → A → Type 0) (l a : List A) (h : ℕ) : Type 0 where
  pub high : h ≤ length l
  pub long : length a ≡ length l
  pub each : (k : ℕ) → k < h → P k (get_or a k d)
  pub rest : (k : ℕ) → h ≤ k → get_or a k d ≡ get_or l k d

module _ {A : Type 0} {d : A} {P : ℕ → A → Type 0} {l : List A} where
  pub fill_none : Filling d P l l 0
  fill_none = record { high = omega arith; long = refl; each = λ k b. absurd (omega arith); rest = λ k b. refl }

  pub fill_more : {a : List A} {h : ℕ} (v : A) → Filling d P l a h → h < length a → P h v → Filling d P l (set a h v) (h + 1)
  fill_more {a} {h} v f b p = record {
    high = omega (arith, f.long);
    long = length-set a h v ∙ f.long;
    each = λ k q. elim (ℕ_discrete k h) [
      | yes e ↦ subst (λ j. P j (get_or (set a h v) j d)) (sym e) (subst (P h) (sym (get_or-set_same a h v d b)) p)
      | no e ↦ subst (P k) (sym (get_or-set_other a h k v d e)) (f.each k (omega (arith, e)))
    ];
    rest = λ k q. get_or-set_other a h k v d (λ e. omega (arith, e)) ∙ f.rest k (omega arith);
  }

-- The elements of another list.
pub fill_as : {A : Type 0} {d : A} {zs l a : List A} {h : ℕ} → Filling d (λ k v. v ≡ get_or zs k d) l a h → length a ≤ h → length l ≡ length zs → a ≡ zs
fill_as {d = d} {zs} {l} {a} f b long = ext_get_or d a zs (f.long ∙ long) (λ k q. f.each k (omega arith))

-- One value everywhere.
pub fill_all : {A : Type 0} {d z : A} {l a : List A} {h : ℕ} → Filling d (λ k v. v ≡ z) l a h → length a ≤ h → a ≡ replicate (length l) z
fill_all {d = d} {z} {l} {a} f b =
    ext_get_or d a (replicate (length l) z) (f.long ∙ sym (length-replicate (length l) z))
    (λ k q. f.each k (omega arith) ∙ sym (get_or-replicate (length l) k z d (omega (arith, f.long))))
