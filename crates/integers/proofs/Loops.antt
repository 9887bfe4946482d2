-- One law for each loop that adds up: naturals, and integers without their signs.
use Prim.Native.Nat.{ℕ, ◌+◌, ◌*◌, ◌≤◌, ◌<◌}
use mathlib.Core.Path.{◌≡◌, refl, sym, ap, ap₂, ◌∙◌}
use native.Mathlib.Omega.{arith}
use lib.IntN.{ℤ, pos, ◌+ℤ◌}
use Rattle.integers.specs.Integer.{up, dn, Within}
use Rattle.integers.specs.Sum.{sum, sumℤ}
use Rattle.integers.proofs.Order.{within-add}
use Rattle.integers.proofs.Sum.{sum-next, sumℤ-next}

-- The sum of the first i of n naturals f, each at most b.
pub record Summed (n b : ℕ) (f : ℕ → ℕ) (i total : ℕ) : Type 0 where
  pub within : i ≤ n
  pub small : total ≤ b * i
  pub summed : total ≡ sum i f

module _ {n b : ℕ} {f : ℕ → ℕ} where
  pub summed_none : Summed n b f 0 0
  summed_none = record { within = omega arith; small = omega arith; summed = refl }

  module _ {i total : ℕ} (S : Summed n b f i total) where
    pub summed_more : {x : ℕ} → i < n → (x ≡ f i) × (x ≤ b) → Summed n b f (i + 1) (total + x)
    summed_more {x} l p = record {
      within = omega arith;
      small = grows b i total x S.small p.1;
      summed = ap₂ ◌+◌ S.summed p.0 ∙ sym (sum-next i f);
    }
      where
        grows : (b i total x : ℕ) → total ≤ b * i → x ≤ b → total + x ≤ b * (i + 1)
        grows b i total x h k = omega arith

    pub summed_all : n ≤ i → (total ≡ sum n f) × (total ≤ b * n)
    summed_all l =
        let e : i ≡ n = omega (arith, S.within) in
        (S.summed ∙ ap (λ k. sum k f) e, rw e at S.small)

-- The same of integers without their signs.
pub record Summedℤ (n b : ℕ) (f : ℕ → ℤ) (i : ℕ) (total : ℤ) : Type 0 where
  pub within : i ≤ n
  pub small : Within (b * i) total
  pub summed : total ≡ sumℤ i f

module _ {n b : ℕ} {f : ℕ → ℤ} where
  pub summedℤ_none : Summedℤ n b f 0 (pos 0)
  summedℤ_none = record { within = omega arith; small = omega arith; summed = refl }

  module _ {i : ℕ} {total : ℤ} (S : Summedℤ n b f i total) where
    pub summedℤ_more : {x next : ℤ} → i < n → (x ≡ f i) × Within b x → next ≡ total +ℤ x → Summedℤ n b f (i + 1) next
    summedℤ_more {x} {next} l p e = record {
      within = omega arith;
      small = grows b i next (ap up e) (ap dn e) (within-add total x S.small p.1);
      summed = e ∙ ap₂ ◌+ℤ◌ S.summed p.0 ∙ sym (sumℤ-next i f);
    }
      where
        grows : (b i : ℕ) (z : ℤ) → up z ≡ up (total +ℤ x) → dn z ≡ dn (total +ℤ x) → Within (b * i + b) (total +ℤ x) → Within (b * (i + 1)) z
        grows b i z u d h = omega arith

    pub summedℤ_all : n ≤ i → (total ≡ sumℤ n f) × Within (b * n) total
    summedℤ_all l =
        let e : i ≡ n = omega (arith, S.within) in
        (S.summed ∙ ap (λ k. sumℤ k f) e, rw e at S.small)
