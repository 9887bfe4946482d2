-- A weight is in range just where its cost, which it negates, is.
use mathlib.Core.Path.{◌≡◌, refl, sym, ap, ◌∙◌}
use mathlib.Core.Bool.{Bool, true, false}
use native.Mathlib.Omega.{arith}
use lib.IntN.{ℤ, pos, negsuc, neg_ℤ, neg_ℤ-neg_ℤ}
use Rattle.integers.proofs.Order.{up_neg, up_le, le-between}
use Rattle.graph.proofs.Passed.{weight_hold}
use Rattle.graph.specs.Graph.{weight_in_range}

negated_ranged : (z : ℤ) → weight_in_range z ≡ true → weight_in_range (neg_ℤ z) ≡ true
negated_ranged z h =
    le-between {lo = negsuc 999999} {hi = pos 1000000} {z = neg_ℤ z} (up_le (negsuc 999999) (neg_ℤ z) (omega (arith, up_neg z, weight_hold z h)))
    (up_le (neg_ℤ z) (pos 1000000) (omega (arith, up_neg z, weight_hold z h)))

pub weight_negated : (z : ℤ) → weight_in_range z ≡ weight_in_range (neg_ℤ z)
weight_negated z = go (weight_in_range z) (weight_in_range (neg_ℤ z)) (negated_ranged z) (λ h. ap weight_in_range (sym (neg_ℤ-neg_ℤ z)) ∙ negated_ranged (neg_ℤ z) h)
  where
    go : (a b : Bool) → (a ≡ true → b ≡ true) → (b ≡ true → a ≡ true) → a ≡ b
    go true b f g = sym (f refl)
    go false true f g = g refl
    go false false f g = refl
