-- The bounds that are all 1.
use Prim.Native.Nat.{ℕ, ◌-◌, ◌≤◌}
use mathlib.Core.Path.{◌≡◌, sym, ap, ap₂, ◌∙◌}
use mathlib.Core.List.{List, ◌++◌}
use native.Mathlib.Omega.{arith}
use lib.IntN.{ℤ, pos}
use lib.ListN.{length, take, drop, replicate, length-replicate}
use Rattle.graph.specs.Refusal.{filled}
use Rattle.lent.proofs.Parts.{first_long, drop-zeros}

-- The first n bounds of an output of zeros are lent, and come back as ones.
module _ {d : List ℤ} (zeros : d ≡ replicate 128 (pos 0)) (n : ℕ) (few : n ≤ 128) where
  pub bounds_room : n ≤ length d
  bounds_room = omega (arith, ap length zeros, length-replicate 128 (pos 0))

  pub bounds-lent : n ≡ length (take n d)
  bounds-lent = first_long n d bounds_room

  pub bounds_set : {part : List ℤ} → part ≡ replicate (length (take n d)) (pos 1) → part ++ drop n d ≡ filled 128 (pos 0) (replicate n (pos 1))
  bounds_set ones =
      ap₂ ◌++◌ (ones ∙ ap (λ k. replicate k (pos 1)) (sym bounds-lent)) (ap (drop n) zeros ∙ drop-zeros (pos 0) n 128)
      ∙ ap (λ k. replicate n (pos 1) ++ replicate (128 - k) (pos 0)) (sym (length-replicate n (pos 1)))
