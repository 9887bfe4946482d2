-- Two words are the same bytes, also where the case of the first is folded.
use Rattle.std.specs.Prelude.{bytes_eq}
use Rattle.std.specs.Char.{to_ascii_lowercase}
use Rattle.std.specs.List.{list_all, zip}
use mathlib.Core.Path.{◌≡◌, refl, ap}
use mathlib.Core.Bool.{Bool, true, false, ◌&&◌}
use mathlib.Core.List.{List, [], ◌∷◌, map}
use Prim.Native.Nat.{ℕ}
use native.Mathlib.Omega.{arith}
use lib.Dec.{eqb}
use lib.ListN.{length}
use Rattle.std.proofs.lemmas.Bool.Decides.{nat_tests}
use Rattle.graph.proofs.Passing.{zero_one}
use Rattle.layout.specs.Text.{lower, same}

pub same-is : (xs ys : List ℕ) → bytes_eq xs ys ≡ same xs ys
unfolding same
same-is [] [] = refl
same-is [] (y ∷ ys) = refl
same-is (x ∷ xs) [] = refl
same-is (x ∷ xs) (y ∷ ys) = ap (λ (b : Bool). eqb x y && b) (same-is xs ys)

lower-is : (x : ℕ) → to_ascii_lowercase x ≡ lower x
lower-is x = grind (arith, nat_tests)

-- The test of each pair of bytes.
abbrev pub alike : ℕ × ℕ → Bool
alike p = eqb (to_ascii_lowercase p.0) p.1

pub folded-is : (xs ys : List ℕ) → length xs ≡ length ys → list_all alike (zip xs ys) ≡ same (map lower xs) ys
unfolding same
folded-is [] [] e = refl
folded-is [] (y ∷ ys) e = zero_one (omega arith)
folded-is (x ∷ xs) [] e = zero_one (omega arith)
folded-is (x ∷ xs) (y ∷ ys) e = rw (lower-is x) (ap (λ (b : Bool). eqb (lower x) y && b) (folded-is xs ys (omega arith)))

pub folded-differs : (xs ys : List ℕ) → (length xs ≡ length ys → ⊥) → same (map lower xs) ys ≡ false
unfolding same
folded-differs [] [] ne = absurd (ne refl)
folded-differs [] (y ∷ ys) ne = refl
folded-differs (x ∷ xs) [] ne = refl
folded-differs (x ∷ xs) (y ∷ ys) ne = go (eqb (lower x) y) (folded-differs xs ys (λ e. ne (omega arith)))
  where
    go : (b : Bool) → same (map lower xs) ys ≡ false → (b && same (map lower xs) ys) ≡ false
    go true e = e
    go false e = refl
