-- Numbers with a sign: the three ways to write one, and that each fits an `i32`.
use Rattle.std.specs.Prelude.{Option, None, Some, option_map}
use mathlib.Core.Path.{◌≡◌, refl, subst}
use mathlib.Core.Bool.{Bool, true, false, cond}
use mathlib.Core.List.{List, [], ◌∷◌}
use Prim.Native.Nat.{ℕ, zero, suc, ◌-◌, ◌^◌, ◌≤◌, ◌<◌}
use native.Mathlib.Nat.{not-suc-le-zero, lt_of_lt_of_le}
use native.Mathlib.Omega.{arith}
use lib.Dec.{eqb, lit<, lit≤}
use borrow.Author.Tests.{eq-eqb, ne_eqb}
use lib.ListN.{length, take, drop, get_or}
use lib.Seq.{take_all}
use lib.IntN.{ℤ, pos, neg_ℤ}
use mir.Syntax.{w32}
use mir.Val.{SFits}
use Rattle.graph.proofs.Passing.{zero_one}
use Rattle.layout.specs.declared.Rules.{Rules}
use Rattle.layout.specs.declared.Rules.TheVariants.{New, Old}
use Rattle.layout.specs.Text.{numeral, padded, natural, value_after_plus, value_after_minus, integer}
use Rattle.layout.proofs.Digits.{absent, numeral-is, numeral-small}
use Rattle.numerals.specs.Numerals.{NineDigits}

-- A number that is read is below 10 ^ 9, by any rules and after a sign too.
numeral-nine : (w : List ℕ) → NineDigits (numeral w)
numeral-nine w = go (numeral w) refl
  where
    go : (o : Option ℕ) → numeral w ≡ o → NineDigits o
    go None e = tt
    go (Some n) e = numeral-small (numeral-is w n e)

unless_small : (b : Bool) (o : Option ℕ) → NineDigits o → NineDigits (cond b None o)
unless_small true o h = tt
unless_small false o h = h

pub small : (rules : Rules) (w : List ℕ) → NineDigits (natural rules w)
unfolding natural
small New w = unless_small (padded w) (numeral w) (numeral-nine w)
small Old w = numeral-nine w

pub plus_small : (rules : Rules) (o : Option ℕ) → NineDigits o → NineDigits (value_after_plus rules o)
plus_small New o h = tt
plus_small Old o h = h

pub minus_small : (rules : Rules) (o : Option ℕ) → NineDigits o → NineDigits (value_after_minus rules o)
minus_small New None h = tt
minus_small New (Some n) h = unless_small (eqb n 0) (Some n) h
minus_small Old o h = h

-- The three ways.
pub integer-short : (rules : Rules) (w : List ℕ) → length w < 1 → integer rules w ≡ None
unfolding integer
integer-short rules [] h = refl
integer-short rules (x ∷ w) h = zero_one (omega arith)

rest_is : (x : ℕ) (w : List ℕ) → take (length (x ∷ w) - 1) w ≡ w
rest_is x w = take_all (length (x ∷ w) - 1) w (omega arith)

pub integer-plus : (rules : Rules) (w : List ℕ) → 1 ≤ length w → get_or w 0 0 ≡ 43 →
    integer rules w ≡ option_map pos (value_after_plus rules (natural rules (take (length w - 1) (drop 1 w))))
unfolding integer
integer-plus rules [] h e = absurd (not-suc-le-zero h)
integer-plus rules (x ∷ w) h e = rw (eq-eqb x 43 e, rest_is x w)

pub integer-minus : (rules : Rules) (w : List ℕ) → 1 ≤ length w → get_or w 0 0 ≡ 45 →
    integer rules w ≡ option_map (λ n. neg_ℤ (pos n)) (value_after_minus rules (natural rules (take (length w - 1) (drop 1 w))))
unfolding integer
integer-minus rules [] h e = absurd (not-suc-le-zero h)
integer-minus rules (x ∷ w) h e = rw (e, rest_is x w)

pub integer-plain : (rules : Rules) (w : List ℕ) → 1 ≤ length w → (get_or w 0 0 ≡ 43 → ⊥) → (get_or w 0 0 ≡ 45 → ⊥) →
    integer rules w ≡ option_map pos (natural rules w)
unfolding integer
integer-plain rules [] h ne ne' = absurd (not-suc-le-zero h)
integer-plain rules (x ∷ w) h ne ne' = rw (ne_eqb x 43 ne, ne_eqb x 45 ne')

-- The machine's numbers.
pub plus_fits : (n : ℕ) → n < 10 ^ 9 → SFits w32 (pos n)
plus_fits n h = record { sfits = lt_of_lt_of_le h (lit≤ tt) }

minus_fits : (n : ℕ) → n < 10 ^ 9 → SFits w32 (neg_ℤ (pos n))
minus_fits zero h = record { sfits = lit< tt }
minus_fits (suc n) h = let k : n < 10 ^ 9 = omega arith in record { sfits = lt_of_lt_of_le k (lit≤ tt) }

of_natural : (f : ℕ → ℤ) → ((n : ℕ) → n < 10 ^ 9 → SFits w32 (f n)) → (o : Option ℕ) → NineDigits o → (z : ℤ) → option_map f o ≡ Some z → SFits w32 z
of_natural f g None h z e = absent e
of_natural f g (Some n) h z e = let q : f n ≡ z = cc in subst (SFits w32) q (g n h)

-- An integer that is read fits an `i32`.
pub integer-fits : (rules : Rules) (w : List ℕ) (z : ℤ) → integer rules w ≡ Some z → SFits w32 z
unfolding integer
integer-fits rules [] z e = absent e
integer-fits rules (x ∷ w) z e = go (eqb x 43) (eqb x 45) e
  where
    go : (a b : Bool) →
        cond a (option_map pos (value_after_plus rules (natural rules w)))
        (cond b (option_map (λ n. neg_ℤ (pos n)) (value_after_minus rules (natural rules w))) (option_map pos (natural rules (x ∷ w)))) ≡ Some z →
        SFits w32 z
    go true b e = of_natural pos plus_fits (value_after_plus rules (natural rules w)) (plus_small rules (natural rules w) (small rules w)) z e
    go false true e =
        of_natural (λ n. neg_ℤ (pos n)) minus_fits (value_after_minus rules (natural rules w)) (minus_small rules (natural rules w) (small rules w)) z e
    go false false e = of_natural pos plus_fits (natural rules (x ∷ w)) (small rules (x ∷ w)) z e
