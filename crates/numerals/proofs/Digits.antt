-- The number that digits make, for the loop that reads it, and the leading zero.
use Rattle.std.specs.Prelude.{None, Some}
use mathlib.Core.Path.{◌≡◌, refl, ap, ◌∙◌}
use mathlib.Core.Bool.{Bool, true, false, cond, and-false}
use mathlib.Core.List.{List}
use Prim.Native.Nat.{ℕ, suc, ◌+◌, ◌*◌, ◌-◌, ◌^◌, ◌≤◌, ◌<◌}
use native.Mathlib.Nat.{pow-suc, pow-le-pow_right}
use native.Mathlib.Numerals.{add-one}
use native.Mathlib.Omega.{arith}
use lib.Dec.{lit<}
use borrow.Author.Tests.{le-leb, lt-leb}
use lib.ListN.{length, drop, get_or, drop_of_length-le}
use lib.Seq.{drop-cons}
use Rattle.layout.specs.declared.Rules.{Rules}
use Rattle.layout.specs.declared.Rules.TheVariants.{New, Old}
use Rattle.layout.specs.Text.{digit, digits_after, numeral, natural}
use Rattle.spelling.specs.Spelling.{zero_refused}
use Rattle.layout.proofs.Digits.{after_nil, after_yes, after_no, digit-in}

pub numeral-in : (w : List ℕ) → 1 ≤ length w → length w ≤ 9 → numeral w ≡ digits_after 0 w
unfolding numeral
numeral-in w h k = simp (le-leb 1 (length w) h, le-leb (length w) 9 k)

pub numeral-short : (w : List ℕ) → length w < 1 → numeral w ≡ None
unfolding numeral
numeral-short w h = simp (lt-leb 1 (length w) h)

pub numeral-long : (w : List ℕ) → 9 < length w → numeral w ≡ None
unfolding numeral
numeral-long w h = simp (lt-leb (length w) 9 h, and-false)

-- The invariant of the loop: it has read i digits, which make n.
pub record Reading (w : List ℕ) (n i : ℕ) : Type 0 where
  pub some_digits : 1 ≤ length w
  pub few_digits : length w ≤ 9
  pub within : i ≤ length w
  pub small : n < 10 ^ i
  pub rest : digits_after 0 w ≡ digits_after n (drop i w)

pub reading_starts : (w : List ℕ) → 1 ≤ length w → length w ≤ 9 → Reading w 0 0
reading_starts w h k = record { some_digits = h; few_digits = k; within = omega arith; small = lit< tt; rest = refl }

module _ (w : List ℕ) (n i : ℕ) (r : Reading w n i) where
  whole : numeral w ≡ digits_after n (drop i w)
  whole = numeral-in w r.some_digits r.few_digits ∙ r.rest

  -- One more digit leaves a number below 10 ^ 9.
  pub reading_small : i < length w → n < 10 ^ 8
  reading_small lt =
      let k : i ≤ 8 = omega arith in
      let h : 10 ^ i ≤ 10 ^ 8 = pow-le-pow_right (lit< tt) k in
      omega arith

  pub reading_stops : i < length w → digit (get_or w i 0) ≡ false → numeral w ≡ None
  reading_stops lt h = whole ∙ rw (drop-cons w i 0 lt) (after_no n (get_or w i 0) (drop (suc i) w) h)

  pub reading_more : i < length w → digit (get_or w i 0) ≡ true → Reading w (n * 10 + (get_or w i 0 - 48)) (i + 1)
  reading_more lt h =
      let k = digit-in (get_or w i 0) h in
      record {
        some_digits = r.some_digits;
        few_digits = r.few_digits;
        within = omega arith;
        small = rw (add-one, pow-suc) (omega (arith, k));
        rest = r.rest ∙ rw (drop-cons w i 0 lt, add-one) (after_yes n (get_or w i 0) (drop (suc i) w) h);
      }

  pub reading_end : length w ≤ i → numeral w ≡ Some n
  reading_end le = whole ∙ rw (drop_of_length-le w le) (after_nil n)

-- A size or an index, by whether it has a leading zero that the rules do not take.
pub natural-by : (rules : Rules) (w : List ℕ) (b : Bool) → b ≡ zero_refused rules w → cond b None (numeral w) ≡ natural rules w
unfolding natural
natural-by New w b e = ap (λ (x : Bool). cond x None (numeral w)) e
natural-by Old w b e = ap (λ (x : Bool). cond x None (numeral w)) e
