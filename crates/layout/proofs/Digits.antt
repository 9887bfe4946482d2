-- The number that digits make, digit by digit, and what is known of a number that is read.
use Rattle.std.specs.Prelude.{Option, None, Some}
use mathlib.Core.Path.{◌≡◌, refl, sym, ap, ◌∙◌}
use mathlib.Core.Bool.{Bool, true, false, cond, ◌&&◌}
use mathlib.Core.List.{List, [], ◌∷◌}
use Prim.Native.Nat.{ℕ, suc, ◌+◌, ◌*◌, ◌-◌, ◌^◌, ◌≤◌, ◌<◌}
use native.Mathlib.Nat.{pow-suc, pow-le-pow_right, zero-add, add-zero, add-suc, suc-add, lt_of_lt_of_le}
use native.Mathlib.Omega.{arith}
use lib.Dec.{leb, lit<}
use lib.ListN.{length}
use borrow.Author.Tests.{leb-true}
use Rattle.graph.proofs.Passing.{zero_one}
use Rattle.graph.proofs.Ranges.{both}
use Rattle.layout.specs.Text.{digit, digits_after, numeral}

pub after_nil : (n : ℕ) → digits_after n [] ≡ Some n
unfolding digits_after
after_nil n = refl

pub after_yes : (n d : ℕ) (ds : List ℕ) → digit d ≡ true → digits_after n (d ∷ ds) ≡ digits_after (n * 10 + (d - 48)) ds
unfolding digits_after
after_yes n d ds h = ap (λ (b : Bool). cond b (digits_after (n * 10 + (d - 48)) ds) None) h

pub after_no : (n d : ℕ) (ds : List ℕ) → digit d ≡ false → digits_after n (d ∷ ds) ≡ None
unfolding digits_after
after_no n d ds h = ap (λ (b : Bool). cond b (digits_after (n * 10 + (d - 48)) ds) None) h

-- Nothing is not something.
pub absent : {A B : Type 0} {a : A} → None ≡ Some a → B
absent h = zero_one (cc)

pub digit-in : (d : ℕ) → digit d ≡ true → (48 ≤ d) × (d ≤ 57)
digit-in d h = let p = both (leb 48 d) (leb d 57) h in (leb-true 48 d p.0, leb-true d 57 p.1)

-- ---- where a number is read

-- One more digit, and the last.
module _ (n d : ℕ) (ds : List ℕ) {m : ℕ} (e : digits_after n (d ∷ ds) ≡ Some m) where
  pub after_digit : (digit d ≡ true) × (digits_after (n * 10 + (d - 48)) ds ≡ Some m)
  after_digit = go (digit d) refl
    where
      go : (b : Bool) → digit d ≡ b → (digit d ≡ true) × (digits_after (n * 10 + (d - 48)) ds ≡ Some m)
      go true is = (is, sym (after_yes n d ds is) ∙ e)
      go false is = absent (sym (after_no n d ds is) ∙ e)

pub after_end : (n : ℕ) {m : ℕ} → digits_after n [] ≡ Some m → n ≡ m
after_end n {m} e = let q : ◌≡◌ {A = Option ℕ} (Some n) (Some m) = sym (after_nil n) ∙ e in cc

-- More digits make no less, and a number below as great a power of ten.
pub after_least : (ds : List ℕ) (n m : ℕ) → digits_after n ds ≡ Some m → n ≤ m
after_least [] n m e = omega (arith, after_end n e)
after_least (d ∷ ds) n m e = omega (arith, after_least ds (n * 10 + (d - 48)) m (after_digit n d ds e).1)

after_most : (ds : List ℕ) (n k m : ℕ) → n < 10 ^ k → digits_after n ds ≡ Some m → m < 10 ^ (k + length ds)
after_most [] n k m h e = let q : n ≡ m = after_end n e in rw add-zero (omega arith)
after_most (d ∷ ds) n k m h e =
    let w = after_digit n d ds e in
    let le : d ≤ 57 = (digit-in d w.0).1 in
    let small : n * 10 + (d - 48) < 10 ^ suc k = rw pow-suc (omega arith) in
    rw (add-suc, ← suc-add k (length ds)) (after_most ds (n * 10 + (d - 48)) (suc k) m small w.1)

-- ---- a numeral

-- It has digits alone, at least one and at most nine.
pub record Numeral (w : List ℕ) (n : ℕ) : Type 0 where
  pub some_digits : 1 ≤ length w
  pub few_digits : length w ≤ 9
  pub digits : digits_after 0 w ≡ Some n

pub numeral-is : (w : List ℕ) (n : ℕ) → numeral w ≡ Some n → Numeral w n
unfolding numeral
numeral-is w n e = go (leb 1 (length w) && leb (length w) 9) refl e
  where
    go : (b : Bool) → (leb 1 (length w) && leb (length w) 9) ≡ b → cond b (digits_after 0 w) None ≡ Some n → Numeral w n
    go true is e =
        let p = both (leb 1 (length w)) (leb (length w) 9) is in
        record { some_digits = leb-true 1 (length w) p.0; few_digits = leb-true (length w) 9 p.1; digits = e }
    go false is e = absent e

module _ {w : List ℕ} {n : ℕ} (N : Numeral w n) where
  pub below_length : n < 10 ^ length w
  below_length = let h = after_most w 0 0 n (lit< tt) N.digits in rw zero-add at h

  pub numeral-small : n < 10 ^ 9
  numeral-small = lt_of_lt_of_le below_length (pow-le-pow_right (lit< tt) N.few_digits)
