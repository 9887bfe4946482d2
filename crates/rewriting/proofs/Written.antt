-- A number has one way to be written, by the new rules: as the writer writes it. By the old rules it may have others.
use Rattle.std.specs.Prelude.{Option, None, Some, option_map}
use mathlib.Core.Path.{◌≡◌, refl, sym, ap, ◌∙◌}
use mathlib.Core.Bool.{Bool, true, false, cond}
use mathlib.Core.List.{List, [], ◌∷◌, ◌++◌, append-nil}
use Prim.Native.Nat.{ℕ, zero, suc, ◌+◌, ◌*◌, ◌-◌, ◌/◌, ◌%◌, ◌^◌, ◌≤◌, ◌<◌}
use native.Mathlib.Omega.{arith}
use lib.Dec.{eqb}
use lib.IntN.{ℤ, pos, negsuc, neg_ℤ}
use lib.ListN.{length}
use lib.Seq.{append_snoc}
use borrow.Author.Tests.{le-leb, eqb-true, eqb-false, ne_eqb}
use Rattle.graph.proofs.Passing.{zero_one}
use Rattle.layout.specs.declared.Rules.TheVariants.{New, Old}
use Rattle.layout.specs.Text.{digits_after, numeral, padded, natural, above_zero, integer, decimal, signed}
use Rattle.layout.proofs.Digits.{absent, digit-in, after_digit, after_end, after_least, Numeral, numeral-is, below_length, numeral-small}
use Rattle.readback.proofs.Digits.{decimal-short, decimal-long, decimal-few, number_back, numeral-first, integer-plain, plain_back, minus_back}

-- Digits that are written after those of a number other than 0 make the digits of the whole.
after_written : (ds : List ℕ) (n m : ℕ) → 1 ≤ n → m < 10 ^ 9 → digits_after n ds ≡ Some m → decimal n ++ ds ≡ decimal m
after_written [] n m h k e = append-nil (decimal n) ∙ ap (λ (j : ℕ). decimal j) (after_end n e)
after_written (d ∷ ds) n m h k e =
    let w = after_digit n d ds e in
    let r = digit-in d w.0 in
    let next = n * 10 + (d - 48) in
    let le : n * 10 + (d - 48) ≤ m = after_least ds next m w.1 in
    let small : n * 10 + (d - 48) < 10 ^ 20 = omega arith in
    let ten : 10 ≤ n * 10 + (d - 48) = omega arith in
    let tenth : (n * 10 + (d - 48)) / 10 ≡ n = omega (arith, r.0, r.1) in
    let last : 48 + (n * 10 + (d - 48)) % 10 ≡ d = omega (arith, r.0, r.1) in
    let one : decimal (n * 10 + (d - 48)) ≡ decimal n ++ (d ∷ []) =
    decimal-long next ten small ∙ ap (λ (j : ℕ). decimal j ++ ((48 + next % 10) ∷ [])) tenth ∙ ap (λ (x : ℕ). decimal n ++ (x ∷ [])) last in
    sym (append_snoc (decimal n) d ds) ∙ ap (λ (l : List ℕ). l ++ ds) (sym one) ∙ after_written ds next m (omega arith) k w.1

-- ---- a size or an index

module _ {w : List ℕ} {n : ℕ} (N : Numeral w n) where
  -- It is no shorter than the number as it is written.
  pub numeral-long : length (decimal n) ≤ length w
  numeral-long = go (length w) N.some_digits (below_length N)
    where
      go : (k : ℕ) → 1 ≤ k → n < 10 ^ k → length (decimal n) ≤ k
      go zero h l = zero_one (omega arith)
      go (suc k) h l = decimal-few k n l

-- Without a leading zero it is the number as it is written.
pub numeral-written : (w : List ℕ) (n : ℕ) → padded w ≡ false → Numeral w n → w ≡ decimal n
numeral-written [] n p N = zero_one (omega (arith, N.some_digits))
numeral-written (x ∷ []) n p N =
    let r = numeral-first x [] n N in
    let e : 0 * 10 + (x - 48) ≡ n = after_end (0 * 10 + (x - 48)) (after_digit 0 x [] N.digits).1 in
    let s : n < 10 = omega (arith, r.0, r.1) in
    let q : x ≡ 48 + n = omega (arith, r.0) in
    ap (λ (y : ℕ). y ∷ []) q ∙ sym (decimal-short n s)
numeral-written (x ∷ y ∷ w) n p N =
    let r = numeral-first x (y ∷ w) n N in
    let ne = eqb-false x 48 p in
    let a = 0 * 10 + (x - 48) in
    let s : 0 * 10 + (x - 48) < 10 = omega (arith, r.0, r.1) in
    let m : 1 ≤ 0 * 10 + (x - 48) = omega (arith, r.0, r.1) in
    let q : x ≡ 48 + (0 * 10 + (x - 48)) = omega (arith, r.0) in
    ap (λ (z : ℕ). z ∷ y ∷ w) q ∙ ap (λ (l : List ℕ). l ++ (y ∷ w)) (sym (decimal-short a s))
    ∙ after_written (y ∷ w) a n m (numeral-small N) (after_digit 0 x (y ∷ w) N.digits).1

-- By the new rules a size or an index is a numeral without a leading zero.
natural-new : (w : List ℕ) (n : ℕ) → natural New w ≡ Some n → (padded w ≡ false) × Numeral w n
unfolding natural
natural-new w n e = go (padded w) refl e
  where
    go : (b : Bool) → padded w ≡ b → cond b None (numeral w) ≡ Some n → (padded w ≡ false) × Numeral w n
    go true is e = absent e
    go false is e = (is, numeral-is w n e)

natural-old : (w : List ℕ) → natural Old w ≡ numeral w
unfolding natural
natural-old w = refl

-- ---- a number with its sign

-- The ways in which the old rules take a number: after +, after -, or by itself.
pub data Way : List ℕ → ℤ → Type 0 where
  plus : {w : List ℕ} {n : ℕ} → Numeral w n → Way (43 ∷ w) (pos n)
  minus : {w : List ℕ} {n : ℕ} {z : ℤ} → Numeral w n → z ≡ neg_ℤ (pos n) → Way (45 ∷ w) z
  plain : {w : List ℕ} {n : ℕ} → Numeral w n → Way w (pos n)

mapped : {A B : Type 0} (f : A → B) (o : Option A) (b : B) → option_map f o ≡ Some b → (a : A) × (o ≡ Some a) × (b ≡ f a)
mapped f None b e = absent e
mapped f (Some a) b e = (a, refl, let q : b ≡ f a = cc in q)

pub old_way : (w : List ℕ) (z : ℤ) → integer Old w ≡ Some z → Way w z
unfolding integer
old_way [] z e = absent e
old_way (x ∷ w) z e = go (eqb x 43) refl (eqb x 45) refl e
  where
    by_itself : option_map pos (natural Old (x ∷ w)) ≡ Some z → Way (x ∷ w) z
    by_itself e =
        let m = mapped pos (natural Old (x ∷ w)) z e in
        rw m.2 (plain (numeral-is (x ∷ w) m.0 (sym (natural-old (x ∷ w)) ∙ m.1)))

    go : (a : Bool) → eqb x 43 ≡ a → (b : Bool) → eqb x 45 ≡ b →
        cond a (option_map pos (natural Old w)) (cond b (option_map (λ n. neg_ℤ (pos n)) (natural Old w)) (option_map pos (natural Old (x ∷ w)))) ≡ Some z →
        Way (x ∷ w) z
    go true is b is' e =
        let m = mapped pos (natural Old w) z e in
        rw (eqb-true x 43 is, m.2) (plus (numeral-is w m.0 (sym (natural-old w) ∙ m.1)))
    go false is true is' e =
        let m = mapped (λ n. neg_ℤ (pos n)) (natural Old w) z e in
        rw (eqb-true x 45 is') (minus (numeral-is w m.0 (sym (natural-old w) ∙ m.1)) m.2)
    go false is false is' e = by_itself e

-- What the old rules take is read again, as it is written, by the new ones, and is no longer than it was.
pub old_read : {w : List ℕ} {z : ℤ} → Way w z → integer New (signed z) ≡ Some z
old_read (plus N) = plain_back _ (numeral-small N)
old_read (minus {n = zero} N is) = rw is (plain_back 0 (numeral-small N))
old_read (minus {n = suc n} N is) = rw is (minus_back n (numeral-small N))
old_read (plain N) = plain_back _ (numeral-small N)

pub old_long : {w : List ℕ} {z : ℤ} → Way w z → length (signed z) ≤ length w
old_long (plus N) = omega (arith, numeral-long N)
old_long (minus {n = zero} N is) = rw is (omega (arith, numeral-long N))
old_long (minus {n = suc n} N is) = rw is (omega (arith, numeral-long N))
old_long (plain N) = numeral-long N

-- A size or an index, by itself.
pub natural-read : (w : List ℕ) (n : ℕ) → natural Old w ≡ Some n → (integer Old w ≡ Some (pos n)) × (natural New (decimal n) ≡ Some n)
natural-read w n e =
    let N = numeral-is w n (sym (natural-old w) ∙ e) in
    (integer-plain Old w n N ∙ ap (λ (o : Option ℕ). option_map pos o) e, number_back n (numeral-small N))

-- What the new rules take is what is written, and the old ones take it too, as the same number.
pub natural-written : (w : List ℕ) (n : ℕ) → natural New w ≡ Some n → (natural Old w ≡ Some n) × (w ≡ decimal n)
unfolding natural numeral
natural-written w n e =
    let N = natural-new w n e in
    (numeral-taken N.1, numeral-written w n N.0 N.1)
  where
    numeral-taken : Numeral w n → numeral w ≡ Some n
    numeral-taken N = rw (le-leb 1 (length w) N.some_digits, le-leb (length w) 9 N.few_digits) N.digits

pub integer-written : (w : List ℕ) (z : ℤ) → integer New w ≡ Some z → (integer Old w ≡ Some z) × (w ≡ signed z)
unfolding integer
integer-written [] z e = absent e
integer-written (x ∷ w) z e = go (eqb x 43) refl (eqb x 45) refl e
  where
    below : (o : Option ℕ) → natural New w ≡ o → option_map (λ n. neg_ℤ (pos n)) (above_zero o) ≡ Some z →
        (option_map (λ n. neg_ℤ (pos n)) (natural Old w) ≡ Some z) × (45 ∷ w ≡ signed z)
    below None is e = absent e
    below (Some zero) is e = absent e
    below (Some (suc n)) is e =
        let p = natural-written w (suc n) is in
        let f : ◌≡◌ {A = Option ℤ} (Some (negsuc n)) (Some z) = rw (ne_eqb (suc n) 0 (omega arith)) at e in
        let q : negsuc n ≡ z = cc in
        (rw (p.0, q), rw (← q) (ap (λ (l : List ℕ). 45 ∷ l) p.1))

    go : (a : Bool) → eqb x 43 ≡ a → (b : Bool) → eqb x 45 ≡ b →
        cond a None (cond b (option_map (λ n. neg_ℤ (pos n)) (above_zero (natural New w))) (option_map pos (natural New (x ∷ w)))) ≡ Some z →
        (cond a (option_map pos (natural Old w)) (cond b (option_map (λ n. neg_ℤ (pos n)) (natural Old w)) (option_map pos (natural Old (x ∷ w)))) ≡ Some z)
        × (x ∷ w ≡ signed z)
    go true is b is' e = absent e
    go false is true is' e = let p = below (natural New w) refl e in (p.0, rw (eqb-true x 45 is') p.1)
    go false is false is' e =
        let m = mapped pos (natural New (x ∷ w)) z e in
        let p = natural-written (x ∷ w) m.0 m.1 in
        (ap (λ (o : Option ℕ). option_map pos o) p.0 ∙ ap Some (sym m.2), p.1 ∙ ap signed (sym m.2))
