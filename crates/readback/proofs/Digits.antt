-- Laws of a number's digits: how many there are, which is first, and that they read as the number, also after its sign.
use Rattle.std.specs.Prelude.{Option, None, Some, option_map}
use mathlib.Core.Path.{◌≡◌, refl, sym, ap, ◌∙◌}
use mathlib.Core.Bool.{Bool, true, false}
use mathlib.Core.List.{List, [], ◌∷◌, ◌++◌}
use Prim.Native.Nat.{ℕ, zero, suc, ◌+◌, ◌*◌, ◌-◌, ◌/◌, ◌%◌, ◌^◌, ◌≤◌, ◌<◌}
use native.Mathlib.Nat.{pow-suc}
use native.Mathlib.Omega.{arith}
use lib.Dec.{ltb}
use borrow.Author.Tests.{lt-ltb, le-ltb, ltb-true, ltb-false, le-leb, ne_eqb}
use lib.IntN.{ℤ, pos, negsuc}
use lib.ListN.{length, length-append}
use Rattle.integers.specs.Integer.{Within}
use Rattle.graph.specs.Limits.{greatest_weight}
use Rattle.layout.specs.declared.Rules.{Rules}
use Rattle.layout.specs.declared.Rules.TheVariants.{New}
use Rattle.layout.specs.Text.{digit, digits_after, numeral, padded, natural, integer, digits, decimal, signed}
use Rattle.layout.proofs.Digits.{digit-in, after_nil, after_yes, after_no, after_digit, Numeral, numeral-is}
use Rattle.graph.proofs.Passing.{zero_one}

pub digits-short : (k n : ℕ) → n < 10 → digits (suc k) n ≡ (48 + n) ∷ []
unfolding digits
digits-short k n h = rw (lt-ltb n 10 h)

pub digits_long : (k n : ℕ) → 10 ≤ n → digits (suc k) n ≡ digits k (n / 10) ++ ((48 + n % 10) ∷ [])
unfolding digits
digits_long k n h = rw (le-ltb n 10 h)

pub digits-none : (n : ℕ) → digits 0 n ≡ []
unfolding digits
digits-none n = refl

pub tenth : (k n : ℕ) → n < 10 ^ suc k → n / 10 < 10 ^ k
tenth k n h = let e : 10 ^ suc k ≡ 10 ^ k * 10 = pow-suc 10 k in omega arith

-- Room for more digits than n has makes no difference.
pub digits-room : (k n : ℕ) → n < 10 ^ suc k → digits (suc (suc k)) n ≡ digits (suc k) n
digits-room zero n h = let s : n < 10 = h in digits-short 1 n s ∙ sym (digits-short 0 n s)
digits-room (suc k) n h = go (ltb n 10) refl (digits-room k (n / 10) (tenth (suc k) n h))
  where
    go : (b : Bool) → ltb n 10 ≡ b → digits (suc (suc k)) (n / 10) ≡ digits (suc k) (n / 10) → digits (suc (suc (suc k))) n ≡ digits (suc (suc k)) n
    go true is ih = let s : n < 10 = ltb-true n 10 is in digits-short (suc (suc k)) n s ∙ sym (digits-short (suc k) n s)
    go false is ih =
        let s : 10 ≤ n = ltb-false n 10 is in
        digits_long (suc (suc k)) n s ∙ ap (λ (l : List ℕ). l ++ ((48 + n % 10) ∷ [])) ih ∙ sym (digits_long (suc k) n s)

-- The digits of n are those of its tenth, and one more.
pub decimal-short : (n : ℕ) → n < 10 → decimal n ≡ (48 + n) ∷ []
decimal-short n h = digits-short 19 n h

pub decimal-long : (n : ℕ) → 10 ≤ n → n < 10 ^ 20 → decimal n ≡ decimal (n / 10) ++ ((48 + n % 10) ∷ [])
decimal-long n h k = digits_long 19 n h ∙ ap (λ (l : List ℕ). l ++ ((48 + n % 10) ∷ [])) (sym (digits-room 18 (n / 10) (tenth 19 n k)))

-- A number below 10 ^ suc j has at most suc j digits, whatever the room.
pub digits-few : (k j n : ℕ) → n < 10 ^ suc j → length (digits k n) ≤ suc j
digits-few zero j n h = omega (arith, ap length (digits-none n))
digits-few (suc k) zero n h = let s : n < 10 = h in omega (arith, ap length (digits-short k n s))
digits-few (suc k) (suc j) n h = go (ltb n 10) refl (digits-few k j (n / 10) (tenth (suc j) n h))
  where
    go : (b : Bool) → ltb n 10 ≡ b → length (digits k (n / 10)) ≤ suc j → length (digits (suc k) n) ≤ suc (suc j)
    go true is ih = omega (arith, ap length (digits-short k n (ltb-true n 10 is)))
    go false is ih = omega (arith, ap length (digits_long k n (ltb-false n 10 is)), length-append (digits k (n / 10)) ((48 + n % 10) ∷ []))

pub decimal-few : (j n : ℕ) → n < 10 ^ suc j → length (decimal n) ≤ suc j
decimal-few j n h = digits-few 20 j n h

pub decimal-some : (n : ℕ) → 1 ≤ length (decimal n)
decimal-some n = go (ltb n 10) refl
  where
    go : (b : Bool) → ltb n 10 ≡ b → 1 ≤ length (decimal n)
    go true is = omega (arith, ap length (digits-short 19 n (ltb-true n 10 is)))
    go false is = omega (arith, ap length (digits_long 19 n (ltb-false n 10 is)), length-append (digits 19 (n / 10)) ((48 + n % 10) ∷ []))

-- With its sign a number has as many digits, and at most one byte more.
pub signed-few : (j n : ℕ) (z : ℤ) → n < 10 ^ suc j → Within n z → length (signed z) ≤ suc (suc j)
signed-few j n (pos k) h w = omega (arith, decimal-few j k (omega arith))
signed-few j n (negsuc k) h w = omega (arith, decimal-few j (suc k) (omega arith))

pub signed-some : (z : ℤ) → 1 ≤ length (signed z)
signed-some (pos n) = decimal-some n
signed-some (negsuc n) = omega arith

-- ---- reading them

pub digit-yes : (d : ℕ) → d < 10 → digit (48 + d) ≡ true
digit-yes d h = simp (le-leb 48 (48 + d) (omega arith), le-leb (48 + d) 57 (omega arith))

pub after_one : (a d : ℕ) → d < 10 → digits_after a ((48 + d) ∷ []) ≡ Some (a * 10 + d)
after_one a d k =
    let v : a * 10 + (48 + d - 48) ≡ a * 10 + d = omega arith in
    after_yes a (48 + d) [] (digit-yes d k) ∙ after_nil (a * 10 + (48 + d - 48)) ∙ ap Some v

-- One digit more.
pub after_snoc : (ds : List ℕ) (a m d : ℕ) → digits_after a ds ≡ Some m → d < 10 → digits_after a (ds ++ ((48 + d) ∷ [])) ≡ Some (m * 10 + d)
after_snoc [] a m d h k =
    let e : ◌≡◌ {A = Option ℕ} (Some a) (Some m) = sym (after_nil a) ∙ h in
    let q : a ≡ m = cc in
    after_one a d k ∙ ap (λ (n : ℕ). Some (n * 10 + d)) q
after_snoc (x ∷ ds) a m d h k = go (digit x) refl (λ e. after_snoc ds (a * 10 + (x - 48)) m d e k)
  where
    go : (b : Bool) → digit x ≡ b
        → (digits_after (a * 10 + (x - 48)) ds ≡ Some m → digits_after (a * 10 + (x - 48)) (ds ++ ((48 + d) ∷ [])) ≡ Some (m * 10 + d))
        → digits_after a (x ∷ (ds ++ ((48 + d) ∷ []))) ≡ Some (m * 10 + d)
    go true is ih = after_yes a x (ds ++ ((48 + d) ∷ [])) is ∙ ih (sym (after_yes a x ds is) ∙ h)
    go false is ih = let z : ◌≡◌ {A = Option ℕ} None (Some m) = sym (after_no a x ds is) ∙ h in zero_one (cc)

pub digits-read : (k n : ℕ) → n < 10 ^ k → digits_after 0 (digits k n) ≡ Some n
digits-read zero n h = let e : n ≡ 0 = zero_of n h in ap (digits_after 0) (digits-none n) ∙ after_nil 0 ∙ ap Some (sym e)
  where
    zero_of : (m : ℕ) → m < 1 → m ≡ 0
    zero_of m k = omega arith
digits-read (suc k) n h = go (ltb n 10) refl (digits-read k (n / 10) (tenth k n h))
  where
    go : (b : Bool) → ltb n 10 ≡ b → digits_after 0 (digits k (n / 10)) ≡ Some (n / 10) → digits_after 0 (digits (suc k) n) ≡ Some n
    go true is ih =
        let s : n < 10 = ltb-true n 10 is in
        let v : 0 * 10 + n ≡ n = omega arith in
        ap (digits_after 0) (digits-short k n s) ∙ after_one 0 n s ∙ ap Some v
    go false is ih =
        let m : n % 10 < 10 = omega arith in
        let v : n / 10 * 10 + n % 10 ≡ n = omega arith in
        ap (digits_after 0) (digits_long k n (ltb-false n 10 is)) ∙ after_snoc (digits k (n / 10)) 0 (n / 10) (n % 10) ih m ∙ ap Some v

-- ---- the first digit

-- A number above 0 begins with a digit above 0 (byte 48), where there is room for its digits.
pub record FirstDigit (w : List ℕ) : Type 0 where
  pub first : ℕ
  pub others : List ℕ
  pub is : w ≡ first ∷ others
  pub above : 48 < first

pub digits-first : (k n : ℕ) → 1 ≤ n → n < 10 ^ k → FirstDigit (digits k n)
digits-first zero n some-n h = absurd (omega arith)
digits-first (suc k) n some-n h = go (ltb n 10) refl (λ l. digits-first k (n / 10) l (tenth k n h))
  where
    go : (b : Bool) → ltb n 10 ≡ b → (1 ≤ n / 10 → FirstDigit (digits k (n / 10))) → FirstDigit (digits (suc k) n)
    go true is ih = record { first = 48 + n; others = []; is = digits-short k n (ltb-true n 10 is); above = omega arith }
    go false is ih =
        let s : 10 ≤ n = ltb-false n 10 is in
        let f : FirstDigit (digits k (n / 10)) = ih (omega arith) in
        record {
          first = f.first;
          others = f.others ++ ((48 + n % 10) ∷ []);
          is = digits_long k n s ∙ ap (λ (l : List ℕ). l ++ ((48 + n % 10) ∷ [])) f.is;
          above = f.above;
        }

not_padded : (d : ℕ) (ds : List ℕ) → 48 < d → padded (d ∷ ds) ≡ false
not_padded d [] h = refl
not_padded d (x ∷ ds) h = ne_eqb d 48 (omega arith)

-- No number is written with a leading zero.
pub decimal-plain : (n : ℕ) → n < 10 ^ 20 → padded (decimal n) ≡ false
decimal-plain zero h = ap padded (decimal-short 0 (omega arith))
decimal-plain (suc n) h =
    let f : FirstDigit (decimal (suc n)) = digits-first 20 (suc n) (omega arith) h in
    ap padded f.is ∙ not_padded f.first f.others f.above

-- ---- a number that is written reads as itself

pub numeral-back : (n : ℕ) → n < 10 ^ 9 → numeral (decimal n) ≡ Some n
unfolding numeral
numeral-back n h =
    simp (le-leb 1 (length (decimal n)) (decimal-some n), le-leb (length (decimal n)) 9 (decimal-few 8 n h))
    (digits-read 20 n (omega arith))

pub number_back : (n : ℕ) → n < 10 ^ 9 → natural New (decimal n) ≡ Some n
unfolding natural
number_back n h = rw (decimal-plain n (omega arith)) (numeral-back n h)

-- ---- a number with its sign

-- The first byte of a numeral is a digit.
pub numeral-first : (x : ℕ) (w : List ℕ) (n : ℕ) → Numeral (x ∷ w) n → (48 ≤ x) × (x ≤ 57)
numeral-first x w n N = digit-in x (after_digit 0 x w N.digits).0

-- A numeral by itself is read as it is, by any rules.
pub integer-plain : (rules : Rules) (w : List ℕ) (n : ℕ) → Numeral w n → integer rules w ≡ option_map pos (natural rules w)
unfolding integer
integer-plain rules [] n N = zero_one (omega (arith, N.some_digits))
integer-plain rules (x ∷ w) n N =
    let r = numeral-first x w n N in
    rw (ne_eqb x 43 (omega (arith, r.0)), ne_eqb x 45 (omega (arith, r.0)))

pub plain_back : (n : ℕ) → n < 10 ^ 9 → integer New (decimal n) ≡ Some (pos n)
plain_back n h =
    integer-plain New (decimal n) n (numeral-is (decimal n) n (numeral-back n h)) ∙ ap (λ (o : Option ℕ). option_map pos o) (number_back n h)

pub minus_back : (n : ℕ) → suc n < 10 ^ 9 → integer New (45 ∷ decimal (suc n)) ≡ Some (negsuc n)
unfolding integer
minus_back n h = rw (number_back (suc n) h, ne_eqb (suc n) 0 (omega arith))

pub signed_back : (z : ℤ) → Within greatest_weight z → integer New (signed z) ≡ Some z
signed_back (pos n) h = plain_back n (omega arith)
signed_back (negsuc n) h = minus_back n (omega arith)
