-- The laws of one word: its count of ones is the sum of its bits, it is 0 where none is set, and its low bits are its own.
use Prim.Native.Nat.{ℕ, zero, suc, ◌+◌, ◌*◌, ◌-◌, ◌/◌, ◌%◌, ◌^◌, ◌≤◌, ◌<◌}
use mathlib.Core.Path.{◌≡◌, refl, sym, ap, ap₂, ◌∙◌, subst}
use mathlib.Core.Bool.{Bool, true, false, not, ◌&&◌, ◌||◌, or-true, or-false}
use native.Mathlib.Omega.{arith}
use native.Mathlib.Decide.{dec_lt}
use native.Mathlib.Nat.{zero-add, mod-lt, div-eq_of_lt, div-one, pow-suc, lt_of_lt_of_le}
use native.Mathlib.Numerals.{add-one, one-add}
use lib.Arith.{lt-one, digits_div}
use lib.Count.{ones, ones_step}
use lib.Dec.{eqb, ltb}
use lib.Pow.{pow_pos, pow_mono, shr_lt, shr-shr, field, mod-mod-pow}
use borrow.Author.Tests.{lt-ltb, le-ltb, ne_eqb}
use Rattle.integers.specs.Sum.{sum}
use Rattle.integers.proofs.Sum.{sum-cong, sum-split, sum_mono, sum-const}
use Rattle.graph.specs.Graph.{some?}
use Rattle.graph.proofs.Passing.{some_cong}
use Rattle.dual.specs.Sets.{one}
use Rattle.bits.specs.Word.{bit_of}

-- ---- marks as numbers

pub one-le : (b : Bool) → one b ≤ 1
one-le true = omega arith
one-le false = omega arith

pub ones-most : (n : ℕ) (f : ℕ → Bool) → sum n (λ k. one (f k)) ≤ n
ones-most n f =
    omega (arith, sum_mono n (λ k. one (f k)) (λ k. 1) (λ k l. one-le (f k)), sum-const n 1)

-- ---- the count of ones

one-digit : (d : ℕ) → d < 2 → one (eqb d 1) ≡ d
one-digit zero l = refl
one-digit (suc zero) l = refl
one-digit (suc (suc d)) l = absurd (omega arith)

lowest-bit : (n : ℕ) → one (bit_of n 0) ≡ n % 2
lowest-bit n = one-digit (n / 1 % 2) (omega arith) ∙ ap (λ m. m % 2) (div-one n)

half_lt : (j : ℕ) {n : ℕ} → n < 2 ^ suc j → n / 2 < 2 ^ j
half_lt j {n} h = shr_lt j 1 (subst (λ (k : ℕ). n < 2 ^ k) (sym (add-one j)) h)

sum_first : (j : ℕ) (f : ℕ → ℕ) → sum (suc j) f ≡ f 0 + sum j (λ k. f (1 + k))
sum_first j f =
    ap (λ m. sum m f) (sym (one-add j)) ∙ sum-split 1 j f ∙ ap (λ a. a + sum j (λ k. f (1 + k))) (zero-add (f 0))

-- A number's count of ones is the sum of its bits.
pub popcount : (j n : ℕ) → n < 2 ^ j → ones n ≡ sum j (λ k. one (bit_of n k))
unfolding ones
popcount zero n h = ap ones (lt-one h)
popcount (suc j) n h =
    ones_step n
    ∙ ap₂ ◌+◌ (sym (lowest-bit n))
    (popcount j (n / 2) (half_lt j h) ∙ sum-cong j _ _ (λ k l. ap (λ m. one (eqb (m % 2) 1)) (shr-shr n 1 k)))
    ∙ sym (sum_first j (λ k. one (bit_of n k)))

-- ---- no bit

-- The highest of j + 1 bits.
top_bit : (j n : ℕ) → 2 ^ j ≤ n → n < 2 ^ suc j → bit_of n j ≡ true
top_bit j n low high =
    let p : 2 ^ suc j ≡ 2 ^ j * 2 = pow-suc 2 j in
    let e : n ≡ 1 * 2 ^ j + (n - 2 ^ j) = omega arith in
    let l : n - 2 ^ j < 2 ^ j = omega arith in
    ap (λ m. eqb (m / 2 ^ j % 2) 1) e ∙ ap (λ q. eqb (q % 2) 1) (digits_div 1 l)

-- A number of j bits is 0 where none is set.
pub some_bit : (j n : ℕ) → n < 2 ^ j → some? j (bit_of n) ≡ not (eqb n 0)
some_bit zero n h = sym (ap (λ m. not (eqb m 0)) (lt-one h))
some_bit (suc j) n h = elim (dec_lt n (2 ^ j)) [
  | yes l ↦ ap₂ ◌||◌ (some_bit j n l) (ap (λ q. eqb (q % 2) 1) (div-eq_of_lt l)) ∙ or-false (not (eqb n 0))
  | no l ↦
      let p : 0 < 2 ^ j = pow_pos j in
      ap (λ b. some? j (bit_of n) || b) (top_bit j n (omega (arith, l)) h)
      ∙ or-true (some? j (bit_of n))
      ∙ sym (ap not (ne_eqb n 0 (λ e. omega (arith, l))))
]

-- A word shifted down by k bits is 0 where none is set from bit k on.
pub some_above : (n k : ℕ) → n < 2 ^ 64 → k < 64 → some? (64 - k) (λ j. bit_of n (k + j)) ≡ not (eqb (n / 2 ^ k) 0)
some_above n k h l =
    let e : 64 ≡ 64 - k + k = omega arith in
    some_cong (64 - k) _ _ (λ j b. ap (λ m. eqb (m % 2) 1) (sym (shr-shr n k j)))
    ∙ some_bit (64 - k) (n / 2 ^ k) (shr_lt (64 - k) k (subst (λ (m : ℕ). n < 2 ^ m) e h))

-- ---- the low bits

pub low_bit : (n a t : ℕ) → bit_of (n % 2 ^ a) t ≡ ltb t a && bit_of n t
low_bit n a t = elim (dec_lt t a) [
  | yes l ↦
      let e : a ≡ a - t - 1 + 1 + t = omega arith in
      ap (λ d. eqb d 1)
      (ap (λ x. n % 2 ^ x / 2 ^ t % 2) e ∙ ap (λ d. d % 2) (field n (a - t - 1 + 1) t) ∙ mod-mod-pow (n / 2 ^ t) (a - t - 1) 1)
      ∙ sym (ap (λ b. b && bit_of n t) (lt-ltb t a l))
  | no l ↦
      let h : a ≤ t = omega (arith, l) in
      ap (λ q. eqb (q % 2) 1) (div-eq_of_lt (lt_of_lt_of_le (mod-lt n (pow_pos a)) (pow_mono h)))
      ∙ sym (ap (λ b. b && bit_of n t) (le-ltb t a h))
]
