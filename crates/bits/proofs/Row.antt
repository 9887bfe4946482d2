-- The laws of a row of words: where a bit stands, the loop that counts its ones, and the loop that looks for one.
use Prim.Native.Nat.{ℕ, ◌+◌, ◌*◌, ◌-◌, ◌/◌, ◌%◌, ◌^◌, ◌≤◌, ◌<◌}
use mathlib.Core.Path.{◌≡◌, refl, sym, ap, ap₂, ◌∙◌}
use mathlib.Core.Bool.{true, false, ◌&&◌}
use mathlib.Core.List.{List}
use native.Mathlib.Omega.{arith}
use native.Mathlib.Decide.{dec_lt}
use lib.Count.{ones}
use lib.Dec.{eqb, ltb}
use lib.ListN.{get_or}
use borrow.Author.Tests.{lt-ltb, le-ltb}
use Rattle.integers.specs.Sum.{sum}
use Rattle.integers.proofs.Sum.{sum-cong, sum-split, sum-none}
use Rattle.graph.specs.Graph.{some?}
use Rattle.graph.proofs.Passing.{some_none, none_some, some_yes, yes_some}
use Rattle.dual.specs.Sets.{bit, one}
use Rattle.bits.specs.Word.{bit_of}
use Rattle.bits.proofs.Word.{popcount, low_bit, ones-most}

-- Bit k of word w of a row.
bit_word : (ws : List ℕ) (w k : ℕ) → k < 64 → bit ws (64 * w + k) ≡ bit_of (get_or ws w 0) k
bit_word ws w k l =
    let q : (64 * w + k) / 64 ≡ w = omega arith in
    let r : (64 * w + k) % 64 ≡ k = omega arith in
    ap₂ (λ a b. eqb (get_or ws a 0 / 2 ^ b % 2) 1) q r

-- The same counted from word from on: bit t of the word i after it, and bit i of all.
bit-later : (ws : List ℕ) (from i t : ℕ) → t < 64 → bit ws (64 * from + (64 * i + t)) ≡ bit_of (get_or ws (from + i) 0) t
bit-later ws from i t l =
    let e : 64 * from + (64 * i + t) ≡ 64 * (from + i) + t = omega arith in
    ap (bit ws) e ∙ bit_word ws (from + i) t l

-- ---- counting

test_moved : (a t k : ℕ) → ltb t (k - a) ≡ ltb (a + t) k
test_moved a t k = elim (dec_lt (a + t) k) [
  | yes l ↦ lt-ltb t (k - a) (omega arith) ∙ sym (lt-ltb (a + t) k l)
  | no l ↦ le-ltb t (k - a) (omega (arith, l)) ∙ sym (le-ltb (a + t) k (omega (arith, l)))
]

-- The first k bits from word from on, each as a number; 0 after them.
abbrev among_bits : List ℕ → ℕ → ℕ → ℕ → ℕ
among_bits ws from k j = one (ltb j k && bit ws (64 * from + j))

-- The ones of the first i of count words that are among the first k bits.
pub record OnesCounted (ws : List ℕ) (from count k i total : ℕ) : Type 0 where
  pub within : i ≤ count
  pub counted : total ≡ sum (64 * i) (λ j. one (ltb j k && bit ws (64 * from + j)))

pub counted_none : {ws : List ℕ} {from count k : ℕ} → OnesCounted ws from count k 0 0
counted_none = record { within = omega arith; counted = refl }

module _ {ws : List ℕ} {from count k i total : ℕ} (C : OnesCounted ws from count k i total) where
  pub counted_small : total ≤ 64 * i
  counted_small = omega (arith, C.counted, ones-most (64 * i) (λ j. ltb j k && bit ws (64 * from + j)))

  -- with the width of a word as a variable, so that its sum stays one
  word_count : (m : ℕ) → m ≡ 64 → get_or ws (from + i) 0 % 2 ^ (k - 64 * i) < 2 ^ m →
      ones (get_or ws (from + i) 0 % 2 ^ (k - 64 * i)) ≡ sum m (λ t. among_bits ws from k (64 * i + t))
  word_count m e h =
      popcount m (get_or ws (from + i) 0 % 2 ^ (k - 64 * i)) h
      ∙ sum-cong m _ _ (λ t l.
      ap one
      (low_bit (get_or ws (from + i) 0) (k - 64 * i) t
      ∙ ap₂ ◌&&◌ (test_moved (64 * i) t k) (sym (bit-later ws from i t (omega arith)))))

  more : (m x next : ℕ) → m ≡ 64 → x ≡ get_or ws (from + i) 0 % 2 ^ (k - 64 * i) → x < 2 ^ m → i < count → next ≡ total + ones x →
      OnesCounted ws from count k (i + 1) next
  more m x next e s h l is =
      let w : 64 * (i + 1) ≡ 64 * i + m = omega arith in
      record {
        within = omega arith;
        counted =
            is
            ∙ ap₂ ◌+◌ C.counted (ap ones s ∙ word_count m e (rw s at h))
            ∙ sym (sum-split (64 * i) m (among_bits ws from k))
            ∙ sym (ap (λ n. sum n (among_bits ws from k)) w);
      }

  pub counted_more : {x next : ℕ} → x ≡ get_or ws (from + i) 0 % 2 ^ (k - 64 * i) → x < 2 ^ 64 → i < count → next ≡ total + ones x →
      OnesCounted ws from count k (i + 1) next
  counted_more {x} {next} = more 64 x next refl

  pub counted_all : count ≤ i → k ≤ 64 * count → (total ≡ sum k (λ j. one (bit ws (64 * from + j)))) × (total ≤ k)
  counted_all l h =
      let e : 64 * i ≡ k + (64 * i - k) = omega (arith, C.within) in
      let s : total ≡ sum k (λ j. one (bit ws (64 * from + j))) =
      C.counted
      ∙ ap (λ n. sum n (among_bits ws from k)) e
      ∙ sum-split k (64 * i - k) (among_bits ws from k)
      ∙ ap₂ ◌+◌
      (sum-cong k _ _ (λ j b. ap (λ t. one (t && bit ws (64 * from + j))) (lt-ltb j k b)))
      (sum-none (64 * i - k) _ (λ j b. ap (λ t. one (t && bit ws (64 * from + (k + j)))) (le-ltb (k + j) k (omega arith))))
      ∙ omega arith in
      (s, omega (arith, ones-most k (λ j. bit ws (64 * from + j))))

-- ---- looking for a one

-- No bit from bit k on is set in the first i of count words.
pub record Clear (ws : List ℕ) (from count k i : ℕ) : Type 0 where
  pub within : i ≤ count
  pub clear : (j : ℕ) → k ≤ j → j < 64 * i → bit ws (64 * from + j) ≡ false

pub clear_none : {ws : List ℕ} {from count k : ℕ} → Clear ws from count k 0
clear_none = record { within = omega arith; clear = λ j h l. absurd (omega arith) }

module _ {ws : List ℕ} {from count k i : ℕ} (C : Clear ws from count k i) {x a : ℕ} (word : x ≡ get_or ws (from + i) 0) (start : a ≡ k - 64 * i)
    (more : i < count) where
  pub clear_more : false ≡ some? (64 - a) (λ j. bit_of x (a + j)) → Clear ws from count k (i + 1)
  clear_more none = record { within = omega arith; clear = at }
    where
      here : (t : ℕ) → t < 64 → a ≤ t → bit_of x t ≡ false
      here t l h =
          let e : t ≡ a + (t - a) = omega arith in
          ap (bit_of x) e ∙ some_none (64 - a) (λ j. bit_of x (a + j)) (sym none) (t - a) (omega arith)

      at : (j : ℕ) → k ≤ j → j < 64 * (i + 1) → bit ws (64 * from + j) ≡ false
      at j h l = elim (dec_lt j (64 * i)) [
        | yes b ↦ C.clear j h b
        | no b ↦
            let e : j ≡ 64 * i + (j - 64 * i) = omega (arith, b) in
            let u : j - 64 * i < 64 = omega (arith, b) in
            ap (λ n. bit ws (64 * from + n)) e
            ∙ bit-later ws from i (j - 64 * i) u
            ∙ ap (λ y. bit_of y (j - 64 * i)) (sym word)
            ∙ here (j - 64 * i) u (omega (arith, b))
      ]

  pub clear_found : true ≡ some? (64 - a) (λ j. bit_of x (a + j)) → true ≡ some? (64 * count - k) (λ j. bit ws (64 * from + (k + j)))
  clear_found some =
      let w = yes_some (64 - a) (λ j. bit_of x (a + j)) (sym some) in
      let l : a + w.0 < 64 = omega (arith, w.1) in
      let e : k + (64 * i + (a + w.0) - k) ≡ 64 * i + (a + w.0) = omega arith in
      sym
      (some_yes (64 * count - k) (λ j. bit ws (64 * from + (k + j))) (64 * i + (a + w.0) - k) (omega arith)
      (ap (λ n. bit ws (64 * from + n)) e ∙ bit-later ws from i (a + w.0) l ∙ ap (λ y. bit_of y (a + w.0)) (sym word) ∙ w.2))

pub clear_all : {ws : List ℕ} {from count k i : ℕ} → Clear ws from count k i → count ≤ i → false ≡ some? (64 * count - k) (λ j. bit ws (64 * from + (k + j)))
clear_all {ws} {from} {count} {k} C l =
    sym (none_some (64 * count - k) (λ j. bit ws (64 * from + (k + j))) (λ j b. C.clear (k + j) (omega arith) (omega arith)))
