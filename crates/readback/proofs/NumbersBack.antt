-- What bounds (limits) or prices are written as, the number reader reads back: the same numbers, in the same order.
use Rattle.std.specs.Prelude.{Some, Ok}
use mathlib.Core.Path.{◌≡◌, refl, ap, ◌∙◌, subst}
use mathlib.Core.Bool.{Bool, true, false, cond}
use mathlib.Core.List.{List, [], ◌∷◌, ◌++◌, map, append-nil}
use Prim.Native.Nat.{ℕ, suc, ◌+◌, ◌*◌, ◌^◌, ◌≤◌, ◌<◌}
use native.Mathlib.Nat.{suc-mul}
use native.Mathlib.Omega.{arith}
use lib.Dec.{eqb, lit≤, lit<}
use lib.IntN.{ℤ, pos, negsuc}
use lib.ListN.{length, get_or, length-append}
use lib.Seq.{append_snoc}
use lib.Signed.{◌≤ℤ◌}
use borrow.Author.Tests.{eq-eqb, le-leb, lt-ltb, le-ltb}
use Rattle.integers.specs.Integer.{between}
use Rattle.integers.proofs.Order.{order, between-true}
use Rattle.graph.specs.declared.Fault.TheVariants.{Sizes}
use Rattle.graph.specs.Limits.{most_numbers, greatest_bound, greatest_price}
use Rattle.graph.proofs.Passing.{pass}
use Rattle.graph.proofs.Ranges.{◌also◌}
use Rattle.layout.specs.declared.Rules.TheVariants.{New}
use Rattle.layout.specs.declared.Numbers.{Numbers}
use Rattle.layout.specs.declared.Numbers.TheVariants.{Bounds, Prices}
use Rattle.layout.specs.Text.{bytes, newline, on_first, pieces, non_empty, words, same, same_folded, header_words, header, natural, integer, one_word, two_words}
use Rattle.layout.specs.Text.{comment_line, no_words, decimal, signed, spaced, lines, unlines}
use Rattle.layout.specs.Lines.{Layout, goes, stops, start, sizing, reading, on_line, read_lines, read_text}
use Rattle.layout.specs.NumberText.{in_range, number_header, number_sizes, number_value, number_layout, number_reader_tests, read_numbers_by, read_numbers, number_text}
use Rattle.readback.proofs.Digits.{decimal-few, signed-some, plain_back}
use Rattle.readback.proofs.Pieces.{Free, AllFree, lines-unlines, length-line, length-no_line, words-spaced, free_spaced, comment_free, free_yes}
use Rattle.readback.proofs.Pieces.{decimal-no_newline, decimal-no_percent, signed-no_newline, signed-no_blank}
use Rattle.readback.proofs.Reaches.{on_start, on_sizing, on_reading, Reaches, reaches_none, reaches_append, reaches_one, reaches_text}
use Rattle.readback.proofs.Fits.{length_two}
use Rattle.readback.proofs.ReadBack.{two-words, two_back}

-- ---- a number

-- A number that is written with at most 7 bytes, and reads as itself.
record Short (z : ℤ) : Type 0 where
  few : length (signed z) ≤ 7
  back : integer New (signed z) ≡ Some z

short : (m : ℕ) (z : ℤ) → m < 10 ^ 7 → between (pos 0) (pos m) z ≡ true → Short z
short m z h e = let w = between-true (pos 0) (pos m) z e in go z w.0 w.1
  where
    go : (y : ℤ) → pos 0 ≤ℤ y → y ≤ℤ pos m → Short y
    go (pos n) p q = record { few = decimal-few 6 n (omega order); back = plain_back n (omega order) }
    go (negsuc n) p q = absurd (omega order)

-- A number in range is one.
range_short : (what : Numbers) (z : ℤ) → in_range New what z ≡ true → Short z
range_short Bounds z e = short greatest_bound z (lit< tt) e
range_short Prices z e = short greatest_price z (lit< tt) e

one_number : (z : ℤ) → words (signed z) ≡ signed z ∷ []
unfolding spaced
one_number z = words-spaced (signed z ∷ []) (signed-some z, signed-no_blank z, tt)

-- ---- the header line and the size line

abbrev pub array_header : List ℕ
array_header = bytes "%%MatrixMarket matrix array integer general"

abbrev pub count_line : ℕ → List ℕ
count_line n = spaced (decimal n ∷ decimal 1 ∷ [])

head_read : number_header array_header ≡ goes tt
unfolding header header_words same_folded same words non_empty pieces on_first
head_read = refl

count_plain : (n : ℕ) → comment_line (count_line n) ≡ false
count_plain n =
    comment_free (count_line n)
    (free_spaced (λ b. eqb b 37) (decimal n ∷ decimal 1 ∷ []) refl (decimal-no_percent n, (decimal-no_percent 1, tt)))

count_free : (n : ℕ) → Free newline (count_line n)
count_free n = free_spaced newline (decimal n ∷ decimal 1 ∷ []) refl (decimal-no_newline n, (decimal-no_newline 1, tt))

count_line_le : (n : ℕ) → n ≤ most_numbers → length (count_line n) ≤ 6
count_line_le n h = omega (arith, length_two (decimal n) (decimal 1), decimal-few 3 n (omega arith), decimal-few 0 1 (lit< tt))

-- ---- the lines of the numbers

values-free : (zs : List ℤ) → AllFree newline (map signed zs)
values-free [] = tt
values-free (z ∷ zs) = (signed-no_newline z, values-free zs)

-- How the number reader reads a text of so many numbers.
abbrev new_layout : Numbers → ℕ → Layout (Unit {0}) (List ℤ) (List ℤ)
new_layout what count = number_layout New what count

module _ (what : Numbers) where
  -- Each number of a list is in range.
  abbrev AllInRange : List ℤ → Type 0
  AllInRange zs = (k : ℕ) → k < length zs → in_range New what (get_or zs k (pos 0)) ≡ true

  later_range : (z : ℤ) (zs : List ℤ) → AllInRange (z ∷ zs) → AllInRange zs
  later_range z zs h k l = h (suc k) (omega arith)

  values-le : (zs : List ℤ) → AllInRange zs → length (unlines (map signed zs)) ≤ length zs * 8
  values-le [] h = omega (arith, length-no_line)
  values-le (z ∷ zs) h =
      omega (
        arith,
        length-line (signed z) (map signed zs),
        (range_short what z (h 0 (omega arith))).few,
        values-le zs (later_range z zs h),
        suc-mul (length zs) 8,
      )

  module _ (count : ℕ) where
    -- The line of z, after those of the numbers `before`.
    module _ (before : List ℤ) (z : ℤ) (few : length before < count) (is : in_range New what z ≡ true) where
      value_read : number_value New what before (one_word (integer New) (words (signed z))) ≡ goes (before ++ (z ∷ []))
      unfolding one_word
      value_read = rw (one_number z, (range_short what z is).back, is)

      value-step : on_line (new_layout what count) (reading before) (signed z) ≡ goes (reading (before ++ (z ∷ [])))
      value-step =
          on_reading (new_layout what count) before (signed z) (before ++ (z ∷ []))
          (le-leb (length (signed z)) 1024 (omega (arith, (range_short what z is).few)))
          (ap no_words (one_number z))
          (lt-ltb (length before) count few)
          value_read

    values-read : (before zs : List ℤ) → length before + length zs ≤ count → AllInRange zs
        → Reaches (read_lines (new_layout what count)) (reading before) (map signed zs) (reading (before ++ zs))
    values-read before [] few h = rw (append-nil before) (reaches_none (read_lines (new_layout what count)) (reading before))
    values-read before (z ∷ zs) few h =
        let with = before ++ (z ∷ []) in
        let rest : Reaches (read_lines (new_layout what count)) (reading with) (map signed zs) (reading (with ++ zs)) =
        values-read with zs (omega (arith, length-append before (z ∷ []))) (later_range z zs h) in
        reaches_append (read_lines (new_layout what count)) (reading before) (reading with) (reading (before ++ (z ∷ zs))) (signed z ∷ []) (map signed zs)
        (reaches_one (new_layout what count) (reading before) (reading with) (signed z) (value-step before z (omega arith) (h 0 (omega arith))))
        (subst (λ (ys : List ℤ). Reaches (read_lines (new_layout what count)) (reading with) (map signed zs) (reading ys)) (append_snoc before z zs) rest)

-- ---- the whole text

module _ (what : Numbers) (zs : List ℤ) (some-numbers : 1 ≤ length zs) (few : length zs ≤ most_numbers) (range : AllInRange what zs) where
  size_read : number_sizes (length zs) (two_words (natural New) (natural New) (words (count_line (length zs)))) ≡ goes []
  size_read =
      ap (number_sizes (length zs)) (two_back (length zs) 1 (omega arith) (lit< tt))
      ∙ ap (λ (t : Bool). cond t (goes []) (stops Sizes)) (eq-eqb (length zs) (length zs) refl also refl)

  size_step : on_line (new_layout what (length zs)) (sizing tt) (count_line (length zs)) ≡ goes (reading [])
  size_step =
      on_sizing (new_layout what (length zs)) tt (count_line (length zs)) []
      (le-leb (length (count_line (length zs))) 1024 (omega (arith, count_line_le (length zs) few)))
      (ap no_words (two-words (length zs) 1))
      (count_plain (length zs))
      size_read

  abbrev all_lines : List (List ℕ)
  all_lines = array_header ∷ count_line (length zs) ∷ map signed zs

  all_read : read_lines (new_layout what (length zs)) 1 start all_lines ≡ Ok zs
  all_read =
      reaches_text (new_layout what (length zs)) tt [] zs 1 array_header (count_line (length zs)) (map signed zs) (on_start (new_layout what (length zs)) array_header tt refl head_read) size_step
      (values-read what (length zs) [] zs (omega arith) range) (le-ltb (length zs) (length zs) (omega arith))

  lines-of_text : lines (number_text zs) ≡ all_lines
  unfolding number_text
  lines-of_text = lines-unlines all_lines (free_yes newline array_header refl, (count_free (length zs), values-free zs))

  -- The text has at most 9,267 bytes, and so a reader takes it.
  number_text-le : length (number_text zs) ≤ 9267
  unfolding number_text
  number_text-le =
      let h : length array_header ≤ 43 = lit≤ tt in
      omega (
        arith,
        length-line array_header (count_line (length zs) ∷ map signed zs),
        length-line (count_line (length zs)) (map signed zs),
        count_line_le (length zs) few,
        values-le what zs range,
      )

  -- The text of numbers in range reads as those numbers.
  pub numbers_back : read_numbers what (length zs) (length zs) (number_text zs) ≡ Ok zs
  unfolding read_numbers_by
  numbers_back =
      pass (number_reader_tests (length zs) (length zs) (number_text zs)) (
        λ k l. eq-eqb (length zs) (length zs) refl,
        (
          λ k l. le-leb 1 (length zs) some-numbers also le-leb (length zs) most_numbers few,
          (λ k l. le-leb (length (number_text zs)) 32768 (omega (arith, number_text-le)), tt),
        ),
      )
      (read_text (new_layout what (length zs)) (number_text zs))
      ∙ ap (read_lines (new_layout what (length zs)) 1 start) lines-of_text
      ∙ all_read
