-- Numbers that are read by one range are read alike by another that has each of them. So a text of bounds is one of prices too, and old prices are prices.
use Rattle.std.specs.Prelude.{Option, None, Some, Ok}
use mathlib.Core.Path.{◌≡◌, refl, sym, ap, ◌∙◌, subst}
use mathlib.Core.Bool.{Bool, true, false, cond}
use mathlib.Core.List.{List, ◌∷◌, [], ◌++◌, append-nil}
use Prim.Native.Nat.{ℕ, ◌<◌}
use native.Mathlib.Omega.{arith}
use lib.IntN.{ℤ, pos}
use lib.ListN.{length, get_or, length-append}
use lib.Seq.{append_snoc, get_or_at}
use lib.Signed.{◌≤ℤ◌}
use Rattle.integers.proofs.Order.{order, between-true, le-between}
use Rattle.graph.specs.Limits.{greatest_bound, greatest_price, greatest_old_price}
use Rattle.graph.specs.Refusal.{Test, passing}
use Rattle.graph.proofs.Passing.{zero_one, passes, pass}
use Rattle.layout.specs.declared.Rules.{Rules}
use Rattle.layout.specs.declared.Rules.TheVariants.{New, Old}
use Rattle.layout.specs.declared.Numbers.{Numbers}
use Rattle.layout.specs.declared.Numbers.TheVariants.{Bounds, Prices}
use Rattle.layout.specs.Text.{lines, words, integer, one_word}
use Rattle.layout.specs.Lines.{State, start, sizing, reading, goes, stops, Layout, read_text}
use Rattle.layout.specs.NumberText.{greatest_price_by, in_range, outside, number_header, number_value, number_layout, number_reader_tests_by, read_numbers_by}
use Rattle.readback.proofs.Trace.{Reads, done, by_header, skipped, by_size, blank-line, by_line, reads_yield, yield_reads}

-- The layout of numbers that are written by some rules and whose range is by others; where both are the same, it is the layout of these.
abbrev pub ranged_layout : Rules → Rules → Numbers → ℕ → Layout (Unit {0}) (List ℤ) (List ℤ)
ranged_layout rules ranges what count = record {
  header_line = number_header;
  size_line = (number_layout rules what count).size_line;
  later_line = λ zs l. number_value ranges what zs (one_word (integer rules) (words l));
  more = (number_layout rules what count).more;
  result = λ zs. zs;
}

-- A line that is taken adds a number in range.
record PriceAdded (ranges : Rules) (what : Numbers) (zs : List ℤ) (o : Option ℤ) (d : List ℤ) : Type 0 where
  number : ℤ
  is : o ≡ Some number
  within : in_range ranges what number ≡ true
  last : d ≡ zs ++ (number ∷ [])

added : (ranges : Rules) (what : Numbers) (zs : List ℤ) (o : Option ℤ) (d : List ℤ) → number_value ranges what zs o ≡ goes d → PriceAdded ranges what zs o d
added ranges what zs None d h = zero_one (cc)
added ranges what zs (Some z) d h = go (in_range ranges what z) refl h
  where
    go : (b : Bool) → in_range ranges what z ≡ b → cond b (goes (zs ++ (z ∷ []))) (stops (outside what)) ≡ goes d → PriceAdded ranges what zs (Some z) d
    go true is h = record { number = z; is = refl; within = is; last = cc }
    go false is h = zero_one (cc)

-- Each of the numbers zs that is in one range is in another.
abbrev pub AlsoIn : Rules → Numbers → Rules → Numbers → List ℤ → Type 0
AlsoIn ranges what others sort zs =
    (k : ℕ) → k < length zs → in_range ranges what (get_or zs k (pos 0)) ≡ true → in_range others sort (get_or zs k (pos 0)) ≡ true

module _ (rules ranges others : Rules) (what sort : Numbers) (count : ℕ) where
  -- What has been read at the end begins with what had been read before.
  abbrev Begun : State (Unit {0}) (List ℤ) → List ℤ → Type 0
  Begun start zs = Unit {0}
  Begun (sizing h) zs = Unit {0}
  Begun (reading c) zs = (ts : List ℤ) × (zs ≡ c ++ ts)

  begun : {s : State (Unit {0}) (List ℤ)} {ls : List (List ℕ)} {zs : List ℤ} → Reads (ranged_layout rules ranges what count) s ls zs → Begun s zs
  begun (done {b = c} last) = ([], sym (append-nil c))
  begun (by_header fits is rest) = tt
  begun (skipped fits over rest) = tt
  begun (by_size fits full is rest) = tt
  begun (blank-line fits empty rest) = begun rest
  begun (by_line {l = l} {c = c} {d = d} fits full more is rest) =
      let a = added ranges what c (one_word (integer rules) (words l)) d is in
      let r = begun rest in
      (a.number ∷ r.0, r.1 ∙ ap (λ (xs : List ℤ). xs ++ r.0) a.last ∙ append_snoc c a.number r.0)

  -- The number that a line adds to c is the one of zs at the place after c.
  next-within : (c ts : List ℤ) {zs : List ℤ} (z : ℤ) → zs ≡ (c ++ (z ∷ [])) ++ ts → AlsoIn ranges what others sort zs → in_range ranges what z ≡ true →
      in_range others sort z ≡ true
  next-within c ts {zs} z e w h =
      let f : zs ≡ c ++ (z ∷ ts) = e ∙ append_snoc c z ts in
      let at : get_or zs (length c) (pos 0) ≡ z = ap (λ (xs : List ℤ). get_or xs (length c) (pos 0)) f ∙ get_or_at c z ts (pos 0) (length c) refl in
      let l : length c < length zs = omega (arith, ap length f, length-append c (z ∷ ts)) in
      ap (in_range others sort) (sym at) ∙ w (length c) l (ap (in_range ranges what) at ∙ h)

  reads_alike : {s : State (Unit {0}) (List ℤ)} {ls : List (List ℕ)} {zs : List ℤ} → AlsoIn ranges what others sort zs →
      Reads (ranged_layout rules ranges what count) s ls zs → Reads (ranged_layout rules others sort count) s ls zs
  reads_alike w (done last) = done last
  reads_alike w (by_header fits is rest) = by_header fits is (reads_alike w rest)
  reads_alike w (skipped fits over rest) = skipped fits over (reads_alike w rest)
  reads_alike w (by_size fits full is rest) = by_size fits full is (reads_alike w rest)
  reads_alike w (blank-line fits empty rest) = blank-line fits empty (reads_alike w rest)
  reads_alike w (by_line {l = l} {c = c} {d = d} fits full more is rest) =
      let a = added ranges what c (one_word (integer rules) (words l)) d is in
      let r = begun rest in
      let h = next-within c r.0 a.number (r.1 ∙ ap (λ (xs : List ℤ). xs ++ r.0) a.last) w a.within in
      by_line fits full more (taken c (one_word (integer rules) (words l)) a.number a.is h ∙ ap goes (sym a.last)) (reads_alike w rest)
    where
      taken : (c : List ℤ) (o : Option ℤ) (z : ℤ) → o ≡ Some z → in_range others sort z ≡ true → number_value others sort c o ≡ goes (c ++ (z ∷ []))
      taken c o z e h = rw (e, h)

  -- What tests and lines yield by one range, they yield by the other.
  pub numbers_alike : (ts : List Test) (text : List ℕ) (zs : List ℤ) → AlsoIn ranges what others sort zs →
      passing ts (read_text (ranged_layout rules ranges what count) text) ≡ Ok zs → passing ts (read_text (ranged_layout rules others sort count) text) ≡ Ok zs
  numbers_alike ts text zs w e =
      let p = passes ts (read_text (ranged_layout rules ranges what count) text) zs e in
      let r = yield_reads (ranged_layout rules ranges what count) 1 start (lines text) zs p.1 in
      pass ts p.0 (read_text (ranged_layout rules others sort count) text)
      ∙ reads_yield (ranged_layout rules others sort count) (reads_alike (subst (AlsoIn ranges what others sort) (sym r.result) w) r.reads) 1
      ∙ ap Ok r.result

-- A bound is a price, and an old price one of today.
bound_is_price : (rules : Rules) (z : ℤ) → in_range rules Bounds z ≡ true → in_range rules Prices z ≡ true
bound_is_price rules z h =
    let w = between-true (pos 0) (pos greatest_bound) z h in
    le-between w.0 (greatest rules w.1)
  where
    greatest : (rules : Rules) → z ≤ℤ pos greatest_bound → z ≤ℤ pos (greatest_price_by rules)
    greatest New l = omega order
    greatest Old l = omega order

pub old_is_new : (what : Numbers) (z : ℤ) → in_range Old what z ≡ true → in_range New what z ≡ true
old_is_new Bounds z h = h
old_is_new Prices z h =
    let w = between-true (pos 0) (pos greatest_old_price) z h in
    let l : z ≤ℤ pos greatest_price = omega order in
    le-between w.0 l

-- A text that is taken as bounds is taken as prices, with the same numbers.
pub bounds_are_prices : (rules : Rules) (count n : ℕ) (text : List ℕ) (zs : List ℤ) → read_numbers_by rules Bounds count n text ≡ Ok zs
    → read_numbers_by rules Prices count n text ≡ Ok zs
unfolding read_numbers_by
bounds_are_prices rules count n text zs h =
    numbers_alike rules rules rules Bounds Prices count (number_reader_tests_by rules count n text) text zs (λ k l i. bound_is_price rules (get_or zs k (pos 0)) i) h
