-- Numbers that a text yields are as many as were asked for, and each is in range.
use Rattle.std.specs.Prelude.{Option, None, Some, Ok}
use Prim.Native.Nat.{ℕ, ◌≤◌, ◌<◌}
use mathlib.Core.Path.{◌≡◌, refl, ap, ◌∙◌, subst}
use mathlib.Core.Bool.{Bool, true, false, cond, ◌&&◌}
use mathlib.Core.List.{List, [], ◌∷◌, ◌++◌}
use native.Mathlib.Omega.{arith}
use lib.Dec.{ltb, eqb}
use borrow.Author.Tests.{ltb-true, ltb-false}
use lib.IntN.{ℤ, pos}
use lib.ListN.{length, get_or, get_or-append}
use lib.Seq.{get_or_at}
use Rattle.graph.specs.declared.Fault.TheVariants.{Sizes}
use Rattle.graph.proofs.Passing.{zero_one, up_to}
use Rattle.layout.specs.declared.Rules.{Rules}
use Rattle.layout.specs.declared.Numbers.{Numbers}
use Rattle.layout.specs.Text.{lines, words, natural, integer, one_word, two_words}
use Rattle.layout.specs.Lines.{goes, stops, start, sizing, reading}
use Rattle.layout.specs.NumberText.{in_range, outside, number_sizes, number_value, number_layout, read_numbers_by}
use Rattle.readback.proofs.Trace.{Reads, done, by_header, skipped, by_size, blank-line, by_line, yield_reads}
use Rattle.patterns.proofs.Edges.{length-snoc}
use Rattle.patterns.proofs.Taken.{numbers_read}

module _ (rules : Rules) (what : Numbers) (count : ℕ) where
  -- What holds of the numbers read so far.
  record HeldSoFar (zs : List ℤ) : Type 0 where
    few : length zs ≤ count
    within : (k : ℕ) → k < length zs → in_range rules what (get_or zs k (pos 0)) ≡ true

  no_number : HeldSoFar []
  no_number = record { few = omega arith; within = λ k l. absurd (omega arith) }

  one-number_more : (zs : List ℤ) (z : ℤ) → HeldSoFar zs → length zs < count → in_range rules what z ≡ true → HeldSoFar (zs ++ (z ∷ []))
  one-number_more zs z S more h = record {
    few = omega (arith, length-snoc zs z);
    within = λ k l.
        up_to {P = λ k. in_range rules what (get_or (zs ++ (z ∷ [])) k (pos 0)) ≡ true}
        (λ k l. ap (in_range rules what) (get_or-append zs (z ∷ []) (pos 0) k l) ∙ S.within k l)
        (ap (in_range rules what) (get_or_at zs z [] (pos 0) (length zs) refl) ∙ h) k (omega (arith, length-snoc zs z));
  }

  number_line : (zs : List ℤ) (o : Option ℤ) (d : List ℤ) → HeldSoFar zs → ltb (length zs) count ≡ true → number_value rules what zs o ≡ goes d → HeldSoFar d
  number_line zs None d S more h = zero_one (cc)
  number_line zs (Some z) d S more h = go (in_range rules what z) refl h
    where
      go : (b : Bool) → in_range rules what z ≡ b → cond b (goes (zs ++ (z ∷ []))) (stops (outside what)) ≡ goes d → HeldSoFar d
      go true is h =
          let e : zs ++ (z ∷ []) ≡ d = cc in
          subst HeldSoFar e (one-number_more zs z S (ltb-true (length zs) count more) is)
      go false is h = zero_one (cc)

  number_size : (o : Option (ℕ × ℕ)) (d : List ℤ) → number_sizes count o ≡ goes d → HeldSoFar d
  number_size None d h = zero_one (cc)
  number_size (Some s) d h = go (eqb s.0 count && eqb s.1 1) h
    where
      go : (b : Bool) → cond b (goes []) (stops Sizes) ≡ goes d → HeldSoFar d
      go true h = let e : ◌≡◌ {A = List ℤ} [] d = cc in subst HeldSoFar e no_number
      go false h = zero_one (cc)

  -- The numbers: as many as asked for, each in range.
  pub record NumbersHeld (zs : List ℤ) : Type 0 where
    pub long : length zs ≡ count
    pub range : (k : ℕ) → k < count → in_range rules what (get_or zs k (pos 0)) ≡ true

  later_held : {c : List ℤ} {ls : List (List ℕ)} {zs : List ℤ} → Reads (number_layout rules what count) (reading c) ls zs → HeldSoFar c → NumbersHeld zs
  later_held (done {b = zs} last) S =
      let long : length zs ≡ count = omega (arith, S.few, ltb-false (length zs) count last) in
      record { long = long; range = λ k l. S.within k (omega (arith, long)) }
  later_held (blank-line fits empty rest) S = later_held rest S
  later_held (by_line {l = l} {c = c} {d = d} fits full more is rest) S = later_held rest (number_line c (one_word (integer rules) (words l)) d S more is)

  sizes_held : {u : Unit {0}} {ls : List (List ℕ)} {zs : List ℤ} → Reads (number_layout rules what count) (sizing u) ls zs → NumbersHeld zs
  sizes_held (skipped fits over rest) = sizes_held rest
  sizes_held (by_size {l = l} {c = c} fits full is rest) = later_held rest (number_size (two_words (natural rules) (natural rules) (words l)) c is)

  text_held : {ls : List (List ℕ)} {zs : List ℤ} → Reads (number_layout rules what count) start ls zs → NumbersHeld zs
  text_held (by_header fits is rest) = sizes_held rest

  pub numbers_held : (n : ℕ) (text : List ℕ) (zs : List ℤ) → read_numbers_by rules what count n text ≡ Ok zs → NumbersHeld zs
  numbers_held n text zs e =
      let r = yield_reads (number_layout rules what count) 1 start (lines text) zs (numbers_read rules what count n text zs e).by_lines in
      subst NumbersHeld r.result (text_held r.reads)
