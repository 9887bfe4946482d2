-- The count that a text of numbers tells: the line that is found for its size line says it.
use Rattle.std.specs.Prelude.{Option, None, Some, Result, Ok, Err}
use Prim.Native.Nat.{ℕ, ◌+◌}
use mathlib.Core.Path.{◌≡◌, refl, ap, ◌∙◌}
use mathlib.Core.Bool.{Bool, true, false, cond, ◌&&◌, ◌||◌}
use mathlib.Core.List.{List, []}
use lib.Dec.{eqb}
use lib.IntN.{ℤ}
use lib.ListN.{drop}
use borrow.Author.Tests.{eqb-true}
use Rattle.graph.specs.declared.Fault.TheVariants.{Header, SizeLine, Sizes}
use Rattle.graph.specs.declared.Refusal.{Refusal}
use Rattle.graph.proofs.Passing.{zero_one}
use Rattle.graph.proofs.Ranges.{both}
use Rattle.layout.specs.declared.Rules.TheVariants.{Old}
use Rattle.layout.specs.declared.Numbers.{Numbers}
use Rattle.layout.specs.Text.{lines, words, natural, two_words, blank_line, comment_line}
use Rattle.layout.specs.Lines.{goes, stops, start, sizing, Layout, read_text}
use Rattle.layout.specs.NumberText.{number_sizes, number_layout}
use Rattle.readback.proofs.Trace.{Reads, by_header, skipped, by_size, Read, yield_reads}
use Rattle.std.specs.Result.{result_ok}
use Rattle.text.specs.declared.Line.{Line}
use Rattle.lines.specs.Found.{at, next_data, part}
use Rattle.lines.specs.Walk.{line, opens, header_met, size_met, opened_says, OpenedAs, origin}

-- ---- the lines that are found

abbrev skips_both : List ℕ → Bool
skips_both l = blank_line l || comment_line l

module _ {H B R : Type 0} (L : Layout H B R) where
  -- The first of lines that are read, and the others.
  record FirstLine (ls : List (List ℕ)) (b : B) : Type 0 where
    first : List ℕ
    tells : H
    others : List (List ℕ)
    found : next_data (λ x. false) 1 ls ≡ at 1 first others
    rest : Reads L (sizing tells) others b

  first_line : {ls : List (List ℕ)} {b : B} → Reads L start ls b → FirstLine ls b
  unfolding next_data
  first_line (by_header {l} {ls} {h} fits is r) = record { first = l; tells = h; others = ls; found = rw fits; rest = r }

  -- The size line of those.
  record SizeLineOf (h : H) (ls : List (List ℕ)) : Type 0 where
    sizes : List ℕ
    later : List (List ℕ)
    begins : B
    goes_on : L.size_line h sizes ≡ goes begins
    number : ℕ → ℕ
    found : (k : ℕ) → next_data skips_both k ls ≡ at (number k) sizes later

  size-line : {ls : List (List ℕ)} {h : H} {b : B} → Reads L (sizing h) ls b → SizeLineOf h ls
  unfolding next_data
  size-line (skipped {l} {ls} fits over r) =
      let s = size-line r in
      record {
        sizes = s.sizes;
        later = s.later;
        begins = s.begins;
        goes_on = s.goes_on;
        number = λ k. s.number (k + 1);
        found = λ k. rw (fits, over) (s.found (k + 1));
      }
  size-line (by_size {l} {ls} {h} {c} fits full is r) =
      record { sizes = l; later = ls; begins = c; goes_on = is; number = λ k. k; found = λ k. rw (fits, full) }

-- A size line that is taken for the count k has k, and 1.
sizes_are : (k : ℕ) (o : Option (ℕ × ℕ)) (c : List ℤ) → number_sizes k o ≡ goes c → (n : ℕ) × (o ≡ Some (k, n))
sizes_are k None c e = zero_one (cc)
sizes_are k (Some s) c e = go (eqb s.0 k && eqb s.1 1) refl e
  where
    go : (b : Bool) → (eqb s.0 k && eqb s.1 1) ≡ b → cond b (goes []) (stops Sizes) ≡ goes c → (n : ℕ) × (Some s ≡ Some (k, n))
    go true is e = (s.1, ap (λ (j : ℕ). Some (j, s.1)) (eqb-true s.0 k (both (eqb s.0 k) (eqb s.1 1) is).0))
    go false is e = zero_one (cc)

-- ---- what the functions answer of a text that is taken for the count k

module _ (s : List ℕ) (what : Numbers) (k : ℕ) (zs : List ℤ) (e : read_text (number_layout Old what k) s ≡ Ok zs) where
  abbrev L : Layout (Unit {0}) (List ℤ) (List ℤ)
  L = number_layout Old what k

  read : Read L start (lines s) zs
  read = yield_reads L 1 start (lines s) zs e

  top : FirstLine L (lines s) read.last
  top = first_line L read.reads

  size : SizeLineOf L top.tells top.others
  size = size-line L top.rest

  -- The header line is found, and the lines after it are those that are left.
  module _ (r : Result Line Refusal) (E : OpenedAs s origin (header_met s) r) where
    header-met : opened_says s r ≡ line 1 top.first top.others
    header-met = E.says ∙ ap (opens Header) top.found

    pub header-there : None ≡ result_ok r → ⊥
    header-there = go r header-met
      where
        go : (r : Result Line Refusal) → opened_says s r ≡ line 1 top.first top.others → None ≡ result_ok r → ⊥
        go (Ok l) e q = zero_one (cc)
        go (Err x) e q = zero_one (cc)

    module _ {l : Line} (is : Some l ≡ result_ok r) where
      after_header : lines (drop l.next.at s) ≡ top.others
      after_header = go r header-met is
        where
          go : (r : Result Line Refusal) → opened_says s r ≡ line 1 top.first top.others → Some l ≡ result_ok r → lines (drop l.next.at s) ≡ top.others
          go (Ok j) e q = let p : l ≡ j = cc in rw p (cc)
          go (Err x) e q = zero_one (cc)

      -- So is the size line, which has the count.
      module _ (r₂ : Result Line Refusal) (E₂ : OpenedAs s l.next (size_met s l.next) r₂) where
        size-met : opened_says s r₂ ≡ line (size.number (l.next.line + 1)) size.sizes size.later
        size-met =
            E₂.says ∙ ap (λ (ls : List (List ℕ)). opens SizeLine (next_data skips_both (l.next.line + 1) ls)) after_header
            ∙ ap (opens SizeLine) (size.found (l.next.line + 1))

        pub size_there : None ≡ result_ok r₂ → ⊥
        size_there = go r₂ size-met
          where
            go : (r : Result Line Refusal) → opened_says s r ≡ line (size.number (l.next.line + 1)) size.sizes size.later → None ≡ result_ok r → ⊥
            go (Ok j) e q = zero_one (cc)
            go (Err x) e q = zero_one (cc)

        module _ {l₂ : Line} (is₂ : Some l₂ ≡ result_ok r₂) where
          line_is : part s l₂.start l₂.end ≡ size.sizes
          line_is = go r₂ size-met is₂
            where
              go : (r : Result Line Refusal) → opened_says s r ≡ line (size.number (l.next.line + 1)) size.sizes size.later → Some l₂ ≡ result_ok r →
                  part s l₂.start l₂.end ≡ size.sizes
              go (Ok j) e q = let p : l₂ ≡ j = cc in rw p (cc)
              go (Err x) e q = zero_one (cc)

          sizes : (n : ℕ) × (two_words (natural Old) (natural Old) (words size.sizes) ≡ Some (k, n))
          sizes = sizes_are k (two_words (natural Old) (natural Old) (words size.sizes)) size.begins size.goes_on

          pub told : {p : Option (ℕ × ℕ)} → p ≡ two_words (natural Old) (natural Old) (words (part s l₂.start l₂.end)) → (n : ℕ) × (p ≡ Some (k, n))
          told says = (sizes.0, says ∙ ap (λ (l : List ℕ). two_words (natural Old) (natural Old) (words l)) line_is ∙ sizes.1)
