-- What the old rules yield of a text, the new ones yield of the text anew; and a text that the new ones take is left as it is. Once, for any two
-- layouts that differ in how a number is read, and then for each sort of text.
use Rattle.std.specs.Prelude.{Option, None, Some, Ok}
use mathlib.Core.Path.{◌≡◌, refl, sym, ap, ap₂, ◌∙◌}
use mathlib.Core.Bool.{Bool, true, false, ◌||◌, or-true}
use mathlib.Core.List.{List, [], ◌∷◌, map}
use Prim.Native.Nat.{ℕ}
use native.Mathlib.Omega.{arith}
use lib.IntN.{ℤ}
use lib.ListN.{length}
use borrow.Author.Tests.{le-leb, leb-true}
use Rattle.graph.proofs.Passing.{zero_one}
use Rattle.layout.specs.declared.Rules.TheVariants.{New, Old}
use Rattle.layout.specs.Text.{lines, words, natural, integer, pair_of_options, all3, one_word, two_words, three_words, no_words, line_fits, blank_line, comment_line}
use Rattle.layout.specs.Lines.{goes, State, start, sizing, reading, Layout, read_lines, read_text}
use Rattle.layout.specs.Rewrite.{written_as, word_anew, line_anew, lines_anew, text_anew}
use Rattle.layout.proofs.Digits.{absent}
use Rattle.readback.proofs.Trace.{Reads, done, by_header, skipped, by_size, blank-line, by_line, reads_yield, yield_reads}
use Rattle.rewriting.proofs.Written.{old_way, old_read, natural-read, natural-written, integer-written}
use Rattle.rewriting.proofs.Anew.{line_blank, line_length, line_kept, line_comment, lines-before, lines-from, text-lines, text_same}

-- ---- a word

-- What f reads of a word, g reads of the word anew; and a word that g reads f reads too, and it is left as it is.
pub record WordAlike {A : Type 0} (f g : List ℕ → Option A) : Type 0 where
  pub anew : (w : List ℕ) (a : A) → f w ≡ Some a → g (word_anew w) ≡ Some a
  pub same : (w : List ℕ) (a : A) → g w ≡ Some a → (f w ≡ Some a) × (word_anew w ≡ w)

pub kept_naturals : WordAlike (natural Old) (natural New)
kept_naturals = record {
  anew = λ w n e. let p = natural-read w n e in ap (λ (o : Option ℤ). natural New (written_as w o)) p.0 ∙ p.1;
  same = λ w n e.
      let p = natural-written w n e in
      let q = natural-read w n p.0 in
      (p.0, ap (written_as w) q.0 ∙ sym p.1);
}

pub kept_integers : WordAlike (integer Old) (integer New)
kept_integers = record {
  anew = λ w z e. ap (λ (o : Option ℤ). integer New (written_as w o)) e ∙ old_read (old_way w z e);
  same = λ w z e. let p = integer-written w z e in (p.0, ap (written_as w) p.0 ∙ sym p.1);
}

-- ---- the words of a line

both_some : {A B : Type 0} (o : Option A) (p : Option B) (c : A × B) → pair_of_options o p ≡ Some c → (o ≡ Some c.0) × (p ≡ Some c.1)
both_some None p c e = absent e
both_some (Some a) None c e = absent e
both_some {A} {B} (Some a) (Some b) c e =
    let q : ◌≡◌ {A = A × B} (a, b) c = cc in
    (ap (λ (x : A × B). Some x.0) q, ap (λ (x : A × B). Some x.1) q)

all3-some : {A B C : Type 0} (o : Option A) (p : Option B) (q : Option C) (d : A × B × C) → all3 o p q ≡ Some d →
    (o ≡ Some d.0) × (p ≡ Some d.1) × (q ≡ Some d.2)
all3-some None p q d e = absent e
all3-some (Some a) None q d e = absent e
all3-some (Some a) (Some b) None d e = absent e
all3-some {A} {B} {C} (Some a) (Some b) (Some c) d e =
    let q : ◌≡◌ {A = A × B × C} (a, b, c) d = cc in
    (ap (λ (x : A × B × C). Some x.0) q, ap (λ (x : A × B × C). Some x.1) q, ap (λ (x : A × B × C). Some x.2) q)

-- The same of the words of a line.
pub record WordsAlike {A : Type 0} (f g : List (List ℕ) → Option A) : Type 0 where
  pub anew : (ws : List (List ℕ)) (a : A) → f ws ≡ Some a → g (map word_anew ws) ≡ Some a
  pub same : (ws : List (List ℕ)) (a : A) → g ws ≡ Some a → (f ws ≡ Some a) × (map word_anew ws ≡ ws)

module _ {A : Type 0} {f f' : List ℕ → Option A} (F : WordAlike f f') where
  one-anew : (ws : List (List ℕ)) (a : A) → one_word f ws ≡ Some a → one_word f' (map word_anew ws) ≡ Some a
  unfolding one_word
  one-anew [] a e = absent e
  one-anew (u ∷ []) a e = F.anew u a e
  one-anew (u ∷ v ∷ ws) a e = absent e

  one_same : (ws : List (List ℕ)) (a : A) → one_word f' ws ≡ Some a → (one_word f ws ≡ Some a) × (map word_anew ws ≡ ws)
  unfolding one_word
  one_same [] a e = absent e
  one_same (u ∷ []) a e = let p = F.same u a e in (p.0, ap (λ (w : List ℕ). w ∷ []) p.1)
  one_same (u ∷ v ∷ ws) a e = absent e

  pub one-word : WordsAlike (one_word f) (one_word f')
  one-word = record { anew = one-anew; same = one_same }

module _ {A B : Type 0} {f f' : List ℕ → Option A} {g g' : List ℕ → Option B} (F : WordAlike f f') (G : WordAlike g g') where
  two_anew : (ws : List (List ℕ)) (c : A × B) → two_words f g ws ≡ Some c → two_words f' g' (map word_anew ws) ≡ Some c
  unfolding two_words
  two_anew [] c e = absent e
  two_anew (u ∷ []) c e = absent e
  two_anew (u ∷ v ∷ []) c e = let p = both_some (f u) (g v) c e in ap₂ pair_of_options (F.anew u c.0 p.0) (G.anew v c.1 p.1)
  two_anew (u ∷ v ∷ w ∷ ws) c e = absent e

  two_same : (ws : List (List ℕ)) (c : A × B) → two_words f' g' ws ≡ Some c → (two_words f g ws ≡ Some c) × (map word_anew ws ≡ ws)
  unfolding two_words
  two_same [] c e = absent e
  two_same (u ∷ []) c e = absent e
  two_same (u ∷ v ∷ []) c e =
      let p = both_some (f' u) (g' v) c e in
      let q = F.same u c.0 p.0 in
      let r = G.same v c.1 p.1 in
      (ap₂ pair_of_options q.0 r.0, ap₂ (λ (x y : List ℕ). x ∷ y ∷ []) q.1 r.1)
  two_same (u ∷ v ∷ w ∷ ws) c e = absent e

  pub two-words : WordsAlike (two_words f g) (two_words f' g')
  two-words = record { anew = two_anew; same = two_same }

module _ {A B C : Type 0} {f f' : List ℕ → Option A} {g g' : List ℕ → Option B} {h h' : List ℕ → Option C} (F : WordAlike f f') (G : WordAlike g g') (I : WordAlike h h') where
  three_anew : (ws : List (List ℕ)) (d : A × B × C) → three_words f g h ws ≡ Some d → three_words f' g' h' (map word_anew ws) ≡ Some d
  unfolding three_words
  three_anew [] d e = absent e
  three_anew (u ∷ []) d e = absent e
  three_anew (u ∷ v ∷ []) d e = absent e
  three_anew (u ∷ v ∷ w ∷ []) d e =
      let p = all3-some (f u) (g v) (h w) d e in
      rw (F.anew u d.0 p.0, G.anew v d.1 p.1, I.anew w d.2 p.2)
  three_anew (u ∷ v ∷ w ∷ x ∷ ws) d e = absent e

  three_same : (ws : List (List ℕ)) (d : A × B × C) → three_words f' g' h' ws ≡ Some d → (three_words f g h ws ≡ Some d) × (map word_anew ws ≡ ws)
  unfolding three_words
  three_same [] d e = absent e
  three_same (u ∷ []) d e = absent e
  three_same (u ∷ v ∷ []) d e = absent e
  three_same (u ∷ v ∷ w ∷ []) d e =
      let p = all3-some (f' u) (g' v) (h' w) d e in
      let q = F.same u d.0 p.0 in
      let r = G.same v d.1 p.1 in
      let s = I.same w d.2 p.2 in
      (rw (q.0, r.0, s.0), ap₂ (λ (x : List ℕ) (y : List (List ℕ)). x ∷ y) q.1 (ap₂ (λ (x y : List ℕ). x ∷ y ∷ []) r.1 s.1))
  three_same (u ∷ v ∷ w ∷ x ∷ ws) d e = absent e

  pub three-words : WordsAlike (three_words f g h) (three_words f' g' h')
  three-words = record { anew = three_anew; same = three_same }

-- ---- the lines of a text

-- The layout M reads of a line anew what L reads of the line; and lines that M reads L reads too, and they are left as they are.
pub record Follows {H B R : Type 0} (L M : Layout H B R) : Type 0 where
  pub header : (l : List ℕ) → M.header_line l ≡ L.header_line l
  pub headed : (l : List ℕ) (h : H) → L.header_line l ≡ goes h → comment_line l ≡ true
  pub size : (h : H) (l : List ℕ) (b : B) → L.size_line h l ≡ goes b → M.size_line h (line_anew l) ≡ goes b
  pub later : (b : B) (l : List ℕ) (c : B) → L.later_line b l ≡ goes c → M.later_line b (line_anew l) ≡ goes c
  pub size_line_same : (h : H) (l : List ℕ) (b : B) → M.size_line h l ≡ goes b → (L.size_line h l ≡ goes b) × (line_anew l ≡ l)
  pub later_same : (b : B) (l : List ℕ) (c : B) → M.later_line b l ≡ goes c → (L.later_line b l ≡ goes c) × (line_anew l ≡ l)
  pub more : (b : B) → M.more b ≡ L.more b
  pub result : (b : B) → M.result b ≡ L.result b

-- Which lines are anew in a state: all from the size line on.
abbrev lines_in : {H B : Type 0} → State H B → List (List ℕ) → List (List ℕ)
lines_in start ls = lines_anew ls
lines_in (sizing h) ls = lines_anew ls
lines_in (reading b) ls = map line_anew ls

line-fits : (l : List ℕ) → line_fits l ≡ true → line_fits (line_anew l) ≡ true
line-fits l h = le-leb (length (line_anew l)) 1024 (omega (arith, line_length l, leb-true (length l) 1024 h))

comment_skips : (l : List ℕ) → comment_line l ≡ true → (blank_line l || comment_line l) ≡ true
comment_skips l h = ap (λ (b : Bool). blank_line l || b) h ∙ or-true (blank_line l)

-- A size line stays one.
counts_still : (l : List ℕ) → (blank_line l || comment_line l) ≡ false → (blank_line (line_anew l) || comment_line (line_anew l)) ≡ false
counts_still l h = go (blank_line l) refl (comment_line l) refl h
  where
    go : (a : Bool) → blank_line l ≡ a → (b : Bool) → comment_line l ≡ b → (a || b) ≡ false → (blank_line (line_anew l) || comment_line (line_anew l)) ≡ false
    go true is b is' h = zero_one (cc)
    go false is true is' h = zero_one (cc)
    go false is false is' h = ap₂ ◌||◌ (line_blank l ∙ is) (line_comment l is')

-- A blank line has no word to write anew.
blank-kept : (l : List ℕ) → blank_line l ≡ true → line_anew l ≡ l
blank-kept l h = line_kept l (go (words l) h)
  where
    go : (ws : List (List ℕ)) → no_words ws ≡ true → map word_anew ws ≡ ws
    go [] h = refl
    go (w ∷ ws) h = zero_one (cc)

module _ {H B R : Type 0} {L M : Layout H B R} (F : Follows L M) where
  reads_anew : {s : State H B} {ls : List (List ℕ)} {b : B} → Reads L s ls b → Reads M s (lines_in s ls) b
  reads_anew (done {b} h) = done (F.more b ∙ h)
  reads_anew (by_header {l} {ls} {h} fits is rest) =
      rw (lines-before l ls (comment_skips l (F.headed l h is))) (by_header fits (F.header l ∙ is) (reads_anew rest))
  reads_anew (skipped {l} {ls} fits over rest) = rw (lines-before l ls over) (skipped fits over (reads_anew rest))
  reads_anew (by_size {l} {ls} {h} {c} fits full is rest) =
      rw (lines-from l ls full) (by_size (line-fits l fits) (counts_still l full) (F.size h l c is) (reads_anew rest))
  reads_anew (blank-line {l} fits empty rest) = blank-line (line-fits l fits) (line_blank l ∙ empty) (reads_anew rest)
  reads_anew (by_line {l} {ls} {c} {d} fits full more is rest) =
      by_line (line-fits l fits) (line_blank l ∙ full) (F.more c ∙ more) (F.later c l d is) (reads_anew rest)

  pub read_anew : (text : List ℕ) (r : R) → read_text L text ≡ Ok r → read_text M (text_anew text) ≡ Ok r
  read_anew text r e =
      let t = yield_reads L 1 start (lines text) r e in
      ap (λ (ls : List (List ℕ)). read_lines M 1 start ls) (text-lines text) ∙ reads_yield M (reads_anew t.reads) 1
      ∙ ap Ok (F.result t.last ∙ t.result)

  -- Lines that M reads.
  reads_same : {s : State H B} {ls : List (List ℕ)} {b : B} → Reads M s ls b → Reads L s ls b × (lines_in s ls ≡ ls)
  reads_same (done {b} h) = (done (sym (F.more b) ∙ h), refl)
  reads_same (by_header {l} {ls} {h} fits is rest) =
      let r = reads_same rest in
      let g : L.header_line l ≡ goes h = sym (F.header l) ∙ is in
      (by_header fits g r.0, lines-before l ls (comment_skips l (F.headed l h g)) ∙ ap (λ (k : List (List ℕ)). l ∷ k) r.1)
  reads_same (skipped {l} {ls} fits over rest) =
      let r = reads_same rest in
      (skipped fits over r.0, lines-before l ls over ∙ ap (λ (k : List (List ℕ)). l ∷ k) r.1)
  reads_same (by_size {l} {ls} {h} {c} fits full is rest) =
      let r = reads_same rest in
      let s = F.size_line_same h l c is in
      (by_size fits full s.0 r.0, lines-from l ls full ∙ ap₂ (λ (k : List ℕ) (ks : List (List ℕ)). k ∷ ks) s.1 r.1)
  reads_same (blank-line {l} fits empty rest) =
      let r = reads_same rest in
      (blank-line fits empty r.0, ap₂ (λ (k : List ℕ) (ks : List (List ℕ)). k ∷ ks) (blank-kept l empty) r.1)
  reads_same (by_line {l} {ls} {c} {d} fits full more is rest) =
      let r = reads_same rest in
      let s = F.later_same c l d is in
      (by_line fits full (sym (F.more c) ∙ more) s.0 r.0, ap₂ (λ (k : List ℕ) (ks : List (List ℕ)). k ∷ ks) s.1 r.1)

  pub read_same : (text : List ℕ) (r : R) → read_text M text ≡ Ok r → (read_text L text ≡ Ok r) × (text_anew text ≡ text)
  read_same text r e =
      let t = yield_reads M 1 start (lines text) r e in
      let w = reads_same t.reads in
      (reads_yield L w.0 1 ∙ ap Ok (sym (F.result t.last) ∙ t.result), text_same text w.1)
