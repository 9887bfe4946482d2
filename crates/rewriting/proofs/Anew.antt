-- Words, lines and texts anew: what is kept of them, and that they come apart as they were put together.
use Rattle.std.specs.Prelude.{Option, None, Some}
use mathlib.Core.Path.{◌≡◌, refl, sym, ap, ap₂, ◌∙◌}
use mathlib.Core.Bool.{Bool, true, false, ◌||◌}
use mathlib.Core.List.{List, [], ◌∷◌, ◌++◌, append-nil, map}
use Prim.Native.Nat.{ℕ, suc, ◌+◌, ◌≤◌, ◌<◌}
use native.Mathlib.Omega.{arith}
use lib.Dec.{eqb}
use lib.IntN.{ℤ, pos, negsuc}
use lib.ListN.{length, length-append}
use borrow.Author.Tests.{ne_eqb}
use Rattle.graph.proofs.Passing.{zero_one}
use Rattle.layout.specs.declared.Rules.TheVariants.{Old}
use Rattle.layout.specs.Text.{bytes, newline, blank, pieces, non_empty, lines, words, integer, no_words, blank_line, comment_line, signed, unlines}
use Rattle.layout.specs.Rewrite.{ending, woven, written_as, word_anew, line_anew, lines_anew, text_anew, taken, rewrite_output}
use Rattle.readback.proofs.Digits.{signed-some}
use Rattle.readback.proofs.Pieces.{Free, AllFree, digits-free, pieces-cut, pieces_whole}
use Rattle.rewriting.proofs.Written.{old_way, old_long}
use Rattle.rewriting.proofs.Pieces.{Cutting, nothing, last, more, cutting, ending-none, ending-free, ending-cut, pieces_none, woven-none, woven-last, woven-more}
use Rattle.rewriting.proofs.Pieces.{InPlace, woven-apart, woven-pieces, pieces-free, free_pieces, free_woven, Shorter, woven-shorter}
use Rattle.rewriting.proofs.Pieces.{Keeps, map-in_place, pieces-map, ending-map, non_empty-map, map-shorter, map-length, text_kept}

-- ---- a word

-- A number as it is written has digits, and - before them.
signed-free : (p : ℕ → Bool) → ((d : ℕ) → d < 10 → p (48 + d) ≡ false) → p 45 ≡ false → (z : ℤ) → Free p (signed z)
signed-free p none_of minus (pos n) = digits-free p none_of 20 n
signed-free p none_of minus (negsuc n) = (minus, digits-free p none_of 20 (suc n))

-- What holds of a word and of every number as it is written holds of the word anew.
by_word : (P : List ℕ → Type 0) (w : List ℕ) → P w → ((z : ℤ) → integer Old w ≡ Some z → P (signed z)) → P (word_anew w)
by_word P w a b = go (integer Old w) refl
  where
    go : (o : Option ℤ) → integer Old w ≡ o → P (written_as w o)
    go None is = a
    go (Some z) is = b z is

pub word_free : (p : ℕ → Bool) → ((d : ℕ) → d < 10 → p (48 + d) ≡ false) → p 45 ≡ false → (w : List ℕ) → Free p w → Free p (word_anew w)
word_free p none_of minus w f = by_word (Free p) w f (λ z is. signed-free p none_of minus z)

digit-no_blank : (d : ℕ) → d < 10 → blank (48 + d) ≡ false
digit-no_blank d h = simp (ne_eqb (48 + d) 32 (omega arith), ne_eqb (48 + d) 9 (omega arith))

digit-no_newline : (d : ℕ) → d < 10 → newline (48 + d) ≡ false
digit-no_newline d h = ne_eqb (48 + d) 10 (omega arith)

digit-no_percent : (d : ℕ) → d < 10 → eqb (48 + d) 37 ≡ false
digit-no_percent d h = ne_eqb (48 + d) 37 (omega arith)

pub no_word : word_anew [] ≡ []
unfolding integer
no_word = refl

pub word_full : (x : ℕ) (w : List ℕ) → 1 ≤ length (word_anew (x ∷ w))
word_full x w = by_word (λ v. 1 ≤ length v) (x ∷ w) (omega arith) (λ z is. signed-some z)

pub word_keeps : Keeps blank word_anew
word_keeps = record {
  nothing_kept = no_word;
  free_kept = word_free blank digit-no_blank refl;
  something_kept = word_full;
  shorter = λ w. by_word (λ v. length v ≤ length w) w (omega arith) (λ z is. old_long (old_way w z is));
}

-- ---- a line

module _ (l : List ℕ) where
  pub line_words : words (line_anew l) ≡ map word_anew (words l)
  unfolding words line_anew
  line_words = ap non_empty (pieces-map word_keeps l) ∙ non_empty-map word_keeps (pieces blank l)

  pub line_blanks : ending blank (line_anew l) ≡ ending blank l
  unfolding line_anew
  line_blanks = ending-map word_keeps l

  pub line_blank : blank_line (line_anew l) ≡ blank_line l
  line_blank = ap no_words line_words ∙ go (words l)
    where
      go : (ws : List (List ℕ)) → no_words (map word_anew ws) ≡ no_words ws
      go [] = refl
      go (w ∷ ws) = refl

  pub line_length : length (line_anew l) ≤ length l
  unfolding line_anew
  line_length = map-length word_keeps l

  -- Words that are written as they should be leave the line as it is.
  pub line_kept : map word_anew (words l) ≡ words l → line_anew l ≡ l
  unfolding words line_anew
  line_kept e = text_kept word_keeps l e

  pub line_free : Free newline l → Free newline (line_anew l)
  unfolding line_anew
  line_free f = let w = free_pieces newline blank l f in free_woven newline (map word_anew (pieces blank l)) (ending blank l) (go (pieces blank l) w.0) w.1
    where
      go : (ws : List (List ℕ)) → AllFree newline ws → AllFree newline (map word_anew ws)
      go [] a = tt
      go (v ∷ ws) a = (word_free newline digit-no_newline refl v a.0, go ws a.1)

-- How a line anew begins, by how the line is cut.
pub line_none : line_anew [] ≡ []
unfolding line_anew
line_none = ap₂ (λ (ks : List (List ℕ)) (es : List ℕ). woven (map word_anew ks) es) (pieces_none blank) (ending-none blank) ∙ woven-none []

line_last : (w : List ℕ) → 1 ≤ length w → Free blank w → line_anew w ≡ word_anew w
unfolding line_anew
line_last [] h f = zero_one (omega arith)
line_last (x ∷ w) h f =
    ap₂ (λ (ks : List (List ℕ)) (es : List ℕ). woven (map word_anew ks) es) (pieces_whole blank x w f) (ending-free blank (x ∷ w) f) ∙ woven-last (word_anew (x ∷ w))

pub line_more : (w : List ℕ) (e : ℕ) (l : List ℕ) → Free blank w → blank e ≡ true → line_anew (w ++ (e ∷ l)) ≡ word_anew w ++ (e ∷ line_anew l)
unfolding line_anew
line_more w e l f h =
    ap₂ (λ (ks : List (List ℕ)) (es : List ℕ). woven (map word_anew ks) es) (pieces-cut blank w e l f h) (ending-cut blank w e l f h)
    ∙ woven-more (word_anew w) (map word_anew (pieces blank l)) e (ending blank l)

pub line_full : (l : List ℕ) → 1 ≤ length l → 1 ≤ length (line_anew l)
line_full l h = go (cutting blank l) h
  where
    go : {k : List ℕ} → Cutting blank k → 1 ≤ length k → 1 ≤ length (line_anew k)
    go nothing h = zero_one (omega arith)
    go (last x w f) h = rw (line_last (x ∷ w) h f) (word_full x w)
    go (more w e k f b c) h = rw (line_more w e k f b) (omega (arith, length-append (word_anew w) (e ∷ line_anew k)))

-- A line that is no comment does not become one.
pub line_comment : (l : List ℕ) → comment_line l ≡ false → comment_line (line_anew l) ≡ false
line_comment l h = go (cutting blank l) h
  where
    signed-first : (r : List ℕ) (v : List ℕ) → 1 ≤ length v → Free (λ b. eqb b 37) v → comment_line (v ++ r) ≡ false
    signed-first r [] h f = zero_one (omega arith)
    signed-first r (y ∷ v) h f = f.0

    first : (x : ℕ) (w r : List ℕ) → eqb x 37 ≡ false → comment_line (word_anew (x ∷ w) ++ r) ≡ false
    first x w r h =
        by_word (λ v. comment_line (v ++ r) ≡ false) (x ∷ w) h
        (λ z is. signed-first r (signed z) (signed-some z) (signed-free (λ b. eqb b 37) digit-no_percent refl z))

    go : {k : List ℕ} → Cutting blank k → comment_line k ≡ false → comment_line (line_anew k) ≡ false
    go nothing h = ap comment_line line_none
    go (last x w f) h =
        ap comment_line (line_last (x ∷ w) (omega arith) f ∙ sym (append-nil (word_anew (x ∷ w)))) ∙ first x w [] h
    go (more [] e k f b c) h = rw (line_more [] e k f b, no_word) h
    go (more (x ∷ w) e k f b c) h = rw (line_more (x ∷ w) e k f b) (first x w (e ∷ line_anew k) h)

-- ---- the lines of a text

pub lines_none : lines_anew [] ≡ []
unfolding lines_anew
lines_none = refl

-- A line before the size line, and one that is the size line.
pub lines-before : (l : List ℕ) (ls : List (List ℕ)) → (blank_line l || comment_line l) ≡ true → lines_anew (l ∷ ls) ≡ l ∷ lines_anew ls
unfolding lines_anew
lines-before l ls h = rw h

pub lines-from : (l : List ℕ) (ls : List (List ℕ)) → (blank_line l || comment_line l) ≡ false → lines_anew (l ∷ ls) ≡ map line_anew (l ∷ ls)
unfolding lines_anew
lines-from l ls h = rw h

-- A line anew stands for the line.
line_keeps : Keeps newline line_anew
line_keeps = record {
  nothing_kept = line_none;
  free_kept = line_free;
  something_kept = λ x l. line_full (x ∷ l) (omega arith);
  shorter = line_length;
}

lines-in_place : (ls : List (List ℕ)) → AllFree newline ls → InPlace newline ls (lines_anew ls)
lines-in_place [] a = rw lines_none tt
lines-in_place (l ∷ ls) a = go (blank_line l || comment_line l) refl (lines-in_place ls a.1)
  where
    go : (b : Bool) → (blank_line l || comment_line l) ≡ b → InPlace newline ls (lines_anew ls) → InPlace newline (l ∷ ls) (lines_anew (l ∷ ls))
    go true is ih = rw (lines-before l ls is) (a.0, (λ h. h), ih)
    go false is ih = rw (lines-from l ls is) (map-in_place line_keeps (l ∷ ls) a)

lines-shorter : (ls : List (List ℕ)) → Shorter (lines_anew ls) ls
lines-shorter [] = rw lines_none tt
lines-shorter (l ∷ ls) = go (blank_line l || comment_line l) refl (lines-shorter ls)
  where
    go : (b : Bool) → (blank_line l || comment_line l) ≡ b → Shorter (lines_anew ls) ls → Shorter (lines_anew (l ∷ ls)) (l ∷ ls)
    go true is ih = rw (lines-before l ls is) (omega arith, ih)
    go false is ih = rw (lines-from l ls is) (map-shorter line_keeps (l ∷ ls))

module _ (text : List ℕ) where
  -- The lines of the text anew are its lines anew.
  pub text-lines : lines (text_anew text) ≡ lines_anew (lines text)
  unfolding lines text_anew
  text-lines = (woven-apart newline text (lines_anew (pieces newline text)) (lines-in_place (pieces newline text) (pieces-free newline text))).0

  -- And so are the bytes that end them.
  pub text_ends : ending newline (text_anew text) ≡ ending newline text
  unfolding lines text_anew
  text_ends = (woven-apart newline text (lines_anew (pieces newline text)) (lines-in_place (pieces newline text) (pieces-free newline text))).1

  pub text_length : length (text_anew text) ≤ length text
  unfolding lines text_anew
  text_length =
      omega (
        arith,
        woven-shorter (lines_anew (pieces newline text)) (pieces newline text) (ending newline text) (lines-shorter (pieces newline text)),
        ap length (woven-pieces newline text),
      )

  pub text_same : lines_anew (lines text) ≡ lines text → text_anew text ≡ text
  unfolding lines text_anew
  text_same e = ap (λ (ks : List (List ℕ)). woven ks (ending newline text)) e ∙ woven-pieces newline text

  -- ---- what `rewrite` writes

  pub output-anew : taken text ≡ true → rewrite_output text ≡ text_anew text
  unfolding rewrite_output
  output-anew e = rw e

  pub output-line : taken text ≡ false → rewrite_output text ≡ unlines (bytes "cannot read" ∷ [])
  unfolding rewrite_output
  output-line e = rw e
