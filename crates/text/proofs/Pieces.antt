-- Lines and words a step at a time: what stands in front of a cursor that goes from line to line, or from word to word.
use mathlib.Core.Path.{◌≡◌, refl, sym, ap, ap₂, ◌∙◌}
use mathlib.Core.Bool.{Bool, true, false, not, cond}
use mathlib.Core.List.{List, [], ◌∷◌}
use Prim.Native.Nat.{ℕ, suc, ◌+◌, ◌-◌, ◌≤◌, ◌<◌}
use native.Mathlib.Omega.{arith}
use lib.Dec.{eqb}
use borrow.Author.Tests.{eq-eqb, ne_eqb}
use Rattle.graph.proofs.Passing.{zero_one}
use lib.ListN.{length, take, drop, get_or, drop_of_length-le, length-take, length-drop}
use lib.Seq.{drop-cons, drop-drop}
use Rattle.layout.specs.Text.{blank, newline, pieces, on_first, non_empty, lines, words, no_words, begins}
use Rattle.text.proofs.Scans.{run-le}
use Rattle.text.specs.Cursor.{run, in_line, in_word, past, word_at, first_word, past_word}

-- The first piece goes up to the first byte that ends one, and the others are those of what follows that byte.
pub pieces_step : (p : ℕ → Bool) (x : ℕ) (xs : List ℕ) →
    pieces p (x ∷ xs) ≡ take (run (λ y. not (p y)) (x ∷ xs)) (x ∷ xs) ∷ pieces p (drop (suc (run (λ y. not (p y)) (x ∷ xs))) (x ∷ xs))
unfolding pieces on_first run
pieces_step p x [] = go (p x)
  where
    go : (b : Bool) → cond b ([] ∷ []) ((x ∷ []) ∷ []) ≡ take (cond (not b) 1 0) (x ∷ []) ∷ pieces p (drop (suc (cond (not b) 1 0)) (x ∷ []))
    go true = refl
    go false = refl
pieces_step p x (y ∷ ys) = go (p x) (pieces_step p y ys)
  where
    r : ℕ
    r = run (λ z. not (p z)) (y ∷ ys)

    go : (b : Bool) → pieces p (y ∷ ys) ≡ take r (y ∷ ys) ∷ pieces p (drop (suc r) (y ∷ ys))
        → cond b ([] ∷ pieces p (y ∷ ys)) (on_first x (pieces p (y ∷ ys)))
        ≡ take (cond (not b) (suc r) 0) (x ∷ y ∷ ys) ∷ pieces p (drop (suc (cond (not b) (suc r) 0)) (x ∷ y ∷ ys))
    go true ih = refl
    go false ih = ap (on_first x) ih

pieces-nil : (p : ℕ → Bool) → pieces p [] ≡ []
unfolding pieces
pieces-nil p = refl

-- No line is left.
pub lines_none : (s : List ℕ) (at : ℕ) → length s ≤ at → lines (drop at s) ≡ []
unfolding lines
lines_none s at le = rw (drop_of_length-le s le) (pieces-nil newline)

-- The line at `at` ends at e.
pub lines-some : (s : List ℕ) (at e : ℕ) → at < length s → e ≡ past in_line s at → lines (drop at s) ≡ take (e - at) (drop at s) ∷ lines (drop (e + 1) s)
unfolding lines
lines-some s at e lt is =
    let k : e - at ≡ run in_line (drop at s) = omega arith in
    let k' : at + suc (run in_line (drop at s)) ≡ e + 1 = omega arith in
    rw k
    (step
    ∙ ap (λ (l : List ℕ). take (run in_line (drop at s)) (drop at s) ∷ pieces newline l)
    (drop-drop (suc (run in_line (drop at s))) at s ∙ ap (λ (j : ℕ). drop j s) k'))
  where
    step : pieces newline (drop at s) ≡ take (run in_line (drop at s)) (drop at s) ∷ pieces newline (drop (suc (run in_line (drop at s))) (drop at s))
    step = rw (drop-cons s at 0 lt) (pieces_step newline (get_or s at 0) (drop (suc at) s))

words-blank : (x : ℕ) (xs : List ℕ) → blank x ≡ true → words (x ∷ xs) ≡ words xs
unfolding words pieces non_empty
words-blank x xs h = ap (λ (b : Bool). non_empty (cond b ([] ∷ pieces blank xs) (on_first x (pieces blank xs)))) h

words-nil : words [] ≡ []
unfolding words pieces non_empty
words-nil = refl

-- Blanks before a word are passed over.
words-skip : (l : List ℕ) → words l ≡ words (drop (run blank l) l)
unfolding run
words-skip [] = refl
words-skip (x ∷ xs) = go (blank x) refl (words-skip xs)
  where
    go : (b : Bool) → blank x ≡ b → words xs ≡ words (drop (run blank xs) xs) → words (x ∷ xs) ≡ words (drop (cond b (suc (run blank xs)) 0) (x ∷ xs))
    go true is ih = words-blank x xs is ∙ ih
    go false is ih = refl

-- After a word, to drop the blank too leaves the same words.
words-after : (l : List ℕ) → words (drop (suc (run in_word l)) l) ≡ words (drop (run in_word l) l)
unfolding run
words-after [] = refl
words-after (x ∷ xs) = go (blank x) refl (words-after xs)
  where
    go : (b : Bool) → blank x ≡ b → words (drop (suc (run in_word xs)) xs) ≡ words (drop (run in_word xs) xs)
        → words (drop (cond (not b) (suc (run in_word xs)) 0) xs) ≡ words (drop (cond (not b) (suc (run in_word xs)) 0) (x ∷ xs))
    go true is ih = sym (words-blank x xs is)
    go false is ih = ih

run-word : (x : ℕ) (xs : List ℕ) → blank x ≡ false → run in_word (x ∷ xs) ≡ suc (run in_word xs)
unfolding run
run-word x xs h = ap (λ (b : Bool). cond (not b) (suc (run in_word xs)) 0) h

words-upto : (x : ℕ) (xs : List ℕ) → blank x ≡ false → words (x ∷ xs) ≡ take (run in_word (x ∷ xs)) (x ∷ xs) ∷ words (drop (suc (run in_word (x ∷ xs))) (x ∷ xs))
unfolding words non_empty
words-upto x xs h = ap non_empty (pieces_step blank x xs) ∙ rw (run-word x xs h) refl

words-first : (x : ℕ) (xs : List ℕ) → blank x ≡ false → words (x ∷ xs) ≡ take (run in_word (x ∷ xs)) (x ∷ xs) ∷ words (drop (run in_word (x ∷ xs)) (x ∷ xs))
words-first x xs h = words-upto x xs h ∙ ap (λ (ws : List (List ℕ)). take (run in_word (x ∷ xs)) (x ∷ xs) ∷ ws) (words-after (x ∷ xs))

-- Where a run stops its test does not hold.
run-stop : (p : ℕ → Bool) (l : List ℕ) (y : ℕ) (ys : List ℕ) → drop (run p l) l ≡ y ∷ ys → p y ≡ false
unfolding run
run-stop p [] y ys e = cc
run-stop p (x ∷ xs) y ys e = go (p x) refl (run-stop p xs y ys) e
  where
    go : (b : Bool) → p x ≡ b → (drop (run p xs) xs ≡ y ∷ ys → p y ≡ false) → drop (cond b (suc (run p xs)) 0) (x ∷ xs) ≡ y ∷ ys → p y ≡ false
    go true is ih e = ih e
    go false is ih e = let q : x ≡ y = cc in rw (← q) is

first_nil : take (run in_word []) [] ≡ first_word (words [])
unfolding run words pieces non_empty
first_nil = refl

-- What stands in front of a place: no word, or a word, which is not empty, and the words after it.
pub data Front (l : List ℕ) (at : ℕ) : Type 0 where
  nothing : words (drop at l) ≡ [] → Front l at
  word : (x : ℕ) (w : List ℕ) → words (drop at l) ≡ (x ∷ w) ∷ words (drop (past_word l at) l) → Front l at

module _ (l : List ℕ) (at : ℕ) where
  abbrev a : ℕ
  a = past blank l at

  to_word : words (drop at l) ≡ words (drop a l)
  to_word = words-skip (drop at l) ∙ ap words (drop-drop (run blank (drop at l)) at l)

  no_blank : (y : ℕ) (ys : List ℕ) → drop a l ≡ y ∷ ys → blank y ≡ false
  no_blank y ys is = run-stop blank (drop at l) y ys (drop-drop (run blank (drop at l)) at l ∙ is)

  pub front : Front l at
  front = go (drop a l) refl
    where
      go : (m : List ℕ) → drop a l ≡ m → Front l at
      go [] is = nothing (to_word ∙ ap words is ∙ words-nil)
      go (y ∷ ys) is =
          let nb : blank y ≡ false = no_blank y ys is in
          let left : drop (run in_word (y ∷ ys)) (y ∷ ys) ≡ drop (past_word l at) l = ap (λ (m : List ℕ). drop (run in_word m) m) (sym is)
          ∙ drop-drop (run in_word (drop a l)) a l in
          word y (take (run in_word ys) ys)
          (to_word ∙ ap words is ∙ words-first y ys nb ∙ ap₂ (λ (n : ℕ) (m : List ℕ). take n (y ∷ ys) ∷ words m) (run-word y ys nb) left)

  -- The word that begins after the blanks is the first, and it ends where that does.
  first-word : word_at l a ≡ first_word (words (drop at l))
  first-word = go (drop a l) refl ∙ ap first_word (sym to_word)
    where
      go : (m : List ℕ) → drop a l ≡ m → word_at l a ≡ first_word (words (drop a l))
      go [] is = ap (λ (m : List ℕ). take (run in_word m) m) is ∙ first_nil ∙ ap (λ (m : List ℕ). first_word (words m)) (sym is)
      go (y ∷ ys) is =
          ap (λ (m : List ℕ). take (run in_word m) m) is ∙ sym (ap first_word (words-first y ys (no_blank y ys is)))
          ∙ ap (λ (m : List ℕ). first_word (words m)) (sym is)

  module _ {s : ℕ} (es : s ≡ a) {w : List ℕ} (is : w ≡ word_at l s) where
    pub word_is : w ≡ first_word (words (drop at l))
    word_is = is ∙ ap (word_at l) es ∙ first-word

    pub word_past : s + length w ≡ past_word l at
    word_past =
        let k : length w ≡ run in_word (drop s l) = ap length is ∙ simp length-take (omega (arith, run-le in_word (drop s l))) in
        omega (arith, ap (λ j. j + run in_word (drop j l)) es)

  -- No word is left where the blanks go to the end.
  pub no_words-is : at ≤ length l → eqb a (length l) ≡ no_words (words (drop at l))
  no_words-is le = go (drop a l) refl
    where
      long : length (drop a l) ≡ length l - a
      long = length-drop a l

      inside : a ≤ length l
      inside = omega (arith, run-le blank (drop at l), length-drop at l)

      go : (m : List ℕ) → drop a l ≡ m → eqb a (length l) ≡ no_words (words (drop at l))
      go [] is =
          let e : a ≡ length l = omega (arith, long, inside, ap length is) in
          eq-eqb a (length l) e ∙ ap no_words (sym (to_word ∙ ap words is ∙ words-nil))
      go (y ∷ ys) is =
          ne_eqb a (length l) (λ e. zero_one (omega (arith, long, ap length is)))
          ∙ ap no_words (sym (to_word ∙ ap words is ∙ words-first y ys (no_blank y ys is)))

-- The word that begins a line is its first.
pub word_begins : (l : List ℕ) → begins l ≡ true → (w : List ℕ) → w ≡ word_at l 0 → words l ≡ w ∷ words (drop (length w) l)
word_begins [] h w is = zero_one (cc)
word_begins (x ∷ xs) h w is =
    let q : blank x ≡ false = go (blank x) h in
    let k : length w ≡ run in_word (x ∷ xs) = ap length is ∙ simp length-take (omega (arith, run-le in_word (x ∷ xs))) in
    words-first x xs q ∙ ap₂ (λ (v : List ℕ) (n : ℕ). v ∷ words (drop n (x ∷ xs))) (sym is) (sym k)
  where
    go : (b : Bool) → not b ≡ true → b ≡ false
    go true e = zero_one (cc)
    go false e = refl
