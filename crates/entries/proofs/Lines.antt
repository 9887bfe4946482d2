-- What a line of an assignment text is, by its letter and the words after it.
use Rattle.std.specs.Prelude.{Option, None}
use Prim.Native.Nat.{ℕ, suc, ◌+◌, ◌-◌}
use mathlib.Core.Path.{◌≡◌, refl, sym, ap, ◌∙◌}
use mathlib.Core.Bool.{Bool, true, false, not, cond}
use native.Mathlib.Omega.{arith}
use mathlib.Core.List.{List, [], ◌∷◌}
use lib.ListN.{length, take, drop}
use Rattle.graph.proofs.Passing.{zero_one}
use Rattle.layout.specs.Text.{blank, bytes, words, same, begins}
use Rattle.layout.specs.AssignmentText.{Entry, problem_of, source_of, arc_of, entry_words, entry_on}
use Rattle.text.specs.Cursor.{run, past, word_at}
use Rattle.text.proofs.Pieces.{word_begins}
use Rattle.text.proofs.Shapes.{rest_lent}

-- A line by its letter.
pub entry_blank : (l : List ℕ) → begins l ≡ false → None ≡ entry_on l
unfolding entry_on
entry_blank l h = sym (ap (λ (b : Bool). cond b (entry_words (words l)) None) h)

-- No blank stands before the word that begins a line.
no_blank : (l : List ℕ) → begins l ≡ true → run blank l ≡ 0
unfolding run
no_blank [] h = refl
no_blank (x ∷ xs) h = ap (λ (b : Bool). cond b (suc (run blank xs)) 0) (go (blank x) h)
  where
    go : (b : Bool) → not b ≡ true → b ≡ false
    go true e = zero_one (cc)
    go false e = refl

module _ (l : List ℕ) (h : begins l ≡ true) {start : ℕ} (found : start ≡ past blank l 0) {w : List ℕ} (is : w ≡ word_at l start) where
  here : start ≡ 0
  here = omega (arith, found, no_blank l h)

  abbrev after : List (List ℕ)
  after = words (drop (length w) l)

  by_letter : (p n a : Bool) → same w (bytes "p") ≡ p → same w (bytes "n") ≡ n → same w (bytes "a") ≡ a →
      cond p (problem_of after) (cond n (source_of after) (cond a (arc_of after) None)) ≡ entry_on l
  unfolding entry_on
  by_letter p n a ep en ea =
      sym
      (ap (λ (b : Bool). cond b (entry_words (words l)) None) h ∙ ap entry_words (word_begins l h w (is ∙ ap (word_at l) here))
      ∙ rw (ep, en, ea) refl)

  -- What is left of the line after the letter.
  abbrev rest : List (List ℕ)
  rest = words (take (length l - (start + length w)) (drop (start + length w) l))

  lent : {A : Type 0} (f : List (List ℕ) → A) → f rest ≡ f after
  lent f =
      let at : start + length w ≡ length w = omega (arith, here) in
      ap (λ k. f (words (take (length l - k) (drop k l)))) at ∙ ap (λ (m : List ℕ). f (words m)) (rest_lent l (length w))

  pub letter_p : same w (bytes "p") ≡ true → {o : Option Entry} → o ≡ problem_of rest → o ≡ entry_on l
  letter_p e q = q ∙ lent problem_of ∙ by_letter true (same w (bytes "n")) (same w (bytes "a")) e refl refl

  module _ (np : same w (bytes "p") ≡ false) where
    pub letter_n : same w (bytes "n") ≡ true → {o : Option Entry} → o ≡ source_of rest → o ≡ entry_on l
    letter_n e q = q ∙ lent source_of ∙ by_letter false true (same w (bytes "a")) np e refl

    module _ (nn : same w (bytes "n") ≡ false) where
      pub letter_a : same w (bytes "a") ≡ true → {o : Option Entry} → o ≡ arc_of rest → o ≡ entry_on l
      letter_a e q = q ∙ lent arc_of ∙ by_letter false false true np nn e

      pub letter_other : same w (bytes "a") ≡ false → None ≡ entry_on l
      letter_other e = by_letter false false false np nn e
