-- Fixed words of a line, one at a time.
use Rattle.std.specs.Prelude.{Some, None}
use Rattle.std.specs.Bool.{then_some}
use mathlib.Core.Path.{◌≡◌, refl, sym, ap, ◌∙◌}
use mathlib.Core.Bool.{Bool, true, false, ◌&&◌}
use mathlib.Core.List.{List, [], ◌∷◌, map}
use Prim.Native.Nat.{ℕ, ◌+◌, ◌≤◌}
use native.Mathlib.Omega.{arith}
use lib.ListN.{length, drop}
use Rattle.graph.proofs.Passing.{zero_one}
use Rattle.layout.specs.Text.{blank, words, same, lower, same_folded}
use Rattle.keywords.specs.Keywords.{WordAt, first_is, FirstWord, KeyTaken}
use Rattle.text.specs.Cursor.{past, word_at, first_word}
use Rattle.text.proofs.Pieces.{Front, nothing, word, front, word_is, word_past}

-- The word that stands next, by whether it is empty.
module _ (l : List ℕ) (at : ℕ) {s : ℕ} (es : s ≡ past blank l at) {w : List ℕ} (is : w ≡ word_at l s) where
  first : w ≡ first_word (words (drop at l))
  first = word_is l at es is

  pub none_left : length w ≡ 0 → words (drop at l) ≡ []
  none_left h = go (front l at)
    where
      go : Front l at → words (drop at l) ≡ []
      go (nothing n) = n
      go (word x v n) = let q : w ≡ x ∷ v = first ∙ ap first_word n in zero_one (omega (arith, ap length q))

  pub word_left : (length w ≡ 0 → ⊥) → s + length w ≤ length l → WordAt l at w (s + length w)
  word_left ne le = go (front l at)
    where
      go : Front l at → WordAt l at w (s + length w)
      go (nothing n) = absurd (ne (ap length (first ∙ ap first_word n)))
      go (word x v n) =
          let q : w ≡ x ∷ v = first ∙ ap first_word n in
          record { ahead = n ∙ rw (← q, word_past l at es is) refl; inside = le }

folded_nil : (k : List ℕ) (ks : List (List ℕ)) → same_folded [] (k ∷ ks) ≡ false
unfolding same_folded
folded_nil k ks = refl

folded_cons : (w k : List ℕ) (ws ks : List (List ℕ)) → same_folded (w ∷ ws) (k ∷ ks) ≡ (same (map lower w) k && same_folded ws ks)
unfolding same_folded
folded_cons w k ws ks = refl

-- The word k is taken from a place that no word follows, and from one that a word follows.
module _ (l k : List ℕ) where
  module _ (at : ℕ) where
    pub taken-missing : words (drop at l) ≡ [] → KeyTaken l (Some at) k None
    taken-missing h = record { inside = tt; rest = λ ks. sym (ap (λ (ws : List (List ℕ)). same_folded ws (k ∷ ks)) h ∙ folded_nil k ks) }

    pub taken : {w : List ℕ} {e : ℕ} → WordAt l at w e → (b : Bool) → b ≡ same (map lower w) k → KeyTaken l (Some at) k (then_some b e)
    taken {w} {e} t b is = go b is
      where
        step : (ks : List (List ℕ)) → same_folded (words (drop at l)) (k ∷ ks) ≡ (same (map lower w) k && same_folded (words (drop e l)) ks)
        step ks = ap (λ (ws : List (List ℕ)). same_folded ws (k ∷ ks)) t.ahead ∙ folded_cons w k (words (drop e l)) ks

        go : (b : Bool) → b ≡ same (map lower w) k → KeyTaken l (Some at) k (then_some b e)
        go true h = record { inside = t.inside; rest = λ ks. sym (step ks ∙ rw (← h) refl) }
        go false h = record { inside = tt; rest = λ ks. sym (step ks ∙ rw (← h) refl) }

-- The first word is k, or is not.
module _ (l k : List ℕ) where
  pub first-missing : words l ≡ [] → FirstWord l k None
  first-missing h = ap (first_is k) h

  pub first-by : {w : List ℕ} {e : ℕ} → WordAt l 0 w e → (b : Bool) → b ≡ same w k → FirstWord l k (then_some b e)
  first-by {w} t true h = record { inside = t.inside; read = w; ahead = t.ahead; is = sym h }
  first-by {w} t false h = ap (first_is k) t.ahead ∙ sym h
