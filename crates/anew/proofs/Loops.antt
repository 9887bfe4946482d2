-- What is left of a line after a word, and of a text after a line.
use mathlib.Core.Path.{◌≡◌, refl, sym, ap, ◌∙◌, subst}
use mathlib.Core.Bool.{Bool, true, false, not, ◌||◌}
use mathlib.Core.List.{List, [], ◌∷◌, ◌++◌, map}
use Prim.Native.Nat.{ℕ, suc, ◌+◌, ◌-◌, ◌≤◌, ◌<◌}
use native.Mathlib.Omega.{arith}
use lib.ListN.{length, take, drop, get_or, length-drop, drop_of_length-le}
use lib.Seq.{drop-cons, length-take-le}
use Rattle.layout.specs.Text.{newline, blank, pieces, lines, blank_line, comment_line}
use Rattle.layout.specs.Rewrite.{ending, woven, word_anew, line_anew, text_anew}
use Rattle.text.specs.declared.Cursor.{Cursor}
use Rattle.text.specs.Cursor.{in_word, run, word_at}
use Rattle.text.proofs.Pieces.{pieces_step, lines_none}
use Rattle.text.proofs.Lined.{Lined}
use Rattle.rewriting.proofs.Pieces.{woven-none}
use Rattle.rewriting.proofs.Anew.{line_none, line_length, word_keeps}
use Rattle.anew.specs.Anew.{byte_at, line_from}
use Rattle.anew.proofs.Begun.{lines_from, from_none, from_more}
use Rattle.digits.specs.declared.Writer.{Writer}
use Rattle.digits.specs.Appends.{Appends}
use Rattle.anew.proofs.Turn.{Piece, first_piece, Turn, turn_starts, turn_ends, room_piece, room_byte, turn_more}

-- ---- a word of a line

pub word_piece : (l : List ℕ) (i : ℕ) → i < length l → (w : List ℕ) → w ≡ word_at l i → Piece blank l i w
word_piece l i lt w is =
    let e = drop-cons l i 0 lt in
    let others = pieces blank (drop (suc (run in_word (get_or l i 0 ∷ drop (suc i) l))) (get_or l i 0 ∷ drop (suc i) l)) in
    let first = ap (λ (d : List ℕ). take (run in_word d) d) (sym e) ∙ sym is in
    first_piece blank l i w others (ap (pieces blank) e ∙ pieces_step blank (get_or l i 0) (drop (suc i) l) ∙ ap (λ (u : List ℕ). u ∷ others) first)

pub word_rest : {l : List ℕ} {i : ℕ} {w : List ℕ} → Piece blank l i w →
    line_anew (drop i l) ≡ word_anew w ++ (byte_at l (i + length w) ++ line_anew (drop (i + length w + 1) l))
unfolding line_anew
word_rest {l} {i} {w} P =
    ap (λ (ks : List (List ℕ)). woven (map word_anew ks) (ending blank (drop i l))) P.others
    ∙ P.step (word_anew w) (map word_anew (pieces blank (drop (i + length w + 1) l)))

pub word_shorter : (w : List ℕ) → length (word_anew w) ≤ length w
word_shorter w = word_keeps.shorter w

pub no_word_left : (l : List ℕ) (i : ℕ) → length l ≤ i → line_anew (drop i l) ≡ []
no_word_left l i le = ap line_anew (drop_of_length-le l le) ∙ line_none

-- ---- a line of a text

-- What the text s stands for from the place i on, where the numbers have begun before or not.
abbrev pub rest_at : List ℕ → Bool → ℕ → List ℕ
rest_at s begun i = woven (lines_from begun (lines (drop i s))) (ending newline (drop i s))

pub whole_rest : (s : List ℕ) → rest_at s false 0 ≡ text_anew s
unfolding text_anew
whole_rest s = refl

pub no_line_left : (s : List ℕ) (begun : Bool) (i : ℕ) → length s ≤ i → rest_at s begun i ≡ []
no_line_left s begun i le =
    ap (λ (ks : List (List ℕ)). woven ks (ending newline (drop i s))) (ap (lines_from begun) (lines_none s i le) ∙ from_none begun) ∙ woven-none _

pub from_shorter : (begun : Bool) (l : List ℕ) → length (line_from begun l) ≤ length l
from_shorter true l = line_length l
from_shorter false l = omega arith

-- The loop has come to the cursor c.
pub record TextTurn (w : Writer) (s : List ℕ) (v : Writer) (begun : Bool) (c : Cursor) : Type 0 where
  pub behind : c.line ≤ c.at
  pub turn : Turn w s (text_anew s) (rest_at s begun c.at) v c.at

pub text_starts : (w : Writer) (s : List ℕ) → TextTurn w s w false (record { at = 0; line = 0 })
text_starts w s = record {
  behind = omega arith;
  turn = subst (λ (r : List ℕ). Turn w s (text_anew s) r w 0) (sym (whole_rest s)) (turn_starts w s (text_anew s));
}

pub text_ends : {w : Writer} {s : List ℕ} {v : Writer} {begun : Bool} {c : Cursor} → TextTurn w s v begun c → length s ≤ c.at → Appends w (text_anew s) v
text_ends {s = s} {begun = begun} {c} T le = turn_ends T.turn (no_line_left s begun c.at le)

-- The line from a to e stands at the cursor, and the loop goes on from the cursor after it.
module _ {w : Writer} {s : List ℕ} {v : Writer} {before : Bool} {c : Cursor} (T : TextTurn w s v before c) (room : w.at + length s ≤ length w.out.now)
    {a e : ℕ} {after : Cursor} (g : Lined s c a e after) where
  abbrev line : List ℕ
  line = take (e - a) (drop a s)

  line_piece : Piece newline s c.at line
  unfolding lines
  line_piece = first_piece newline s c.at line (lines (drop after.at s)) g.front

  line-ends : c.at + length line ≡ e
  line-ends = omega (arith, length-take-le (e - a) (drop a s) (omega (arith, length-drop a s, g.inside)), g.starts, g.forward)

  line_after : c.at + length line + 1 ≡ after.at
  line_after = omega (arith, line-ends, g.next-at)

  pub line-room : v.at + length line ≤ length v.out.now
  line-room = room_piece T.turn room line_piece

  module _ {begun : Bool} (is : begun ≡ (before || not (blank_line line || comment_line line))) where
    text_rest : rest_at s before c.at ≡ line_from begun line ++ (byte_at s (c.at + length line) ++ rest_at s begun (c.at + length line + 1))
    unfolding lines
    text_rest =
        ap (λ (ks : List (List ℕ)). woven (lines_from before ks) (ending newline (drop c.at s))) line_piece.others
        ∙ ap (λ (ks : List (List ℕ)). woven ks (ending newline (drop c.at s))) (from_more before begun line _ is)
        ∙ line_piece.step (line_from begun line) (lines_from begun (lines (drop (c.at + length line + 1) s)))

    module _ {u : Writer} (put : Appends v (line_from begun line) u) where
      pub end_room : u.at + length (byte_at s e) ≤ length u.out.now
      end_room = let h = room_byte T.turn room line_piece put (from_shorter begun line) in rw line-ends at h

      pub text_more : {t : Writer} → Appends u (byte_at s e) t → TextTurn w s t begun after
      text_more {t} byte = record {
        behind = omega (arith, T.behind, g.next-at, g.next-line, g.starts, g.forward);
        turn =
            subst (λ (i : ℕ). Turn w s (text_anew s) (rest_at s begun i) t i) line_after
            (turn_more T.turn room line_piece put (from_shorter begun line)
            (subst (λ (i : ℕ). Appends u (byte_at s i) t) (sym line-ends) byte) text_rest);
      }
