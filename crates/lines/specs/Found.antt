-- The next line that counts: the first that is not skipped.
use Rattle.std.specs.Prelude.{ℕ, ◌+◌, ◌-◌, ◌≤◌, ◌<◌, ◌≡◌, Bool, cond, List, [], ◌∷◌, length, take, drop, Result, Ok, Err}
use Rattle.layout.specs.Text.{lines, line_fits}
use Rattle.text.specs.declared.Cursor.{Cursor}
use Rattle.text.specs.declared.Line.{Line}
use Rattle.lines.specs.declared.Missing.{Missing}

-- Line k, which counts, and the lines after it; or the lines end, where line k would be; or line k is over 1,024 bytes.
pub data LineFound : Type 0 where
  at : ℕ → List ℕ → List (List ℕ) → LineFound
  ended : ℕ → LineFound
  long : ℕ → LineFound

-- The lines ls, of which the first is line k: the first that is not skipped. A line over 1,024 bytes is not skipped, whatever it holds.
-- Nothing is skipped before the header; blank lines and comments before the size line; blank lines before a later line; and in an assignment text blank lines
-- and its own comments.
unfoldable pub next_data : (List ℕ → Bool) → ℕ → List (List ℕ) → LineFound
next_data skip k [] = ended k
next_data skip k (l ∷ ls) = cond (line_fits l) (cond (skip l) (next_data skip (k + 1) ls) (at k l ls)) (long k)

-- The line from a to e.
abbrev pub part : List ℕ → ℕ → ℕ → List ℕ
part s a e = take (e - a) (drop a s)

-- What an answer says of the text s.
abbrev pub found_says : List ℕ → Result Line Missing → LineFound
found_says s (Ok l) = at l.next.line (part s l.start l.end) (lines (drop l.next.at s))
found_says s (Err (Missing.Ended k)) = ended k
found_says s (Err (Missing.Long k)) = long k

-- A cursor that stands in the text s, or after its end.
pub record Reached (s : List ℕ) (c : Cursor) : Type 0 where
  pub behind : c.line ≤ c.at
  pub reach : c.at ≤ length s + 1

-- A line that was found is a part of the text, and the cursor after it is past the cursor c.
pub record Inside (s : List ℕ) (c : Cursor) (start end : ℕ) (next : Cursor) : Type 0 where
  pub forward : start ≤ end
  pub ends : end ≤ length s
  pub reached : Reached s next
  pub onward : c.at < next.at

abbrev pub FoundInside : List ℕ → Cursor → Result Line Missing → Type 0
FoundInside s c (Ok l) = Inside s c l.start l.end l.next
FoundInside s c (Err m) = Unit {0}

-- An answer tells the first line from the cursor c on that is not skipped.
pub record FoundAs (s : List ℕ) (c : Cursor) (found : LineFound) (r : Result Line Missing) : Type 0 where
  pub says : found_says s r ≡ found
  pub inside : FoundInside s c r
