-- What the functions on lines and words yield, where positions in a text or a line are part of it, and what their answers say.
use Rattle.std.specs.Prelude.{ℕ, suc, ◌+◌, Bool, not, cond, List, [], ◌∷◌, ltb, length, take, drop, Option, None, Some, option_map}
use Rattle.layout.specs.Text.{newline, blank, words}
use Rattle.text.specs.declared.Cursor.{Cursor}
use Rattle.text.specs.declared.Line.{Line}

-- How many bytes stand before the first for which p does not hold.
unfoldable pub run : (ℕ → Bool) → List ℕ → ℕ
run p [] = 0
run p (x ∷ xs) = cond (p x) (suc (run p xs)) 0

-- The place after the bytes from `at` on for which p holds.
abbrev pub past : (ℕ → Bool) → List ℕ → ℕ → ℕ
past p s at = at + run p (drop at s)

-- A byte that does not end a line; a byte of a word.
abbrev pub in_line : ℕ → Bool
in_line x = not (newline x)

abbrev pub in_word : ℕ → Bool
in_word x = not (blank x)

-- The line at a cursor, up to its byte 10 or the end of the text, and the cursor after it.
abbrev pub line_at : List ℕ → Cursor → Line
line_at s c = record {
  start = c.at;
  end = past in_line s c.at;
  next = record { at = past in_line s c.at + 1; line = c.line + 1 };
}

abbrev pub next_line : List ℕ → Cursor → Option Line
next_line s c = cond (ltb c.at (length s)) (Some (line_at s c)) None

-- The word that begins at a place.
abbrev pub word_at : List ℕ → ℕ → List ℕ
word_at l start = take (run in_word (drop start l)) (drop start l)

-- The first of some words, or nothing.
abbrev pub first_word : List (List ℕ) → List ℕ
first_word [] = []
first_word (w ∷ ws) = w

-- The place after the first word from `at` on.
abbrev pub past_word : List ℕ → ℕ → ℕ
past_word l at = past in_word l (past blank l at)

-- The first word of a line from a cursor on, as f reads it, and the cursor after it.
unfoldable pub next : {A : Type 0} → (List ℕ → Option A) → List ℕ → Cursor → Option (A × Cursor)
next f l c = option_map (λ a. (a, record { at = past_word l c.at; line = c.line })) (f (first_word (words (drop c.at l))))
