-- What the writers leave in the bytes that they are lent.
use Rattle.graph.specs.Refusal.{Outcome}
use Rattle.std.specs.Prelude.{ℕ, ◌≡◌, cond, List, [], ◌∷◌, eqb, length, replicate, Ok, Err}
use Rattle.graph.specs.Refusal.{filled}
use Rattle.graph.specs.declared.Shape.{Shape}
use Rattle.layout.specs.declared.Field.{Field}
use Rattle.layout.specs.Text.{decimal, spaced}
use Rattle.layout.specs.GraphText.{header_text}

-- The header line of a field and the size line, with a number of edges.
abbrev pub head_lines : Field → Shape → ℕ → List (List ℕ)
head_lines field s count = header_text field s.kind ∷ spaced (decimal s.rows ∷ decimal s.columns ∷ decimal count ∷ []) ∷ []

-- The lines of one edge: one if its mark is 1, with its row and column.
abbrev pub marked_lines : ℕ → ℕ → ℕ → List (List ℕ)
marked_lines row column mark = cond (eqb mark 1) (spaced (decimal row ∷ decimal column ∷ []) ∷ []) []

-- A text fills an output of n bytes, 0 after its end, and r is its length.
pub record Written (n : ℕ) (xs after : List ℕ) (r : ℕ) : Type 0 where
  pub text : after ≡ filled n 0 xs
  pub size : r ≡ length xs

-- What is left of an output once the tests of a call have answered: after a refusal all of it is 0.
abbrev pub left_by : Outcome (Unit {0}) → List ℕ → List ℕ
left_by (Ok u) d = d
left_by (Err refusal) d = replicate (length d) 0
