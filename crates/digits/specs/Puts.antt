-- Bytes that are written over those lent.
use Rattle.std.specs.Prelude.{ℕ, ◌+◌, ◌≡◌, List, ◌++◌, length, take, drop}

-- The bytes d with xs written over them from a place on; all others stay.
unfoldable pub over : List ℕ → ℕ → List ℕ → List ℕ
over d at xs = take at d ++ (xs ++ drop (at + length xs) d)

-- Of d, xs was written at a place: after is what is left in d, and e the place after xs.
pub record Puts (d : List ℕ) (at : ℕ) (xs after : List ℕ) (e : ℕ) : Type 0 where
  pub text : after ≡ over d at xs
  pub place : e ≡ at + length xs
