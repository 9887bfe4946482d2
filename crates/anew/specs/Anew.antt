-- What the functions on words and lines write.
use Rattle.std.specs.Prelude.{ℕ, Bool, cond, List, take, drop}
use Rattle.layout.specs.Rewrite.{line_anew}

-- The byte at a place, if there is one.
abbrev pub byte_at : List ℕ → ℕ → List ℕ
byte_at s e = take 1 (drop e s)

-- A line, anew where the numbers have begun.
abbrev pub line_from : Bool → List ℕ → List ℕ
line_from begun l = cond begun (line_anew l) l
