-- The lines that programs write: that of a refusal, and that of a measuring.
use Rattle.std.specs.Prelude.{ℕ, ◌≡◌, Bool, cond, List, [], ◌∷◌, leb, length, replicate}
use Rattle.graph.specs.declared.Fault.{Fault}
use Rattle.graph.specs.Refusal.{number_of, filled}
use Rattle.layout.specs.Text.{bytes, decimal, signed, spaced, unlines}
use Rattle.dual.specs.declared.Measures.{Measures}
use Rattle.report.specs.declared.Source.{Source}

-- FILE: the bare name of the file that is read, or `input` where a refusal comes from no reader.
abbrev pub name_of : Source → List ℕ
name_of Source.Sheet = bytes "sheet.mtx"
name_of Source.Limits = bytes "limits.mtx"
name_of Source.Plan = bytes "plan.mtx"
name_of Source.Prices = bytes "prices.mtx"
name_of Source.Assignment = bytes "crosses.asn"
name_of Source.Input = bytes "input"

-- A refusal: `refused NUMBER at PLACE in FILE`.
unfoldable pub refused_line : Source → Fault → ℕ → List ℕ
refused_line source fault place =
    unlines (spaced (bytes "refused" ∷ decimal (number_of fault) ∷ bytes "at" ∷ decimal place ∷ bytes "in" ∷ name_of source ∷ []) ∷ [])

-- The line of `mark`: each number follows its name.
unfoldable pub measured_line : Measures → List ℕ
measured_line m =
    unlines
    (spaced
    (bytes "merit" ∷ signed m.weight
    ∷ bytes "total" ∷ signed m.total
    ∷ bytes "fish" ∷ signed m.vertices
    ∷ bytes "groups" ∷ signed m.sets
    ∷ bytes "pairs" ∷ signed m.edges
    ∷ bytes "cover" ∷ signed m.cover
    ∷ bytes "gap" ∷ signed m.gap
    ∷ [])
    ∷ [])

-- ---- what is left in a buffer

-- A buffer that is lent for a line must have room for any: both lines are shorter than 256 bytes.
abbrev pub line_bytes : ℕ
line_bytes = 256

abbrev pub line_room : ℕ → Bool
line_room n = leb line_bytes n

-- What a buffer of n bytes holds of a text: the text and then 0 where there is room for it, else only 0; and the length that is answered, 0 then.
abbrev pub composed_bytes : Bool → ℕ → List ℕ → List ℕ
composed_bytes room n text = cond room (filled n 0 text) (replicate n 0)

abbrev pub composed_length : Bool → List ℕ → ℕ
composed_length room text = cond room (length text) 0

-- `after` is left of the buffer `before`, and r is answered, where `room` says which lengths have room.
pub record Composed (room : ℕ → Bool) (text before after : List ℕ) (r : ℕ) : Type 0 where
  pub content : after ≡ composed_bytes (room (length before)) (length before) text
  pub size : r ≡ composed_length (room (length before)) text
