-- Reading the lines of a text from the top: what each line does, in one order for all texts.
use Rattle.std.specs.Prelude.{ℕ, ◌+◌, Bool, cond, ◌||◌, List, [], ◌∷◌, Ok}
use Rattle.graph.specs.declared.Fault.{Fault}
use Rattle.graph.specs.declared.Fault.TheVariants.{Header, SizeLine, LaterLine}
use Rattle.graph.specs.Refusal.{Outcome, refuses}
use Rattle.layout.specs.Text.{lines, line_fits, blank_line, comment_line}

-- What a line does: reading goes on in a state, or the line is refused.
pub data Step (A : Type 0) : Type 0 where
  goes : A → Step A
  stops : Fault → Step A

-- How far reading is: before the header, before the size line, or after it.
-- H is what the header tells, and B what has been read since the size line.
pub data State (H B : Type 0) : Type 0 where
  start : State H B
  sizing : H → State H B
  reading : B → State H B

-- How one sort of text is read: its header line, its size line, and its later lines; whether another is still to come; and the result.
pub record Layout (H B R : Type 0) : Type 0 where
  pub header_line : List ℕ → Step H
  pub size_line : H → List ℕ → Step B
  pub later_line : B → List ℕ → Step B
  pub more : B → Bool
  pub result : B → R

module _ {H B : Type 0} where
  -- Reading goes on after the header, or after the size line.
  abbrev pub sized : Step H → Step (State H B)
  sized (goes h) = goes (sizing h)
  sized (stops f) = stops f

  abbrev pub begun : Step B → Step (State H B)
  begun (goes b) = goes (reading b)
  begun (stops f) = stops f

module _ {H B R : Type 0} where
  -- What a line does in each state. A line over 1,024 bytes is refused whatever it holds. Blank lines may stand anywhere after the first, and
  -- comments between header and size line. A later line when none is to come is surplus.
  unfoldable pub on_line : Layout H B R → State H B → List ℕ → Step (State H B)
  on_line L start l = cond (line_fits l) (sized (L.header_line l)) (stops Header)
  on_line L (sizing h) l = cond (line_fits l) (cond (blank_line l || comment_line l) (goes (sizing h)) (begun (L.size_line h l))) (stops SizeLine)
  on_line L (reading b) l =
      cond (line_fits l) (cond (blank_line l) (goes (reading b)) (cond (L.more b) (begun (L.later_line b l)) (stops LaterLine))) (stops LaterLine)

  -- Where the lines end, k being the number after the last: a line that is still to come is missing there.
  unfoldable pub at_end : Layout H B R → ℕ → State H B → Outcome R
  at_end L k start = refuses Header k
  at_end L k (sizing h) = refuses SizeLine k
  at_end L k (reading b) = cond (L.more b) (refuses LaterLine k) (Ok (L.result b))

  abbrev pub on_step : ℕ → Step (State H B) → (State H B → Outcome R) → Outcome R
  on_step k (goes s) rest = rest s
  on_step k (stops f) rest = refuses f k

  -- The lines ls, of which the first is line k, in a state. The place of a refusal is the line's number.
  unfoldable pub read_lines : Layout H B R → ℕ → State H B → List (List ℕ) → Outcome R
  read_lines L k s [] = at_end L k s
  read_lines L k s (l ∷ ls) = on_step k (on_line L s l) (λ t. read_lines L (k + 1) t ls)

  -- A whole text.
  abbrev pub read_text : Layout H B R → List ℕ → Outcome R
  read_text L text = read_lines L 1 start (lines text)
