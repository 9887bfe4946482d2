-- How far the reader of an assignment text has come: what the problem line and the source nodes leave to be read.
use Rattle.std.specs.Prelude.{ℕ, ◌+◌, ◌≡◌, List, drop, Ok, Err}
use Rattle.graph.specs.Refusal.{Outcome, refuses}
use Rattle.graph.specs.Graph.{Graph}
use Rattle.layout.specs.Text.{lines}
use Rattle.layout.specs.AssignmentText.{Stated, Progress, naming, joining, judged, read_entries, read_arcs}
use Rattle.text.specs.declared.Cursor.{Cursor}
use Rattle.lines.specs.Found.{Reached}
use Rattle.assignment_reader.specs.declared.Problem.{Problem}

-- What the code's problem line states.
abbrev pub stated : Problem → Stated
stated p = record { line = p.line; nodes = p.nodes; arcs = p.arcs }

-- What reading the text s yields from the cursor c on, in a state.
abbrev pub remaining : List ℕ → Cursor → Progress → Outcome Graph
remaining s c t = read_entries (c.line + 1) t (lines (drop c.at s))

-- The problem line was found, and what remains yields what the whole does; or the whole is refused.
pub record ProblemFound (s : List ℕ) (p : Problem) (d : Cursor) : Type 0 where
  pub reached : Reached s d
  pub whole : remaining s d (naming (stated p) 0) ≡ read_arcs s

abbrev pub ProblemAs : List ℕ → Outcome (Problem × Cursor) → Type 0
ProblemAs s (Ok (p, d)) = ProblemFound s p d
ProblemAs s (Err x) = refuses x.fault x.place ≡ read_arcs s

-- The source nodes are known: from the cursor c on, the sizes are judged, and the arcs from the cursor d on remain.
pub record SourcesFound (s : List ℕ) (c : Cursor) (P : Stated) (rows : ℕ) (d : Cursor) : Type 0 where
  pub reached : Reached s d
  pub whole : remaining s c (naming P 0) ≡ judged P rows (λ g. remaining s d (joining g))

abbrev pub SourcesAs : List ℕ → Cursor → Stated → Outcome (ℕ × Cursor) → Type 0
SourcesAs s c P (Ok (rows, d)) = SourcesFound s c P rows d
SourcesAs s c P (Err x) = remaining s c (naming P 0) ≡ refuses x.fault x.place
