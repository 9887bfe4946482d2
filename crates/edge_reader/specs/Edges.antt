-- How the edges of a graph are read from a text, whatever its sort: what is left to read, what comes next, and what the answer and the outputs are.
use Rattle.std.specs.Prelude.{ℕ, ◌+◌, ◌<◌, ◌≡◌, Bool, true, cond, List, ℤ, pos, length, replicate, drop, Ok, Err, Result, Option, None, Some}
use Rattle.graph.specs.declared.Shape.{Shape}
use Rattle.graph.specs.declared.Fault.{Fault}
use Rattle.graph.specs.declared.Fault.TheVariants.{SameEnds}
use Rattle.graph.specs.Limits.{most_edges}
use Rattle.graph.specs.Refusal.{Outcome, refuses, reported}
use Rattle.graph.specs.Graph.{Graph, shape_of, ends_in_range, weight_in_range, joined}
use Rattle.layout.specs.Text.{lines}
use Rattle.layout.specs.Lines.{Step, goes, stops, reading, read_lines}
use Rattle.layout.specs.GraphText.{with_edge, graph_layout}
use Rattle.layout.specs.AssignmentText.{joining, read_entries}
use Rattle.text.specs.declared.Cursor.{Cursor}
use Rattle.lines.specs.Found.{Reached}
use Rattle.lent.specs.Holding.{Holds}
use Rattle.edge_reader.specs.declared.EdgeText.{EdgeText}
use Rattle.edge_reader.specs.declared.Edge.{Edge}

-- The three outputs, of r, c and w numbers, are all 0.
pub record Cleared (r c w : ℕ) (row column : List ℕ) (weight : List ℤ) : Type 0 where
  pub rows : row ≡ replicate r 0
  pub columns : column ≡ replicate c 0
  pub weights : weight ≡ replicate w (pos 0)

-- What the line of an edge does after the edges of g, where its ends are still to be looked up.
abbrev pub edge_says : Graph → Result Edge Fault → Step Graph
edge_says g (Ok e) = cond (joined g (length g.row) e.row e.column) (stops SameEnds) (goes (with_edge g e.row e.column e.weight))
edge_says g (Err f) = stops f

pub record EdgeRanged (s : Shape) (r c : ℕ) (w : ℤ) : Type 0 where
  pub ends : ends_in_range s.kind s.rows s.columns r c ≡ true
  pub weight : weight_in_range w ≡ true

abbrev pub EdgeInRange : Shape → Result Edge Fault → Type 0
EdgeInRange s (Ok e) = EdgeRanged s e.row e.column e.weight
EdgeInRange s (Err f) = Unit {0}

-- An edge is taken only where one is still to come.
abbrev pub Wanted : Bool → Result Edge Fault → Type 0
Wanted more (Ok e) = more ≡ true
Wanted more (Err f) = Unit {0}

-- What the line before a cursor brings.
abbrev pub next_of : Result Edge Fault → Cursor → Outcome (Option (Edge × Cursor))
next_of (Ok e) d = Ok (Some (e, d))
next_of (Err f) d = refuses f d.line

-- What reading the text s yields from the cursor c on, after the edges of g; and after the line before c, by what it did.
abbrev pub left : EdgeText → List ℕ → Cursor → Graph → Outcome Graph
left (EdgeText.Coordinates rules field) s c g = read_lines (graph_layout rules field) (c.line + 1) (reading g) (lines (drop c.at s))
left EdgeText.Assignment s c g = read_entries (c.line + 1) (joining g) (lines (drop c.at s))

abbrev pub left_after : EdgeText → List ℕ → Cursor → Step Graph → Outcome Graph
left_after what s c (goes g) = left what s c g
left_after what s c (stops f) = refuses f c.line

-- The next edge: in range, still to come, and the cursor after its line is further on.
pub record EdgeNext (what : EdgeText) (s : List ℕ) (c : Cursor) (g : Graph) (e : Edge) (d : Cursor) : Type 0 where
  pub reached : Reached s d
  pub onward : c.at < d.at
  pub more : length g.row < g.edges
  pub ranged : EdgeRanged (shape_of g) e.row e.column e.weight
  pub does : left what s c g ≡ left_after what s d (edge_says g (Ok e))

-- An answer tells what comes next.
abbrev pub NextAs : EdgeText → List ℕ → Cursor → Graph → Outcome (Option (Edge × Cursor)) → Type 0
NextAs what s c g (Ok (Some n)) = EdgeNext what s c g n.0 n.1
NextAs what s c g (Ok None) = left what s c g ≡ Ok g
NextAs what s c g (Err x) = left what s c g ≡ refuses x.fault x.place

-- The answer r is what o yields, and the three outputs hold its edges.
pub record GraphReading (o : Outcome Graph) (r : (Outcome Shape)) (row column : List ℕ) (weight : List ℤ) : Type 0 where
  pub says : r ≡ reported shape_of o
  pub rows : Holds most_edges 0 (λ (g : Graph). g.row) o row
  pub columns : Holds most_edges 0 (λ (g : Graph). g.column) o column
  pub weights : Holds most_edges (pos 0) (λ (g : Graph). g.weight) o weight
