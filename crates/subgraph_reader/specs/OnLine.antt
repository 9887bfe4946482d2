-- What the subgraph reader's tests and lines do, and what its answer and its output are while it reads.
use Rattle.graph.specs.declared.Fault.{Fault}
use Rattle.graph.specs.Refusal.{Outcome}
use Rattle.std.specs.Prelude.{ℕ, ◌+◌, ◌<◌, ◌≡◌, List, length, set, replicate, Ok, Err, Result}
use Rattle.graph.specs.declared.Shape.{Shape}
use Rattle.graph.specs.Refusal.{reported}
use Rattle.graph.specs.Graph.{Graph}
use Rattle.graph.specs.Passed.{Sound}
use Rattle.layout.specs.declared.Rules.TheVariants.{New}
use Rattle.layout.specs.Lines.{Step, goes, stops, read_text}
use Rattle.layout.specs.SubgraphText.{Marked, subgraph_layout}
use Rattle.lent.specs.Holding.{Holds}
use Rattle.cells.specs.Cells.{CellsHold}

-- What has been read when, of a number of chosen edges, some came, and the marks are these.
abbrev pub so_far : ℕ → ℕ → List ℕ → Marked
so_far count came marks = record { count = count; came = came; marks = marks }

-- What a size line does, where the graph has m edges.
abbrev pub chosen_says : ℕ → (Result ℕ Fault) → Step Marked
chosen_says m (Ok count) = goes (so_far count 0 (replicate m 0))
chosen_says m (Err f) = stops f

-- What a later line does: one more edge is chosen.
abbrev pub with_mark : Marked → ℕ → Marked
with_mark b e = so_far b.count (b.came + 1) (set b.marks e 1)

abbrev pub choice_says : Marked → (Result ℕ Fault) → Step Marked
choice_says b (Ok e) = goes (with_mark b e)
choice_says b (Err f) = stops f

-- An edge that a line names is one of m.
abbrev pub ChoiceInside : ℕ → (Result ℕ Fault) → Type 0
ChoiceInside m (Ok e) = e < m
ChoiceInside m (Err f) = Unit {0}

-- The cells of the edges of a graph of a shape, whose rows and columns the code that looks an edge up does not have.
pub record Celled (s : Shape) (cells : List ℕ) : Type 0 where
  pub row : List ℕ
  pub column : List ℕ
  pub sound : Sound s row column
  pub holds : CellsHold row column cells (length row)

-- The answer r is what reading the text s of a subgraph of g yields, and the output holds it.
pub record SubgraphReading (g : Graph) (s : List ℕ) (r : (Outcome (Unit {0}))) (out : List ℕ) : Type 0 where
  pub says : r ≡ reported (λ x. tt) (read_text (subgraph_layout New g) s)
  pub holds : Holds g.edges 0 (λ x. x) (read_text (subgraph_layout New g) s) out
