-- What the graph reader's size line does.
use Rattle.graph.specs.declared.Shape.{Shape}
use Rattle.graph.specs.declared.Fault.{Fault}
use Rattle.std.specs.Prelude.{◌≡◌, true, Ok, Err, Result}
use Rattle.graph.specs.Graph.{Graph, shape_in_range}
use Rattle.layout.specs.Lines.{Step, goes, stops}
use Rattle.layout.specs.GraphText.{no_edges}

abbrev pub shape_says : Result Shape Fault → Step Graph
shape_says (Ok s) = goes (no_edges s)
shape_says (Err f) = stops f

abbrev pub ShapeInRange : Result Shape Fault → Type 0
ShapeInRange (Ok s) = shape_in_range s ≡ true
ShapeInRange (Err f) = Unit {0}
