-- The output has the marks of the edges that came. The measure is what is left of the text.
use Rattle.std.proofs.Common.{[], length, ◌+◌, ◌-◌}
use Rattle.graph.specs.Graph.{graph_of}
use Rattle.subgraph_reader.proofs.Marks.{MarkTurn}
use Rattle.subgraph_reader.proofs.read_marks.Given as goal

abbrev pub invariant-loop-line : goal.invariant-loop-line
invariant-loop-line l = MarkTurn (graph_of l.s l.row l.column []) l.text l.count l.chosen l.c l.came

abbrev pub decreases-loop-line : goal.decreases-loop-line
decreases-loop-line l = length l.text + 1 - l.c.at
