use Rattle.std.proofs.Common.{length}
use Rattle.graph.specs.Graph.{graph_of}
use Rattle.layout.specs.AssignmentText.{arc_lines}
use Rattle.writer.proofs.Writing.{LinesWriting}
use Rattle.assignment_writer.proofs.put_arcs.Given as goal

abbrev pub invariant-loop-e : goal.invariant-loop-e
invariant-loop-e l = LinesWriting (arc_lines (graph_of l.s l.row l.column l.weight)) (length l.row) 19 64 l.initial.w l.w l.e
