use Rattle.graph_writer.proofs.Lines.{EdgesWriting}
use Rattle.graph_writer.proofs.put_graph.Given as goal

abbrev pub invariant-loop-e : goal.invariant-loop-e
invariant-loop-e l = EdgesWriting l.row l.column l.weight l.order l.initial.w l.w l.e-index
