use Rattle.writer.proofs.Subgraph.{ChosenWriting}
use Rattle.writer.proofs.put_subgraph.Given as goal

abbrev pub invariant-loop-e : goal.invariant-loop-e
invariant-loop-e l = ChosenWriting l.row l.column l.chosen l.initial.w l.w l.e
