use Rattle.number_writer.proofs.Lines.{ValuesWriting}
use Rattle.number_writer.proofs.put_values.Given as goal

abbrev pub invariant-loop-value : goal.invariant-loop-value
invariant-loop-value l = ValuesWriting l.values l.initial.w l.w l.value-index
