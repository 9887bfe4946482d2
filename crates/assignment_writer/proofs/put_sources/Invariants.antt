use Rattle.layout.specs.AssignmentText.{source_lines}
use Rattle.writer.proofs.Writing.{LinesWriting}
use Rattle.assignment_writer.proofs.put_sources.Given as goal

abbrev pub invariant-loop-v : goal.invariant-loop-v
invariant-loop-v l = LinesWriting source_lines l.rows 6 32 l.initial.w l.w l.v
