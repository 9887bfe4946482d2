-- Reading goes on from the cursor with the source nodes so far. The measure is what is left of the text.
use Rattle.std.proofs.Common.{length, ◌+◌, ◌-◌}
use Rattle.assignment_reader.proofs.Sources.{SourceTurn}
use Rattle.assignment_reader.proofs.find_sources.Given as goal

abbrev pub invariant-loop-line : goal.invariant-loop-line
invariant-loop-line l = SourceTurn l.text l.arcs l.initial.c l.c l.rows

abbrev pub decreases-loop-line : goal.decreases-loop-line
decreases-loop-line l = length l.text + 1 - l.c.at
