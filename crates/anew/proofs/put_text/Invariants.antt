-- The lines before the cursor are written; the measure is what is left of the text.
use Rattle.std.proofs.Common.{length, ◌+◌, ◌-◌}
use Rattle.anew.proofs.Loops.{TextTurn}
use Rattle.anew.proofs.put_text.Given as goal

abbrev pub invariant-loop-found : goal.invariant-loop-found
invariant-loop-found l = TextTurn l.fn.w l.s l.w l.begun l.c

abbrev pub decreases-loop-found : goal.decreases-loop-found
decreases-loop-found l = length l.s + 1 - l.c.at
