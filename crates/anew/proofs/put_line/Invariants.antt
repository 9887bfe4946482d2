-- What is before the word is written anew, and what is left stands for the rest.
use Rattle.std.proofs.Common.{length, ◌-◌, drop}
use Rattle.layout.specs.Rewrite.{line_anew}
use Rattle.anew.proofs.Turn.{Turn}
use Rattle.anew.proofs.put_line.Given as goal

abbrev pub invariant-loop-i : goal.invariant-loop-i
invariant-loop-i l = Turn l.fn.w l.line (line_anew l.line) (line_anew (drop l.i l.line)) l.w l.i

abbrev pub decreases-loop-i : goal.decreases-loop-i
decreases-loop-i l = length l.line - l.i
