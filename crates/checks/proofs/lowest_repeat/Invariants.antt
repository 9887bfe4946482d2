-- No edge so far has the ends of an earlier one, and the table shows the ends of those edges.
use Rattle.std.proofs.Common.{not, length, get_or}
use Rattle.checks.specs.Checks.{joined_in, Seen}
use Rattle.lowest.proofs.Scan.{KeptBelow}
use Rattle.checks.proofs.lowest_repeat.Given as goal

abbrev pub invariant-loop-e : goal.invariant-loop-e
invariant-loop-e l = record {
  kept : KeptBelow (length l.row) (λ k. not (joined_in l.row l.column k (get_or l.row k 0) (get_or l.column k 0))) l.e;
  seen : Seen l.flags l.row l.column l.e;
}
