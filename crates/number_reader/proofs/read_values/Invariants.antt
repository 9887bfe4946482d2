-- The output holds the numbers read so far. The measure is what is left of the text.
use Rattle.std.proofs.Common.{length, ◌+◌, ◌-◌}
use Rattle.number_reader.proofs.Values.{NumberTurn}
use Rattle.number_reader.proofs.read_values.Given as goal

abbrev pub invariant-loop-line : goal.invariant-loop-line
invariant-loop-line l = NumberTurn l.rules l.what l.count l.text l.out l.c l.i

abbrev pub decreases-loop-line : goal.decreases-loop-line
decreases-loop-line l = length l.text + 1 - l.c.at
