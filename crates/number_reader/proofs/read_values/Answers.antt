-- Each line that is met tells one number more, or is refused.
use Rattle.std.proofs.Common.{arith, rules}
use Rattle.std.proofs.lemmas.Int.{ints}
use Rattle.std.proofs.lemmas.Grind.{common_steps}
use Rattle.number_reader.proofs.Values.{turn_refused, turn_stops, turn_takes, turn_done}
use Rattle.number_reader.proofs.read_values.Goals as goal

pub returns-in_err-line : goal.returns-in_err-line
returns-in_err-line c = turn_refused c.loop-line.invariant c.in_err-line.ensures (search rules)

pub returns-in_err-value : goal.returns-in_err-value
returns-in_err-value c =
    turn_stops c.loop-line.invariant (rw c.in-Some.is at c.in_ok-line.ensures) c.number_on.result c.number_on.ensures.says {x = c.in_err-value.field-0.0} (grind (arith, common_steps)) (search rules)

pub loop-line-preserved : goal.loop-line-preserved
loop-line-preserved c =
    turn_takes c.loop-line.invariant (rw c.in-Some.is at c.in_ok-line.ensures) c.number_on.result c.number_on.ensures.says {z = c.in_ok-value.value} (grind (arith, common_steps)) (omega (arith, ints))

pub returns : goal.returns
returns c = turn_done c.loop-line.invariant (rw c.in_default.is at c.in_ok-line.ensures)
