-- The answers of the three functions, in their order.
use Rattle.std.proofs.Common.{arith}
use Rattle.std.proofs.lemmas.Grind.{common_steps}
use Rattle.old_text.proofs.Taken.{taken-graph, taken-numbers-only}
use Rattle.old_text.proofs.is_taken.Goals as goal

pub returns-then-is_taken_as-2 : goal.returns-then-is_taken_as-2
returns-then-is_taken_as-2 c = taken-graph c.args.text.now (grind (arith, common_steps)) c.if-is_taken_as-2.true

pub returns-else-is_taken_as-2 : goal.returns-else-is_taken_as-2
returns-else-is_taken_as-2 c =
    taken-numbers-only c.args.text.now {v = c.if-is_taken_as.value} (grind (arith, common_steps)) c.if-is_taken_as-2.false c.is_taken_as_numbers.ensures
