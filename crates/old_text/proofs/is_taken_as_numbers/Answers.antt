-- By the count that the size line tells, or where it tells none.
use Rattle.std.proofs.Common.{◌∙◌, rules}
use Rattle.old_text.proofs.Taken.{untold, too_many, read_as_prices}
use Rattle.old_text.proofs.is_taken_as_numbers.Goals as goal

pub returns-in_default : goal.returns-in_default
returns-in_default c = untold c.args.text.now c.told_count.ensures c.in_default.is

pub returns-then-count : goal.returns-then-count
returns-then-count c = too_many c.args.text.now c.told_count.ensures c.in-Some.is c.if-count.true

pub returns : goal.returns
returns c = c.is_ok.ensures.value ∙ read_as_prices c.args.text.now c.told_count.ensures c.in-Some.is (search rules) c.read_numbers_by.result c.read_numbers_by.ensures.answer
