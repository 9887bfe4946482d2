-- The output is cleared, and again after a refusal.
use Rattle.std.proofs.Common.{sym, ◌∙◌, rules}
use Rattle.number_reader.proofs.Whole.{tested, whole_lent, lent_cleared, answered, whole_read, whole_refused}
use Rattle.number_reader.proofs.read_numbers_by.Goals as goal

pub returns-in_err-check_text-clause-answer : goal.returns-in_err-check_text-clause-answer
returns-in_err-check_text-clause-answer c =
    (whole_lent c.args.what (tested c.fill.ensures c.count_in_range.ensures c.check_text.ensures)
    c.in_err-check_text.was {y = c.from_residual.result} (search rules) c.fill.ensures).0

pub returns-in_err-check_text-clause-numbers : goal.returns-in_err-check_text-clause-numbers
returns-in_err-check_text-clause-numbers c =
    (whole_lent c.args.what (tested c.fill.ensures c.count_in_range.ensures c.check_text.ensures)
    c.in_err-check_text.was {y = c.from_residual.result} (search rules) c.fill.ensures).1

pub read_number_lines-read-requires : goal.read_number_lines-read-requires
read_number_lines-read-requires c =
    lent_cleared c.args.what (tested c.fill.ensures c.count_in_range.ensures c.check_text.ensures) c.in_ok-check_text.was c.fill.ensures

pub returns-then-is_err-clause-answer : goal.returns-then-is_err-clause-answer
returns-then-is_err-clause-answer c =
    answered c.args.what (tested c.fill.ensures c.count_in_range.ensures c.check_text.ensures)
    c.in_ok-check_text.was _ c.read_number_lines-read.ensures

pub returns-then-is_err-clause-numbers : goal.returns-then-is_err-clause-numbers
returns-then-is_err-clause-numbers c =
    whole_refused c.args.what (tested c.fill.ensures c.count_in_range.ensures c.check_text.ensures)
    c.in_ok-check_text.was _ c.read_number_lines-read.ensures (sym c.is_err.ensures.value ∙ c.if-is_err.true) (search rules)

pub returns-else-is_err-clause-answer : goal.returns-else-is_err-clause-answer
returns-else-is_err-clause-answer c =
    answered c.args.what (tested c.fill.ensures c.count_in_range.ensures c.check_text.ensures)
    c.in_ok-check_text.was _ c.read_number_lines-read.ensures

pub returns-else-is_err-clause-numbers : goal.returns-else-is_err-clause-numbers
returns-else-is_err-clause-numbers c =
    whole_read c.args.what (tested c.fill.ensures c.count_in_range.ensures c.check_text.ensures)
    c.in_ok-check_text.was _ c.read_number_lines-read.ensures (sym c.is_err.ensures.value ∙ c.if-is_err.false)
