use Rattle.std.proofs.Common.{true, false, sym, ◌∙◌}
use Rattle.numerals.proofs.Digits.{natural-by}
use Rattle.numerals.proofs.read_natural.Goals as goal

pub returns-then-is_zero_refused : goal.returns-then-is_zero_refused
returns-then-is_zero_refused c = natural-by _ _ true (sym c.if-is_zero_refused.true ∙ c.is_zero_refused.ensures)

pub returns : goal.returns
returns c = c.read_numeral.ensures ∙ natural-by _ _ false (sym c.if-is_zero_refused.false ∙ c.is_zero_refused.ensures)
