use Rattle.keywords.proofs.Words.{first-missing, first-by}
use Rattle.keywords.proofs.first_word.Goals as goal

pub returns-in_err-w : goal.returns-in_err-w
returns-in_err-w c = rw c.from_residual.ensures (first-missing _ _ c.in_err-w.ensures)

pub returns : goal.returns
returns c = rw c.then_some.ensures (first-by _ _ c.in_ok-w.ensures _ c.same_word.ensures)
