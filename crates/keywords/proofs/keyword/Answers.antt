use Rattle.keywords.proofs.Words.{taken-missing, taken}
use Rattle.keywords.proofs.keyword.Goals as goal

pub returns-in_err-w : goal.returns-in_err-w
returns-in_err-w c = rw (c.in_ok-at.was, c.from_residual-in_err-w.ensures) (taken-missing _ _ _ c.in_err-w.ensures)

pub returns : goal.returns
returns c = rw (c.in_ok-at.was, c.then_some.ensures) (taken _ _ _ c.in_ok-w.ensures _ c.same_folded.ensures)
