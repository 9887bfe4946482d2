use Rattle.std.proofs.Common.{◌∙◌}
use Rattle.keywords.proofs.Same.{same-is}
use Rattle.keywords.proofs.same_word.Goals as goal

pub returns : goal.returns
returns c = c.eq.ensures ∙ same-is _ _
