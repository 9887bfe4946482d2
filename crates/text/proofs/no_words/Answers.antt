use Rattle.std.proofs.Common.{nat_eq, length, ap, ◌∙◌}
use Rattle.text.proofs.Pieces.{no_words-is}
use Rattle.text.proofs.no_words.Goals as goal

pub returns : goal.returns
returns c = ap (λ k. nat_eq k (length c.args.line.now)) c.skip_blanks.ensures.place ∙ no_words-is _ _ c.requires
