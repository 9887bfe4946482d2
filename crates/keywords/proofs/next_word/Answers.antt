use Rattle.std.proofs.Common.{arith}
use Rattle.std.proofs.lemmas.Bool.Decides.{nat_tests}
use Rattle.keywords.proofs.Words.{none_left, word_left}
use Rattle.keywords.proofs.next_word.Goals as goal

pub returns-then-is_empty : goal.returns-then-is_empty
returns-then-is_empty c =
    none_left _ c.args.at c.skip_blanks-start.ensures.place c.word-w.ensures.part (grind (arith, nat_tests))

pub returns : goal.returns
returns c =
    word_left _ c.args.at c.skip_blanks-start.ensures.place c.word-w.ensures.part (grind (arith, nat_tests)) c.word-w.ensures.bounded
