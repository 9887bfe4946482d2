-- `entry_on` goes by the letter that begins the line.
use Rattle.std.proofs.Common.{sym, ◌∙◌}
use Rattle.entries.proofs.Lines.{entry_blank, letter_p, letter_n, letter_a, letter_other}
use Rattle.entries.proofs.entry_on.Goals as goal

pub returns-then-not-word_first : goal.returns-then-not-word_first
returns-then-not-word_first c = entry_blank c.args.line.now (sym c.word_first.ensures ∙ c.if-not-word_first.true)

pub returns-then-is_letter : goal.returns-then-is_letter
returns-then-is_letter c =
    letter_p c.args.line.now (sym c.word_first.ensures ∙ c.if-not-word_first.false) c.skip_blanks-start.ensures.place c.word-letter.ensures.part
    (sym c.is_letter.ensures ∙ c.if-is_letter.true) c.problem_on.ensures

pub returns-then-is_letter-2 : goal.returns-then-is_letter-2
returns-then-is_letter-2 c =
    letter_n c.args.line.now (sym c.word_first.ensures ∙ c.if-not-word_first.false) c.skip_blanks-start.ensures.place c.word-letter.ensures.part
    (sym c.is_letter.ensures ∙ c.if-is_letter.false) (sym c.is_letter-else-is_letter.ensures ∙ c.if-is_letter-2.true) c.source_on.ensures

pub returns-then-is_letter-3 : goal.returns-then-is_letter-3
returns-then-is_letter-3 c =
    letter_a c.args.line.now (sym c.word_first.ensures ∙ c.if-not-word_first.false) c.skip_blanks-start.ensures.place c.word-letter.ensures.part
    (sym c.is_letter.ensures ∙ c.if-is_letter.false) (sym c.is_letter-else-is_letter.ensures ∙ c.if-is_letter-2.false)
    (sym c.is_letter-else-is_letter-2.ensures ∙ c.if-is_letter-3.true) c.arc_on.ensures

pub returns-else-is_letter-3 : goal.returns-else-is_letter-3
returns-else-is_letter-3 c =
    letter_other c.args.line.now (sym c.word_first.ensures ∙ c.if-not-word_first.false) c.skip_blanks-start.ensures.place c.word-letter.ensures.part
    (sym c.is_letter.ensures ∙ c.if-is_letter.false) (sym c.is_letter-else-is_letter.ensures ∙ c.if-is_letter-2.false)
    (sym c.is_letter-else-is_letter-2.ensures ∙ c.if-is_letter-3.false)
