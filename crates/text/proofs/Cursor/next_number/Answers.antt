use Rattle.std.proofs.Common.{sym, ◌∙◌}
use Rattle.text.proofs.Pieces.{word_is, word_past}
use Rattle.text.proofs.Shapes.{next-is, next-bad}
use Rattle.text.proofs.Cursor.next_number.Goals as goal

pub returns-in_err-value : goal.returns-in_err-value
returns-in_err-value g c =
    c.from_residual.ensures
    ∙ next-bad _ _ c.args.self _ (word_is _ _ c.skip_blanks-start.ensures.place c.word-w.ensures.part) (sym c.in_err-value.ensures)

pub returns : goal.returns
returns g c =
    next-is _ _ c.args.self _ (word_is _ _ c.skip_blanks-start.ensures.place c.word-w.ensures.part) _ (sym c.in_ok-value.ensures) _
    (word_past _ _ c.skip_blanks-start.ensures.place c.word-w.ensures.part)
