-- `rewrite` clears the buffer, and writes where there is room.
use Rattle.std.proofs.Common.{rules}
use Rattle.layout.specs.Rewrite.{rewrite_output}
use Rattle.report.proofs.Parts.{no_room, text_composed, composed_inside}
use Rattle.rewrite.proofs.output.rewrite_output.Goals as goal

pub returns-then-w-lt-LONGEST_TEXT : goal.returns-then-w-lt-LONGEST_TEXT
returns-then-w-lt-LONGEST_TEXT c =
    let C = no_room 32768 (rewrite_output c.args.text.now) c.args.out.now c.cleared-w.ensures.zeros c.if-w-lt-LONGEST_TEXT.true (search rules) in
    record { inside = composed_inside C; composed = C }

pub returns : goal.returns
returns c =
    let C = text_composed 32768 (rewrite_output c.args.text.now) c.args.out.now c.cleared-w.ensures.zeros c.cleared-w.ensures.start
    c.if-w-lt-LONGEST_TEXT.false c.put_anew.ensures (search rules) in
    record { inside = composed_inside C; composed = C }
