-- What is returned, told and left is what the writer answers.
use Rattle.jangoripu.proofs.Told.{text_written}
use Rattle.jangoripu.proofs.jangoripu_tidy_graph.Goals as goal

pub returns : goal.returns
returns c =
    let written = c.tidy_graph-told.ensures in
    let given = c.shape_given-s.ensures in
    rw (← given.0, ← given.1, ← given.2, ← given.3)
    (text_written c.tidy_graph-told.result written.answer written.text c.tell_text.ensures)
