-- What is returned, told and left is what the writer answers.
use Rattle.jangoripu.proofs.Told.{text_written}
use Rattle.jangoripu.proofs.jangoripu_write_subgraph.Goals as goal

pub returns : goal.returns
returns c =
    let written = c.write_subgraph-told.ensures in
    let given = c.shape_given-s.ensures in
    rw (← given.0, ← given.1, ← given.2, ← given.3)
    (text_written c.write_subgraph-told.result written.answer written.text c.tell_text.ensures)
