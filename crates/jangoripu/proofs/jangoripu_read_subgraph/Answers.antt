-- What is returned, told and left is what the reader of subgraphs answers.
use Rattle.jangoripu.proofs.Told.{filling_told}
use Rattle.jangoripu.proofs.jangoripu_read_subgraph.Goals as goal

pub returns : goal.returns
returns c =
    let read = c.read_subgraph-told.ensures in
    let given = c.shape_given-s.ensures in
    rw (← given.0, ← given.1, ← given.2, ← given.3)
    (filling_told c.read_subgraph-told.result read.answer read.marks c.tell.ensures)
