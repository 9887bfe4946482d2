-- What is returned, told and left is what the reader of graphs answers.
use Rattle.jangoripu.proofs.Told.{graph-read}
use Rattle.jangoripu.proofs.jangoripu_read_graph.Goals as goal

pub returns : goal.returns
returns c =
    let read = c.read_graph-told.ensures in
    graph-read c.read_graph-told.result read.answer read.rows read.columns read.weights c.tell_shape.ensures
