-- What is returned, told and left is what the reader of assignment texts answers.
use Rattle.jangoripu.proofs.Told.{graph-read}
use Rattle.jangoripu.proofs.jangoripu_read_assignment.Goals as goal

pub returns : goal.returns
returns c =
    let read = c.read_assignment-told.ensures in
    record { graph = graph-read c.read_assignment-told.result read.answer read.rows read.columns read.weights c.tell_shape.ensures; bounds = read.bounds }
