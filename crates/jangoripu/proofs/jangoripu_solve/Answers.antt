-- What is returned, told and left is what the solver answers.
use Rattle.jangoripu.proofs.Told.{graph_solved}
use Rattle.jangoripu.proofs.jangoripu_solve.Goals as goal

pub returns : goal.returns
returns c =
    let done = c.solve-told.ensures in
    let given = c.shape_given-s.ensures in
    rw (← given.0, ← given.1, ← given.2, ← given.3)
    (graph_solved c.solve-told.result done.result_value done.left c.tell.ensures)
