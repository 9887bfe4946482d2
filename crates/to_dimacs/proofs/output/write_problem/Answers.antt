-- The text that the call has written, or the line of its refusal.
use Rattle.graph.specs.Graph.{graph_of}
use Rattle.layout.specs.AssignmentText.{write_assignment}
use Rattle.problem_reader.proofs.Texts.{text_left, refusal_left}
use Rattle.to_dimacs.proofs.output.write_problem.Goals as goal

pub returns-in-Ok : goal.returns-in-Ok
returns-in-Ok c =
    let a = c.args in
    let done = c.write_assignment.ensures in
    text_left (write_assignment (graph_of a.s a.row.now a.column.now a.weight.now) a.bound.now) c.requires done.answer c.in-Ok.is done.text

pub returns-in-Err : goal.returns-in-Err
returns-in-Err c =
    let a = c.args in
    let d = c.write_assignment in
    refusal_left (write_assignment (graph_of a.s a.row.now a.column.now a.weight.now) a.bound.now) c.requires d.ensures.answer c.in-Err.is d.auto.out
    c.put_refused.ensures
