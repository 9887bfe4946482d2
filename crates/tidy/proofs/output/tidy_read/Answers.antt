-- The text that the call has written, or the line of its refusal.
use Rattle.graph.specs.Graph.{graph_of}
use Rattle.layout.specs.TidyText.{tidy_graph}
use Rattle.problem_reader.proofs.Texts.{text_left, refusal_left}
use Rattle.tidy.proofs.output.tidy_read.Goals as goal

pub returns-in-Ok : goal.returns-in-Ok
returns-in-Ok c =
    let a = c.args in
    let done = c.tidy_graph.ensures in
    text_left (tidy_graph (graph_of a.s a.row.now a.column.now a.weight.now)) c.requires done.answer c.in-Ok.is done.text

pub returns-in-Err : goal.returns-in-Err
returns-in-Err c =
    let a = c.args in
    let d = c.tidy_graph in
    refusal_left (tidy_graph (graph_of a.s a.row.now a.column.now a.weight.now)) c.requires d.ensures.answer c.in-Err.is d.auto.out c.put_refused.ensures
