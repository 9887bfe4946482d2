-- Each return is what the tests yield where the first that refuses is that one.
use Rattle.std.proofs.Common.{◌∙◌, ap, Err, arith}
use Rattle.std.proofs.lemmas.Result.{err_from_is_err_and}
use Rattle.graph.specs.Graph.{graph_of}
use Rattle.subgraph_writer.proofs.Tested.{numbers_refused, numbers_passed, mark_few, mark_refused, marks_kept}
use Rattle.subgraph_writer.proofs.check_marks.Goals as goal

pub returns-in_err-check_lent : goal.returns-in_err-check_lent
returns-in_err-check_lent c =
    let a = c.args in
    let p = err_from_is_err_and c.from_residual.result c.from_residual.ensures.1 in
    p.1 ∙ ap Err p.2
    ∙ numbers_refused (graph_of a.s a.row.now a.column.now a.weight.now) a.chosen.now a.out c.both-others.ensures c.check_lent.ensures c.in_err-check_lent.was

-- Where the lengths and the graph's numbers have passed.
pub refused_item-requires : goal.refused_item-requires
refused_item-requires c =
    let a = c.args in
    let left = numbers_passed (graph_of a.s a.row.now a.column.now a.weight.now) a.chosen.now a.out c.both-others.ensures c.check_lent.ensures c.in_ok-check_lent.was in
    omega (arith, mark_few left c.lowest_mark.ensures c.in-Some.is)

pub returns-in-Some : goal.returns-in-Some
returns-in-Some c =
    let a = c.args in
    let left = numbers_passed (graph_of a.s a.row.now a.column.now a.weight.now) a.chosen.now a.out c.both-others.ensures c.check_lent.ensures c.in_ok-check_lent.was in
    c.refused_item.ensures ∙ mark_refused left c.lowest_mark.ensures c.in-Some.is

pub returns : goal.returns
returns c =
    let a = c.args in
    let left = numbers_passed (graph_of a.s a.row.now a.column.now a.weight.now) a.chosen.now a.out c.both-others.ensures c.check_lent.ensures c.in_ok-check_lent.was in
    marks_kept left c.lowest_mark.ensures c.in_default.is
