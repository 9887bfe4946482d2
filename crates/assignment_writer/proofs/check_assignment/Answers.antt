-- Each return is what the tests yield where the first that refuses is that one.
use Rattle.std.proofs.Common.{◌∙◌, ap, Err}
use Rattle.std.proofs.lemmas.Result.{err_from_is_err_and}
use Rattle.graph.specs.Graph.{graph_of}
use Rattle.assignment_writer.proofs.Tested.{first_refused, bound_among, bound_refused, all_passed}
use Rattle.assignment_writer.proofs.check_assignment.Goals as goal

pub returns-in_err-check_bipartite : goal.returns-in_err-check_bipartite
returns-in_err-check_bipartite c =
    let a = c.args in
    let p = err_from_is_err_and c.from_residual.result c.from_residual.ensures.1 in
    p.1 ∙ ap Err p.2
    ∙ first_refused (graph_of a.s a.row.now a.column.now a.weight.now) a.bound.now a.out c.check_bipartite.ensures c.in_err-check_bipartite.was

pub refused_item-requires : goal.refused_item-requires
refused_item-requires c =
    let a = c.args in
    bound_among (graph_of a.s a.row.now a.column.now a.weight.now) a.bound.now a.out c.check_bipartite.ensures c.in_ok-check_bipartite.was
    c.lowest_not_one.ensures c.in-Some.is

pub returns-in-Some : goal.returns-in-Some
returns-in-Some c =
    let a = c.args in
    c.refused_item.ensures
    ∙ bound_refused (graph_of a.s a.row.now a.column.now a.weight.now) a.bound.now a.out c.check_bipartite.ensures c.in_ok-check_bipartite.was
    c.lowest_not_one.ensures c.in-Some.is

pub returns : goal.returns
returns c =
    let a = c.args in
    all_passed (graph_of a.s a.row.now a.column.now a.weight.now) a.bound.now a.out c.check_bipartite.ensures c.in_ok-check_bipartite.was
    c.lowest_not_one.ensures c.in_default.is
