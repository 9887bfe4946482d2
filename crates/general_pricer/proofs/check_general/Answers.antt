-- The tests of a graph with bounds first, and then that the graph is doubled.
use Rattle.std.proofs.Common.{◌∙◌, ap, Err}
use Rattle.std.proofs.lemmas.Result.{err_from_is_err_and}
use mathlib.Core.Bool.{◌&&◌}
use lib.Dec.{eqb}
use Rattle.graph.specs.Graph.{graph_of}
use Rattle.general_pricer.proofs.Tested.{bounded_refused, doubled-last}
use Rattle.general_pricer.proofs.check_general.Goals as goal

pub returns-in_err-check_bounded : goal.returns-in_err-check_bounded
returns-in_err-check_bounded c =
    let a = c.args in
    let told = c.both-others.ensures ∙ ap (λ n. eqb a.vertex n && eqb a.edge a.s.edges) c.vertex_count-n.ensures in
    let p = err_from_is_err_and c.from_residual.result c.from_residual.ensures.1 in
    p.1 ∙ ap Err p.2 ∙ bounded_refused (graph_of a.s a.row.now a.column.now a.weight.now) a.bound.now a.vertex a.edge told c.check_bounded.ensures c.in_err-check_bounded.was

pub returns : goal.returns
returns c =
    let a = c.args in
    let told = c.both-others.ensures ∙ ap (λ n. eqb a.vertex n && eqb a.edge a.s.edges) c.vertex_count-n.ensures in
    doubled-last (graph_of a.s a.row.now a.column.now a.weight.now) a.bound.now a.vertex a.edge told c.check_bounded.ensures c.in_ok-check_bounded.was c.can_double.ensures c.check_once.ensures
