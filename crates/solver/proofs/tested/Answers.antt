-- The tests of a bipartite graph with bounds first, and then that of the index.
use Rattle.std.proofs.Common.{◌∙◌, ap, Err}
use Rattle.std.proofs.lemmas.Result.{err_from_is_err_and}
use Rattle.graph.specs.Graph.{graph_of}
use Rattle.dual.specs.Solve.{lent_of}
use Rattle.solver.proofs.Refusing.{first_refused, indexable, index_last}
use Rattle.solver.proofs.tested.Goals as goal

pub returns-in_err-check_bipartite : goal.returns-in_err-check_bipartite
returns-in_err-check_bipartite c =
    let a = c.args in
    let l = a.outputs in
    let p = err_from_is_err_and c.from_residual.result c.from_residual.ensures.1 in
    p.1 ∙ ap Err p.2
    ∙ first_refused (graph_of a.s a.row.now a.column.now a.weight.now) a.bound.now a.index.now (lent_of l.chosen l.vertex l.edge l.workspace)
    c.outputs_match-others.ensures c.check_bipartite.ensures c.in_err-check_bipartite.was

pub check_places-requires-clause-sound : goal.check_places-requires-clause-sound
check_places-requires-clause-sound c =
    let a = c.args in
    let l = a.outputs in
    (indexable (graph_of a.s a.row.now a.column.now a.weight.now) a.bound.now a.index.now (lent_of l.chosen l.vertex l.edge l.workspace)
    c.outputs_match-others.ensures c.check_bipartite.ensures c.in_ok-check_bipartite.was).0

pub returns : goal.returns
returns c =
    let a = c.args in
    let l = a.outputs in
    index_last (graph_of a.s a.row.now a.column.now a.weight.now) a.bound.now a.index.now (lent_of l.chosen l.vertex l.edge l.workspace)
    c.outputs_match-others.ensures c.check_bipartite.ensures c.in_ok-check_bipartite.was c.check_places.ensures
