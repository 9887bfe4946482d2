-- The first tests, and then the later ones.
use Rattle.std.proofs.Common.{◌∙◌}
use Rattle.std.proofs.lemmas.Result.{err_from_is_err_and}
use Rattle.graph.specs.Graph.{graph_of}
use Rattle.dual.specs.Prices.{prices_of}
use Rattle.measure.proofs.Shown.{shown, first_refused, later_decide}
use Rattle.measure.proofs.measure.Goals as goal

pub returns-in_err-check_subgraph : goal.returns-in_err-check_subgraph
returns-in_err-check_subgraph c =
    let a = c.args in
    let g = graph_of a.s a.row.now a.column.now a.weight.now in
    let P = prices_of a.vertex_price.now a.edge_price.now a.sets a.set_price.now a.set_vertices.now a.set_edges.now in
    let r = c.check_subgraph in
    let p = err_from_is_err_and c.from_residual.result c.from_residual.ensures.1 in
    rw (p.1, p.2) (first_refused g a.bound.now a.chosen.now P r.result c.others_match-others.ensures r.ensures c.in_err-check_subgraph.was)

pub measure_passed-requires : goal.measure_passed-requires
measure_passed-requires c =
    let a = c.args in
    let g = graph_of a.s a.row.now a.column.now a.weight.now in
    let P = prices_of a.vertex_price.now a.edge_price.now a.sets a.set_price.now a.set_vertices.now a.set_edges.now in
    let r = c.check_subgraph in
    shown g a.bound.now a.chosen.now P r.result c.others_match-others.ensures r.ensures c.in_ok-check_subgraph.was

pub returns : goal.returns
returns c =
    let a = c.args in
    let g = graph_of a.s a.row.now a.column.now a.weight.now in
    let P = prices_of a.vertex_price.now a.edge_price.now a.sets a.set_price.now a.set_vertices.now a.set_edges.now in
    let r = c.check_subgraph in
    c.measure_passed.ensures ∙ later_decide g a.bound.now a.chosen.now P r.result c.others_match-others.ensures r.ensures c.in_ok-check_subgraph.was
