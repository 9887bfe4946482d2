-- What is accepted can be doubled.
use Rattle.std.proofs.Common.{◌∙◌, sym, length}
use Rattle.graph.specs.Graph.{graph_of}
use Rattle.doubling.proofs.Tested.{general-passed}
use Rattle.general_pricer.proofs.price_general.Goals as goal

pub price_doubled-requires-clause-doublable : goal.price_doubled-requires-clause-doublable
price_doubled-requires-clause-doublable c =
    let a = c.args in
    (general-passed (graph_of a.s a.row.now a.column.now a.weight.now) a.bound.now (length a.vertex_price.now) (length a.edge_price.now)
    (sym c.check_general-check.ensures ∙ c.in_ok-check.was)).doublable

pub price_doubled-requires-clause-bounded : goal.price_doubled-requires-clause-bounded
price_doubled-requires-clause-bounded c =
    let a = c.args in
    (general-passed (graph_of a.s a.row.now a.column.now a.weight.now) a.bound.now (length a.vertex_price.now) (length a.edge_price.now)
    (sym c.check_general-check.ensures ∙ c.in_ok-check.was)).bounded

pub price_doubled-requires-clause-vertex_price_len : goal.price_doubled-requires-clause-vertex_price_len
price_doubled-requires-clause-vertex_price_len c =
    let a = c.args in
    let P = general-passed (graph_of a.s a.row.now a.column.now a.weight.now) a.bound.now (length a.vertex_price.now) (length a.edge_price.now)
    (sym c.check_general-check.ensures ∙ c.in_ok-check.was) in
    (c.fill.auto.out ∙ P.vertex_long, c.fill-2.auto.out ∙ P.edge_long)
