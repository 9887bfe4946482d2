-- The measuring call is lent the prices in two parts, so what it answers is what the stage comes to.
use Rattle.graph.specs.Graph.{graph_of}
use Rattle.mark.proofs.Stages.{prices_composed}
use Rattle.mark.proofs.output.mark_prices.Goals as goal

pub returns : goal.returns
returns c =
    let a = c.args in
    let parts = c.split_at.ensures in
    prices_composed (graph_of a.s a.row.now a.column.now a.weight.now) a.bound.now a.chosen.now a.price.now c.vertex_count-n.ensures parts.front parts.back
    c.measure-answer.ensures c.put_measured.ensures
