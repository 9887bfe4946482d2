-- The first prices fit no edge chosen, serving keeps that, and its end is a solution.
use Rattle.std.proofs.Common.{arith}
use Rattle.graph.specs.Limits.{most_vertices}
use Rattle.graph.specs.Graph.{graph_of}
use Rattle.method.proofs.Solvable.{few}
use Rattle.arcs.proofs.Rows.{bounds_kept}
use Rattle.optimiser.proofs.Start.{zero_entries, bounds_in, table_same, nothing_meets, begun}
use Rattle.optimiser.proofs.Final.{solved}
use Rattle.optimiser.proofs.optimise.Goals as goal

pub serve_rows-served-requires-clause-between : goal.serve_rows-served-requires-clause-between
serve_rows-served-requires-clause-between c =
    let a = c.args in
    let table = table_same (bounds_kept c.keep_rows.ensures.same_bounds c.begin_lists.ensures) c.table_of-table.ensures in
    begun (graph_of a.s a.row.now a.column.now a.weight.now) c.requires.chosen_value c.first_prices.ensures
    (bounds_in c.requires.bounded (few c.requires.solvable) table) (zero_entries most_vertices)

pub returns-then-not-served : goal.returns-then-not-served
returns-then-not-served c =
    let a = c.args in
    let table = table_same (bounds_kept c.keep_rows.ensures.same_bounds c.begin_lists.ensures) c.table_of-table.ensures in
    let meets = nothing_meets (graph_of a.s a.row.now a.column.now a.weight.now) c.requires.chosen_value
    (λ v l. table.least v (omega (arith, few c.requires.solvable))) in
    absurd (c.serve_rows-served.ensures.none c.if-not-served.true a.chosen.now meets)

pub returns : goal.returns
returns c =
    let net = c.requires.solvable in
    let table = table_same (bounds_kept c.keep_rows.ensures.same_bounds c.begin_lists.ensures) c.table_of-table.ensures in
    let served = c.serve_rows-served.ensures.served c.if-not-served.false in
    solved net c.requires.bounded (λ v l. table.least v (omega (arith, few net))) (λ v l. table.most v (omega (arith, c.requires.bounded.long))) served.between.good
    served.done (record { of_vertex = λ v l. c.vertex_prices.ensures v (omega (arith, c.requires.vertex_price_len.0)); of_edge = c.edge_prices.ensures })
