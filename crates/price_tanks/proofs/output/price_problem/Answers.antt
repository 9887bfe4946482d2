-- The pricer is lent as much of each array as the graph gives; the prices or the refusal that it answers are written.
use Rattle.std.proofs.Common.{rules, arith, sym, ◌∙◌, pos, replicate}
use Rattle.graph.specs.Graph.{graph_of}
use Rattle.lent.proofs.Parts.{came_back, zeros-lent}
use Rattle.price_tanks.proofs.Answers.{refusal_left, prices_left}
use Rattle.price_tanks.proofs.output.price_problem.Goals as goal

pub slice_bounds-price_general-end : goal.slice_bounds-price_general-end
slice_bounds-price_general-end c = zeros-lent (pos 0) 128 (omega (arith, c.requires.sizes_hold.order, c.vertex_count-n.ensures))

pub slice_bounds-price_general-end-2 : goal.slice_bounds-price_general-end-2
slice_bounds-price_general-end-2 c = zeros-lent (pos 0) 1024 c.requires.sizes_hold.few

pub slice_bounds-vertex_price-end-in-Ok : goal.slice_bounds-vertex_price-end-in-Ok
slice_bounds-vertex_price-end-in-Ok c =
    let back = came_back c.vertex_count-n.result (replicate 128 (pos 0)) (omega (arith, c.requires.sizes_hold.order, c.vertex_count-n.ensures)) c.price_general.auto.vertex_price in search rules

pub slice_bounds-put_numbers-end : goal.slice_bounds-put_numbers-end
slice_bounds-put_numbers-end c =
    let back = came_back c.vertex_count-n.result (replicate 128 (pos 0)) (omega (arith, c.requires.sizes_hold.order, c.vertex_count-n.ensures)) c.price_general.auto.vertex_price in search rules

pub slice_bounds-edge_price-end-in-Ok : goal.slice_bounds-edge_price-end-in-Ok
slice_bounds-edge_price-end-in-Ok c =
    let back = came_back c.args.s.edges (replicate 1024 (pos 0)) c.requires.sizes_hold.few c.price_general.auto.edge_price in search rules

pub slice_bounds-put_numbers-end-in-Ok : goal.slice_bounds-put_numbers-end-in-Ok
slice_bounds-put_numbers-end-in-Ok c =
    let back = came_back c.args.s.edges (replicate 1024 (pos 0)) c.requires.sizes_hold.few c.price_general.auto.edge_price in search rules

pub put_numbers-requires-clause-first_len_bound : goal.put_numbers-requires-clause-first_len_bound
put_numbers-requires-clause-first_len_bound c =
    let vertex = came_back c.vertex_count-n.result (replicate 128 (pos 0)) (omega (arith, c.requires.sizes_hold.order, c.vertex_count-n.ensures)) c.price_general.auto.vertex_price in
    let edge = came_back c.args.s.edges (replicate 1024 (pos 0)) c.requires.sizes_hold.few c.price_general.auto.edge_price in
    (omega (arith, vertex.long, c.requires.sizes_hold.order, c.vertex_count-n.ensures), omega (arith, edge.long, c.requires.sizes_hold.few))

pub returns-in-Err : goal.returns-in-Err
returns-in-Err c =
    let a = c.args in
    refusal_left (graph_of a.s a.row.now a.column.now a.weight.now) a.bound.now
    (sym (zeros-lent (pos 0) 128 (omega (arith, c.requires.sizes_hold.order, c.vertex_count-n.ensures))) ∙ c.vertex_count-n.ensures)
    (sym (zeros-lent (pos 0) 1024 c.requires.sizes_hold.few)) c.price_general.ensures.answer c.in-Err.is c.requires.out_len c.put_refused.ensures

pub returns-in-Ok : goal.returns-in-Ok
returns-in-Ok c =
    let a = c.args in
    let vertex = came_back c.vertex_count-n.result (replicate 128 (pos 0)) (omega (arith, c.requires.sizes_hold.order, c.vertex_count-n.ensures)) c.price_general.auto.vertex_price in
    let edge = came_back c.args.s.edges (replicate 1024 (pos 0)) c.requires.sizes_hold.few c.price_general.auto.edge_price in
    let done = c.price_general.ensures in
    prices_left (graph_of a.s a.row.now a.column.now a.weight.now) a.bound.now
    (sym (zeros-lent (pos 0) 128 (omega (arith, c.requires.sizes_hold.order, c.vertex_count-n.ensures))) ∙ c.vertex_count-n.ensures)
    (sym (zeros-lent (pos 0) 1024 c.requires.sizes_hold.few)) done.answer c.in-Ok.is done.prices vertex.same edge.same c.requires.out_len c.put_numbers.ensures
