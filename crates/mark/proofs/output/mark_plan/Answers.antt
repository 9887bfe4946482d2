-- As much of the array is lent as there are vertices and edges, so what the number reader answers is what reading the prices yields.
use Rattle.std.proofs.Common.{arith, ap, ◌+◌, pos, length, take, replicate}
use Rattle.graph.specs.Graph.{graph_of}
use Rattle.lent.proofs.Parts.{first_long, came_back}
use Rattle.mark.proofs.Stages.{same_line, vertices-priced, plan_ends, plan_goes}
use Rattle.mark.proofs.output.mark_plan.Goals as goal

pub slice_bounds-read_numbers-end : goal.slice_bounds-read_numbers-end
slice_bounds-read_numbers-end c =
    first_long (c.vertex_count.result + c.args.s.edges) (replicate 1152 (pos 0)) (omega (arith, c.requires.order, c.requires.few, c.vertex_count.ensures))

pub slice_bounds-price-end-in-Ok : goal.slice_bounds-price-end-in-Ok
slice_bounds-price-end-in-Ok c =
    (came_back (c.vertex_count.result + c.args.s.edges) (replicate 1152 (pos 0)) (omega (arith, c.requires.order, c.requires.few, c.vertex_count.ensures)) c.read_numbers.auto.out).room

pub slice_bounds-mark_prices-end : goal.slice_bounds-mark_prices-end
slice_bounds-mark_prices-end c =
    (came_back (c.vertex_count.result + c.args.s.edges) (replicate 1152 (pos 0)) (omega (arith, c.requires.order, c.requires.few, c.vertex_count.ensures)) c.read_numbers.auto.out).long

pub mark_prices-requires : goal.mark_prices-requires
mark_prices-requires c =
    let back = came_back (c.vertex_count.result + c.args.s.edges) (replicate 1152 (pos 0)) (omega (arith, c.requires.order, c.requires.few, c.vertex_count.ensures)) c.read_numbers.auto.out in
    vertices-priced c.vertex_count.result c.args.s.edges c.vertex_count.ensures back.long

pub returns-in-Err : goal.returns-in-Err
returns-in-Err c =
    let a = c.args in
    let n = c.vertex_count.result + a.s.edges in
    let zeros = replicate 1152 (pos 0) in
    same_line
    (plan_ends (graph_of a.s a.row.now a.column.now a.weight.now) a.bound.now a.chosen.now a.prices.now n (length (take n zeros))
    (ap (λ k. k + a.s.edges) c.vertex_count.ensures) (first_long n zeros (omega (arith, c.requires.order, c.requires.few, c.vertex_count.ensures))) c.read_numbers.ensures.answer c.in-Err.is)
    c.put_refused.ensures

pub returns-in-Ok : goal.returns-in-Ok
returns-in-Ok c =
    let a = c.args in
    let n = c.vertex_count.result + a.s.edges in
    let zeros = replicate 1152 (pos 0) in
    let back = came_back n zeros (omega (arith, c.requires.order, c.requires.few, c.vertex_count.ensures)) c.read_numbers.auto.out in
    same_line
    (plan_goes (graph_of a.s a.row.now a.column.now a.weight.now) a.bound.now a.chosen.now a.prices.now n (length (take n zeros))
    (ap (λ k. k + a.s.edges) c.vertex_count.ensures) (first_long n zeros (omega (arith, c.requires.order, c.requires.few, c.vertex_count.ensures))) c.read_numbers.ensures.answer
    c.in-Ok.is back.same c.read_numbers.ensures.numbers)
    c.mark_prices.ensures
