-- The solver is lent as much of each array as the graph gives; the marks or the refusal that it answers are written.
use Rattle.std.proofs.Common.{rules, arith, pos, drop}
use Rattle.graph.specs.Graph.{graph_of}
use Rattle.lent.proofs.Parts.{came_back, zeros-lent}
use Rattle.solve.proofs.Answers.{no_marks, all_lent, refusal_left, solved_passed, part-marks, part-written}
use Rattle.solve.proofs.output.solve_indexed.Goals as goal

pub slice_bounds-solve-end : goal.slice_bounds-solve-end
slice_bounds-solve-end c = zeros-lent 0 1024 c.requires.sizes_hold.few

pub slice_bounds-solve-end-2 : goal.slice_bounds-solve-end-2
slice_bounds-solve-end-2 c = zeros-lent (pos 0) 128 (omega (arith, c.requires.sizes_hold.order, c.vertex_count-n.ensures))

pub slice_bounds-solve-end-3 : goal.slice_bounds-solve-end-3
slice_bounds-solve-end-3 c = zeros-lent (pos 0) 1024 c.requires.sizes_hold.few

pub slice_bounds-chosen-end-in-Ok : goal.slice_bounds-chosen-end-in-Ok
slice_bounds-chosen-end-in-Ok c = let back = came_back c.args.s.edges no_marks c.requires.sizes_hold.few c.solve.auto.chosen in search rules

pub slice_bounds-put_subgraph-end : goal.slice_bounds-put_subgraph-end
slice_bounds-put_subgraph-end c = let back = came_back c.args.s.edges no_marks c.requires.sizes_hold.few c.solve.auto.chosen in search rules

pub put_subgraph-requires-clause-sound : goal.put_subgraph-requires-clause-sound
put_subgraph-requires-clause-sound c =
    let a = c.args in
    let g = graph_of a.s a.row.now a.column.now a.weight.now in
    let lent = all_lent g c.requires.sizes_hold c.vertex_count-n.ensures in
    let done = c.solve.ensures in (
      (solved_passed g a.bound.now a.index.now lent done.result_value c.in-Ok.is done.left).sound,
      part-marks g a.bound.now a.index.now lent done.result_value c.in-Ok.is done.left (drop a.s.edges no_marks),
    )

pub returns-in-Err : goal.returns-in-Err
returns-in-Err c =
    let a = c.args in
    let g = graph_of a.s a.row.now a.column.now a.weight.now in
    refusal_left g a.bound.now a.index.now (all_lent g c.requires.sizes_hold c.vertex_count-n.ensures) c.solve.ensures.result_value c.in-Err.is c.requires.out_len
    c.put_refused.ensures

pub returns-in-Ok : goal.returns-in-Ok
returns-in-Ok c =
    let a = c.args in
    let g = graph_of a.s a.row.now a.column.now a.weight.now in
    let done = c.solve.ensures in
    part-written g a.bound.now a.index.now (all_lent g c.requires.sizes_hold c.vertex_count-n.ensures) done.result_value c.in-Ok.is done.left
    (drop a.s.edges no_marks) c.requires.out_len (c.put_subgraph.ensures a.weight.now)
