-- As much of an array as the graph gives is lent for the index; the problem is solved with what comes back, or the refusal is written.
use Rattle.std.proofs.Common.{sym, ◌∙◌}
use Rattle.graph.specs.Graph.{graph_of}
use Rattle.lent.proofs.Parts.{came_back, zeros-lent}
use Rattle.solve.proofs.Answers.{no_index, index_fits, index_refused, index_solved}
use Rattle.solve.proofs.output.solve_problem.Goals as goal

pub slice_bounds-build_index-end : goal.slice_bounds-build_index-end
slice_bounds-build_index-end c =
    let a = c.args in
    zeros-lent 0 2177 (index_fits (graph_of a.s a.row.now a.column.now a.weight.now) c.requires.sizes_hold c.index_numbers-k.ensures)

pub slice_bounds-index-end-in-Ok : goal.slice_bounds-index-end-in-Ok
slice_bounds-index-end-in-Ok c =
    let a = c.args in
    let fits = index_fits (graph_of a.s a.row.now a.column.now a.weight.now) c.requires.sizes_hold c.index_numbers-k.ensures in
    (came_back c.index_numbers-k.result no_index fits c.build_index.auto.index).room

pub slice_bounds-solve_indexed-end : goal.slice_bounds-solve_indexed-end
slice_bounds-solve_indexed-end c =
    let a = c.args in
    let fits = index_fits (graph_of a.s a.row.now a.column.now a.weight.now) c.requires.sizes_hold c.index_numbers-k.ensures in
    (came_back c.index_numbers-k.result no_index fits c.build_index.auto.index).long

pub returns-in-Err : goal.returns-in-Err
returns-in-Err c =
    let a = c.args in
    let g = graph_of a.s a.row.now a.column.now a.weight.now in
    let all = c.index_numbers-k.ensures in
    let lent = sym (zeros-lent 0 2177 (index_fits g c.requires.sizes_hold all)) ∙ all in
    index_refused g a.bound.now lent c.build_index.ensures.answer c.in-Err.is c.requires.out_len c.put_refused.ensures

pub returns-in-Ok : goal.returns-in-Ok
returns-in-Ok c =
    let a = c.args in
    let g = graph_of a.s a.row.now a.column.now a.weight.now in
    let all = c.index_numbers-k.ensures in
    let fits = index_fits g c.requires.sizes_hold all in
    let done = c.build_index.ensures in
    let back = came_back c.index_numbers-k.result no_index fits c.build_index.auto.index in
    index_solved g a.bound.now (sym (zeros-lent 0 2177 fits) ∙ all) done.answer c.in-Ok.is (back.same ∙ done.numbers) c.solve_indexed.ensures
