-- The reader's refusal, or what tidying the graph leaves that the three arrays hold.
use Rattle.std.proofs.Common.{rules, arith}
use Rattle.report.specs.Programs.{tidy_run, tidy_output, whole_text_room}
use Rattle.report.proofs.Runs.{run-goes, run_ends, line-fits}
use Rattle.problem_reader.proofs.Kept.{graph_refused}
use Rattle.problem_reader.proofs.Graphs.{sizes_told, graph_stored, sheet-whole, sheet-came}
use Rattle.tidy.proofs.output.tidy_output.Goals as goal

pub slice_bounds-row-end : goal.slice_bounds-row-end
slice_bounds-row-end c = let few = (sizes_told (sheet-whole c.args.sheet.now) c.read_graph.ensures.answer c.in-Ok.is).few in search rules

pub slice_bounds-tidy_read-end : goal.slice_bounds-tidy_read-end
slice_bounds-tidy_read-end c = let few = (sizes_told (sheet-whole c.args.sheet.now) c.read_graph.ensures.answer c.in-Ok.is).few in search rules

pub slice_bounds-column-end : goal.slice_bounds-column-end
slice_bounds-column-end c = let few = (sizes_told (sheet-whole c.args.sheet.now) c.read_graph.ensures.answer c.in-Ok.is).few in search rules

pub slice_bounds-tidy_read-end-in-Ok : goal.slice_bounds-tidy_read-end-in-Ok
slice_bounds-tidy_read-end-in-Ok c = let few = (sizes_told (sheet-whole c.args.sheet.now) c.read_graph.ensures.answer c.in-Ok.is).few in search rules

pub slice_bounds-weight-end : goal.slice_bounds-weight-end
slice_bounds-weight-end c = let few = (sizes_told (sheet-whole c.args.sheet.now) c.read_graph.ensures.answer c.in-Ok.is).few in search rules

pub slice_bounds-tidy_read-end-in-Ok-2 : goal.slice_bounds-tidy_read-end-in-Ok-2
slice_bounds-tidy_read-end-in-Ok-2 c = let few = (sizes_told (sheet-whole c.args.sheet.now) c.read_graph.ensures.answer c.in-Ok.is).few in search rules

pub returns-in-Err-clause-composed : goal.returns-in-Err-clause-composed
unfolding tidy_output
returns-in-Err-clause-composed c =
    run_ends whole_text_room (λ text. text) tidy_run (sheet-came c.args.sheet.now (graph_refused c.read_graph.ensures.answer c.in-Err.is))
    (line-fits 32768 (omega arith) c.if-out-ne-LONGEST_TEXT.false) c.put_refused.ensures

pub returns-in-Ok-clause-composed : goal.returns-in-Ok-clause-composed
unfolding tidy_output
returns-in-Ok-clause-composed c =
    let d = c.read_graph in
    let S = graph_stored (sheet-whole c.args.sheet.now) d.ensures.answer c.in-Ok.is d.ensures.rows d.ensures.columns d.ensures.weights d.auto.row d.auto.column d.auto.weight in
    run-goes whole_text_room (λ text. text) tidy_run (sheet-came c.args.sheet.now S.same) c.tidy_read.ensures
