-- The reader's refusal, or the text of the graph that the three arrays hold.
use Rattle.std.proofs.Common.{rules, ◌≡◌, length}
use Rattle.report.specs.Programs.{from_dimacs_output}
use Rattle.problem_reader.proofs.Kept.{graph_refused}
use Rattle.problem_reader.proofs.Graphs.{sizes_told, graph_stored}
use Rattle.problem_reader.proofs.Texts.{line_written, all_written}
use Rattle.from_dimacs.proofs.Answers.{writes, passed, whole}
use Rattle.from_dimacs.proofs.output.from_dimacs_output.Goals as goal

pub slice_bounds-row-end : goal.slice_bounds-row-end
slice_bounds-row-end c = let few = (sizes_told (whole c.args.crosses.now) c.read_assignment.ensures.answer c.in-Ok.is).few in search rules

pub slice_bounds-put_own-end : goal.slice_bounds-put_own-end
slice_bounds-put_own-end c = let few = (sizes_told (whole c.args.crosses.now) c.read_assignment.ensures.answer c.in-Ok.is).few in search rules

pub slice_bounds-column-end : goal.slice_bounds-column-end
slice_bounds-column-end c = let few = (sizes_told (whole c.args.crosses.now) c.read_assignment.ensures.answer c.in-Ok.is).few in search rules

pub slice_bounds-put_own-end-in-Ok : goal.slice_bounds-put_own-end-in-Ok
slice_bounds-put_own-end-in-Ok c = let few = (sizes_told (whole c.args.crosses.now) c.read_assignment.ensures.answer c.in-Ok.is).few in search rules

pub slice_bounds-weight-end : goal.slice_bounds-weight-end
slice_bounds-weight-end c = let few = (sizes_told (whole c.args.crosses.now) c.read_assignment.ensures.answer c.in-Ok.is).few in search rules

pub slice_bounds-put_own-end-in-Ok-2 : goal.slice_bounds-put_own-end-in-Ok-2
slice_bounds-put_own-end-in-Ok-2 c = let few = (sizes_told (whole c.args.crosses.now) c.read_assignment.ensures.answer c.in-Ok.is).few in search rules

pub put_own-requires-clause-passed : goal.put_own-requires-clause-passed
put_own-requires-clause-passed c =
    let d = c.read_assignment in
    let S = graph_stored (whole c.args.crosses.now) d.ensures.answer c.in-Ok.is d.ensures.rows d.ensures.columns d.ensures.weights d.auto.row d.auto.column d.auto.weight in
    passed c.args.crosses.now _ S.same

pub returns-in-Err-clause-composed : goal.returns-in-Err-clause-composed
returns-in-Err-clause-composed c =
    let crosses = c.args.crosses.now in
    let long : length c.args.out.now ≡ 32768 = search rules in
    (line_written (from_dimacs_output crosses) (writes crosses (graph_refused c.read_assignment.ensures.answer c.in-Err.is)) long
    c.put_refused.ensures).1

pub returns-in-Ok-clause-composed : goal.returns-in-Ok-clause-composed
returns-in-Ok-clause-composed c =
    let crosses = c.args.crosses.now in
    let long : length c.args.out.now ≡ 32768 = search rules in
    let d = c.read_assignment in
    let S = graph_stored (whole crosses) d.ensures.answer c.in-Ok.is d.ensures.rows d.ensures.columns d.ensures.weights d.auto.row d.auto.column d.auto.weight in
    (all_written (from_dimacs_output crosses) (writes crosses S.same) long c.put_own.ensures).1
