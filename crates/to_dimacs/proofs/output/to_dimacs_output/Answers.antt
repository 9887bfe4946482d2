-- The reader's refusal, or what writing the problem leaves that the four arrays hold.
use Rattle.std.proofs.Common.{rules, arith}
use Rattle.report.specs.Programs.{to_dimacs_run, to_dimacs_output, whole_text_room}
use Rattle.report.proofs.Runs.{run-goes, run_ends, line-fits}
use Rattle.problem_reader.proofs.Lent.{stored_problem, problem_ended, told-sizes, stored_in}
use Rattle.to_dimacs.proofs.output.to_dimacs_output.Goals as goal

pub slice_bounds-row-end : goal.slice_bounds-row-end
slice_bounds-row-end c = let few = (told-sizes _ _ c.read_problem.ensures.says c.in-Ok.is).few in search rules

pub slice_bounds-write_problem-end : goal.slice_bounds-write_problem-end
slice_bounds-write_problem-end c = let few = (told-sizes _ _ c.read_problem.ensures.says c.in-Ok.is).few in search rules

pub slice_bounds-column-end : goal.slice_bounds-column-end
slice_bounds-column-end c = let few = (told-sizes _ _ c.read_problem.ensures.says c.in-Ok.is).few in search rules

pub slice_bounds-write_problem-end-in-Ok : goal.slice_bounds-write_problem-end-in-Ok
slice_bounds-write_problem-end-in-Ok c = let few = (told-sizes _ _ c.read_problem.ensures.says c.in-Ok.is).few in search rules

pub slice_bounds-weight-end : goal.slice_bounds-weight-end
slice_bounds-weight-end c = let few = (told-sizes _ _ c.read_problem.ensures.says c.in-Ok.is).few in search rules

pub slice_bounds-write_problem-end-in-Ok-2 : goal.slice_bounds-write_problem-end-in-Ok-2
slice_bounds-write_problem-end-in-Ok-2 c = let few = (told-sizes _ _ c.read_problem.ensures.says c.in-Ok.is).few in search rules

pub slice_bounds-bound-end : goal.slice_bounds-bound-end
slice_bounds-bound-end c = let order = (told-sizes _ _ c.read_problem.ensures.says c.in-Ok.is).order in search rules

pub slice_bounds-write_problem-end-in-Ok-3 : goal.slice_bounds-write_problem-end-in-Ok-3
slice_bounds-write_problem-end-in-Ok-3 c = let order = (told-sizes _ _ c.read_problem.ensures.says c.in-Ok.is).order in search rules

pub returns-in-Err-clause-composed : goal.returns-in-Err-clause-composed
unfolding to_dimacs_output
returns-in-Err-clause-composed c =
    run_ends whole_text_room (λ text. text) to_dimacs_run (problem_ended c.args.sheet.now c.args.limits.now c.read_problem.ensures.says c.in-Err.is)
    (line-fits 32768 (omega arith) c.if-out-ne-LONGEST_TEXT.false) c.put_refused.ensures

pub returns-in-Ok-clause-composed : goal.returns-in-Ok-clause-composed
unfolding to_dimacs_output
returns-in-Ok-clause-composed c =
    let d = c.read_problem in
    let S = stored_in c.args.sheet.now c.args.limits.now d.ensures.says c.in-Ok.is d.ensures.arrays d.auto.row d.auto.column d.auto.weight d.auto.bound in
    run-goes whole_text_room (λ text. text) to_dimacs_run (stored_problem S c.vertex_count-n.ensures) c.write_problem.ensures
