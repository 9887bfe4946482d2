-- The refusal of the problem, or what the stages after it write of the problem that stands in the four arrays.
use Rattle.std.proofs.Common.{rules, refl}
use Rattle.report.specs.Report.{measured_line, line_room}
use Rattle.report.specs.Programs.{mark_problem, mark_output}
use Rattle.report.proofs.Runs.{run-goes, run_ends}
use Rattle.problem_reader.proofs.Lent.{stored_problem, problem_ended, told-sizes, stored_in}
use Rattle.mark.proofs.output.mark_output.Goals as goal

pub slice_bounds-row-end : goal.slice_bounds-row-end
slice_bounds-row-end c = let few = (told-sizes _ _ c.read_problem.ensures.says c.in-Ok.is).few in search rules

pub slice_bounds-mark_problem-end : goal.slice_bounds-mark_problem-end
slice_bounds-mark_problem-end c = let few = (told-sizes _ _ c.read_problem.ensures.says c.in-Ok.is).few in search rules

pub slice_bounds-column-end : goal.slice_bounds-column-end
slice_bounds-column-end c = let few = (told-sizes _ _ c.read_problem.ensures.says c.in-Ok.is).few in search rules

pub slice_bounds-mark_problem-end-in-Ok : goal.slice_bounds-mark_problem-end-in-Ok
slice_bounds-mark_problem-end-in-Ok c = let few = (told-sizes _ _ c.read_problem.ensures.says c.in-Ok.is).few in search rules

pub slice_bounds-weight-end : goal.slice_bounds-weight-end
slice_bounds-weight-end c = let few = (told-sizes _ _ c.read_problem.ensures.says c.in-Ok.is).few in search rules

pub slice_bounds-mark_problem-end-in-Ok-2 : goal.slice_bounds-mark_problem-end-in-Ok-2
slice_bounds-mark_problem-end-in-Ok-2 c = let few = (told-sizes _ _ c.read_problem.ensures.says c.in-Ok.is).few in search rules

pub slice_bounds-bound-end : goal.slice_bounds-bound-end
slice_bounds-bound-end c = let order = (told-sizes _ _ c.read_problem.ensures.says c.in-Ok.is).order in search rules

pub slice_bounds-mark_problem-end-in-Ok-3 : goal.slice_bounds-mark_problem-end-in-Ok-3
slice_bounds-mark_problem-end-in-Ok-3 c = let order = (told-sizes _ _ c.read_problem.ensures.says c.in-Ok.is).order in search rules

pub mark_problem-requires : goal.mark_problem-requires
mark_problem-requires c = told-sizes _ _ c.read_problem.ensures.says c.in-Ok.is

pub returns-in-Err-clause-composed : goal.returns-in-Err-clause-composed
unfolding mark_output
returns-in-Err-clause-composed c =
    run_ends line_room measured_line (λ P. mark_problem P.graph P.bound c.args.plan.now c.args.prices.now)
    (problem_ended c.args.sheet.now c.args.limits.now c.read_problem.ensures.says c.in-Err.is) refl c.put_refused.ensures

pub returns-in-Ok-clause-composed : goal.returns-in-Ok-clause-composed
unfolding mark_output
returns-in-Ok-clause-composed c =
    let d = c.read_problem in
    let S = stored_in c.args.sheet.now c.args.limits.now d.ensures.says c.in-Ok.is d.ensures.arrays d.auto.row d.auto.column d.auto.weight d.auto.bound in
    run-goes line_room measured_line (λ P. mark_problem P.graph P.bound c.args.plan.now c.args.prices.now)
    (stored_problem S c.vertex_count-n.ensures) c.mark_problem.ensures
