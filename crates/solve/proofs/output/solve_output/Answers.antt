-- The reader's refusal, or what comes of the problem that the four arrays hold.
use Rattle.std.proofs.Common.{rules}
use Rattle.problem_reader.proofs.Lent.{stored_problem, problem_ended, told-sizes, stored_in}
use Rattle.solve.proofs.Answers.{refusal_written, solution_written, nothing_written}
use Rattle.solve.proofs.output.solve_output.Goals as goal

pub slice_bounds-row-end : goal.slice_bounds-row-end
slice_bounds-row-end c = let few = (told-sizes _ _ c.read_problem.ensures.says c.in-Ok.is).few in search rules

pub slice_bounds-solve_problem-end : goal.slice_bounds-solve_problem-end
slice_bounds-solve_problem-end c = let few = (told-sizes _ _ c.read_problem.ensures.says c.in-Ok.is).few in search rules

pub slice_bounds-column-end : goal.slice_bounds-column-end
slice_bounds-column-end c = let few = (told-sizes _ _ c.read_problem.ensures.says c.in-Ok.is).few in search rules

pub slice_bounds-solve_problem-end-in-Ok : goal.slice_bounds-solve_problem-end-in-Ok
slice_bounds-solve_problem-end-in-Ok c = let few = (told-sizes _ _ c.read_problem.ensures.says c.in-Ok.is).few in search rules

pub slice_bounds-weight-end : goal.slice_bounds-weight-end
slice_bounds-weight-end c = let few = (told-sizes _ _ c.read_problem.ensures.says c.in-Ok.is).few in search rules

pub slice_bounds-solve_problem-end-in-Ok-2 : goal.slice_bounds-solve_problem-end-in-Ok-2
slice_bounds-solve_problem-end-in-Ok-2 c = let few = (told-sizes _ _ c.read_problem.ensures.says c.in-Ok.is).few in search rules

pub slice_bounds-bound-end : goal.slice_bounds-bound-end
slice_bounds-bound-end c = let order = (told-sizes _ _ c.read_problem.ensures.says c.in-Ok.is).order in search rules

pub slice_bounds-solve_problem-end-in-Ok-3 : goal.slice_bounds-solve_problem-end-in-Ok-3
slice_bounds-solve_problem-end-in-Ok-3 c = let order = (told-sizes _ _ c.read_problem.ensures.says c.in-Ok.is).order in search rules

pub solve_problem-requires-clause-sizes_hold : goal.solve_problem-requires-clause-sizes_hold
solve_problem-requires-clause-sizes_hold c = told-sizes _ _ c.read_problem.ensures.says c.in-Ok.is

pub returns-then-out-ne-SUBGRAPH_BYTES-clause-solve_composed : goal.returns-then-out-ne-SUBGRAPH_BYTES-clause-solve_composed
returns-then-out-ne-SUBGRAPH_BYTES-clause-solve_composed c = (nothing_written c.args.sheet.now c.args.limits.now c.if-out-ne-SUBGRAPH_BYTES.true c.fill.ensures).1

pub returns-in-Err : goal.returns-in-Err
returns-in-Err c =
    let W = refusal_written c.args.sheet.now c.args.limits.now (problem_ended c.args.sheet.now c.args.limits.now c.read_problem.ensures.says c.in-Err.is)
    c.if-out-ne-SUBGRAPH_BYTES.false c.put_refused.ensures in
    record { inside = W.0; solve_composed = W.1 }

pub returns-in-Ok : goal.returns-in-Ok
returns-in-Ok c =
    let d = c.read_problem in
    let S = stored_in c.args.sheet.now c.args.limits.now d.ensures.says c.in-Ok.is d.ensures.arrays d.auto.row d.auto.column d.auto.weight d.auto.bound in
    let W = solution_written c.args.sheet.now c.args.limits.now (stored_problem S c.vertex_count-n.ensures) c.solve_problem.ensures in
    record { inside = W.0; solve_composed = W.1 }
