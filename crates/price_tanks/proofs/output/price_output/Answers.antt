-- The reader's refusal, or what comes of the problem that the four arrays hold.
use Rattle.std.proofs.Common.{rules}
use Rattle.problem_reader.proofs.Lent.{stored_problem, problem_ended, told-sizes, stored_in}
use Rattle.price_tanks.proofs.Answers.{refusal_written, priced_composed, nothing_written}
use Rattle.price_tanks.proofs.output.price_output.Goals as goal

pub slice_bounds-row-end : goal.slice_bounds-row-end
slice_bounds-row-end c = let few = (told-sizes _ _ c.read_problem.ensures.says c.in-Ok.is).few in search rules

pub slice_bounds-price_problem-end : goal.slice_bounds-price_problem-end
slice_bounds-price_problem-end c = let few = (told-sizes _ _ c.read_problem.ensures.says c.in-Ok.is).few in search rules

pub slice_bounds-column-end : goal.slice_bounds-column-end
slice_bounds-column-end c = let few = (told-sizes _ _ c.read_problem.ensures.says c.in-Ok.is).few in search rules

pub slice_bounds-price_problem-end-in-Ok : goal.slice_bounds-price_problem-end-in-Ok
slice_bounds-price_problem-end-in-Ok c = let few = (told-sizes _ _ c.read_problem.ensures.says c.in-Ok.is).few in search rules

pub slice_bounds-weight-end : goal.slice_bounds-weight-end
slice_bounds-weight-end c = let few = (told-sizes _ _ c.read_problem.ensures.says c.in-Ok.is).few in search rules

pub slice_bounds-price_problem-end-in-Ok-2 : goal.slice_bounds-price_problem-end-in-Ok-2
slice_bounds-price_problem-end-in-Ok-2 c = let few = (told-sizes _ _ c.read_problem.ensures.says c.in-Ok.is).few in search rules

pub slice_bounds-bound-end : goal.slice_bounds-bound-end
slice_bounds-bound-end c = let order = (told-sizes _ _ c.read_problem.ensures.says c.in-Ok.is).order in search rules

pub slice_bounds-price_problem-end-in-Ok-3 : goal.slice_bounds-price_problem-end-in-Ok-3
slice_bounds-price_problem-end-in-Ok-3 c = let order = (told-sizes _ _ c.read_problem.ensures.says c.in-Ok.is).order in search rules

pub price_problem-requires-clause-sizes_hold : goal.price_problem-requires-clause-sizes_hold
price_problem-requires-clause-sizes_hold c = told-sizes _ _ c.read_problem.ensures.says c.in-Ok.is

pub returns-then-out-ne-LONGEST_TEXT-clause-price_composed : goal.returns-then-out-ne-LONGEST_TEXT-clause-price_composed
returns-then-out-ne-LONGEST_TEXT-clause-price_composed c = (nothing_written c.args.sheet.now c.args.limits.now c.if-out-ne-LONGEST_TEXT.true c.fill.ensures).1

pub returns-in-Err : goal.returns-in-Err
returns-in-Err c =
    let W = refusal_written c.args.sheet.now c.args.limits.now (problem_ended c.args.sheet.now c.args.limits.now c.read_problem.ensures.says c.in-Err.is)
    c.if-out-ne-LONGEST_TEXT.false c.put_refused.ensures in
    record { inside = W.0; price_composed = W.1 }

pub returns-in-Ok : goal.returns-in-Ok
returns-in-Ok c =
    let d = c.read_problem in
    let S = stored_in c.args.sheet.now c.args.limits.now d.ensures.says c.in-Ok.is d.ensures.arrays d.auto.row d.auto.column d.auto.weight d.auto.bound in
    let W = priced_composed c.args.sheet.now c.args.limits.now (stored_problem S c.vertex_count-n.ensures) c.price_problem.ensures in
    record { inside = W.0; price_composed = W.1 }
