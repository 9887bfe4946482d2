-- The graph's refusal, or that of the bounds, or the shape of the graph.
use Rattle.std.proofs.Common.{ap, ◌∙◌, pos, length, replicate}
use Rattle.problem_reader.proofs.Answered.{told-few, sheet-told, sheet-left, limits-told, limits-left, problem-told, problem-left}
use Rattle.problem_reader.proofs.read_problem.Goals as goal

pub read_bounds-requires : goal.read_bounds-requires
read_bounds-requires c =
    told-few (length c.args.row.now) (length c.args.column.now) (length c.args.weight.now) c.args.sheet.now c.read_graph.ensures.answer c.in-Ok.is c.vertex_count.ensures

pub returns-in-Err-clause-says : goal.returns-in-Err-clause-says
returns-in-Err-clause-says c =
    sheet-told (length c.args.row.now) (length c.args.column.now) (length c.args.weight.now) (length c.args.bound.now) c.args.sheet.now c.args.limits.now
    c.read_graph.ensures.answer c.in-Err.is

pub returns-in-Err-clause-arrays : goal.returns-in-Err-clause-arrays
returns-in-Err-clause-arrays c =
    sheet-left (length c.args.row.now) (length c.args.column.now) (length c.args.weight.now) (length c.args.bound.now) c.args.sheet.now c.args.limits.now
    c.read_graph.ensures.answer c.in-Err.is c.read_graph.ensures.rows c.read_graph.ensures.columns c.read_graph.ensures.weights c.fill.ensures

pub returns-in-Err-read_bounds-clause-says : goal.returns-in-Err-read_bounds-clause-says
returns-in-Err-read_bounds-clause-says c =
    limits-told (length c.args.row.now) (length c.args.column.now) (length c.args.weight.now) (length c.args.bound.now) c.args.sheet.now c.args.limits.now
    c.read_graph.ensures.answer c.in-Ok.is c.vertex_count.ensures c.read_bounds.ensures.says c.in-Err-read_bounds.is

pub returns-in-Err-read_bounds-clause-arrays : goal.returns-in-Err-read_bounds-clause-arrays
returns-in-Err-read_bounds-clause-arrays c =
    limits-left (length c.args.row.now) (length c.args.column.now) (length c.args.weight.now) (length c.args.bound.now) c.args.sheet.now c.args.limits.now
    c.read_graph.ensures.answer c.in-Ok.is c.vertex_count.ensures c.read_bounds.ensures.says c.in-Err-read_bounds.is
    (c.fill-in-Err-read_bounds.ensures ∙ ap (λ k. replicate k 0) c.read_graph.auto.row)
    (c.fill-in-Err-read_bounds-2.ensures ∙ ap (λ k. replicate k 0) c.read_graph.auto.column)
    (c.fill-in-Err-read_bounds-3.ensures ∙ ap (λ k. replicate k (pos 0)) c.read_graph.auto.weight) c.read_bounds.ensures.bounds

pub returns-in-Ok-read_bounds-clause-says : goal.returns-in-Ok-read_bounds-clause-says
returns-in-Ok-read_bounds-clause-says c =
    problem-told (length c.args.row.now) (length c.args.column.now) (length c.args.weight.now) (length c.args.bound.now) c.args.sheet.now c.args.limits.now
    c.read_graph.ensures.answer c.in-Ok.is c.vertex_count.ensures c.read_bounds.ensures.says c.in-Ok-read_bounds.is

pub returns-in-Ok-read_bounds-clause-arrays : goal.returns-in-Ok-read_bounds-clause-arrays
returns-in-Ok-read_bounds-clause-arrays c =
    problem-left (length c.args.row.now) (length c.args.column.now) (length c.args.weight.now) (length c.args.bound.now) c.args.sheet.now c.args.limits.now
    c.read_graph.ensures.answer c.in-Ok.is c.vertex_count.ensures c.read_bounds.ensures.says c.in-Ok-read_bounds.is
    c.read_graph.ensures.rows c.read_graph.ensures.columns c.read_graph.ensures.weights c.read_bounds.ensures.bounds
