-- As much of the array is lent as there are edges, so what the subgraph reader answers is what reading the plan yields.
use Rattle.std.proofs.Common.{ℕ, List, length, take, replicate}
use Rattle.graph.specs.Graph.{graph_of}
use Rattle.lent.proofs.Parts.{first_long, came_back}
use Rattle.mark.proofs.Stages.{same_line, problem_ends, problem_goes}
use Rattle.mark.proofs.output.mark_problem.Goals as goal

pub slice_bounds-read_subgraph-end : goal.slice_bounds-read_subgraph-end
slice_bounds-read_subgraph-end c = first_long c.args.s.edges (replicate 1024 0) c.requires.few

pub slice_bounds-chosen-end-in-Ok : goal.slice_bounds-chosen-end-in-Ok
slice_bounds-chosen-end-in-Ok c = (came_back c.args.s.edges (replicate 1024 0) c.requires.few c.read_subgraph.auto.chosen).room

pub slice_bounds-mark_plan-end : goal.slice_bounds-mark_plan-end
slice_bounds-mark_plan-end c = (came_back c.args.s.edges (replicate 1024 0) c.requires.few c.read_subgraph.auto.chosen).long

pub returns-in-Err : goal.returns-in-Err
returns-in-Err c =
    let a = c.args in
    let zeros : List ℕ = replicate 1024 0 in
    same_line
    (problem_ends (graph_of a.s a.row.now a.column.now a.weight.now) a.bound.now a.plan.now a.prices.now (length (take a.s.edges zeros))
    (first_long a.s.edges zeros c.requires.few) c.read_subgraph.ensures.answer c.in-Err.is)
    c.put_refused.ensures

pub returns-in-Ok : goal.returns-in-Ok
returns-in-Ok c =
    let a = c.args in
    let zeros : List ℕ = replicate 1024 0 in
    let back = came_back a.s.edges zeros c.requires.few c.read_subgraph.auto.chosen in
    same_line
    (problem_goes (graph_of a.s a.row.now a.column.now a.weight.now) a.bound.now a.plan.now a.prices.now (length (take a.s.edges zeros))
    (first_long a.s.edges zeros c.requires.few) c.read_subgraph.ensures.answer c.in-Ok.is back.same c.read_subgraph.ensures.marks)
    c.mark_plan.ensures
