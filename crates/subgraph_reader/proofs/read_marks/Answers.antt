-- Each line that is met marks one edge more, or is refused.
use Rattle.std.proofs.Common.{◌<◌, arith, rules}
use Rattle.std.proofs.lemmas.Grind.{common_steps}
use Rattle.subgraph_reader.proofs.Marks.{celled, turn_done, turn_refused, turn_stops, turn_takes, choice_inside}
use Rattle.subgraph_reader.proofs.read_marks.Goals as goal

pub returns-in_err-line : goal.returns-in_err-line
returns-in_err-line c = turn_refused c.loop-line.invariant c.in_err-line.ensures (search rules)

pub edge_on-requires-clause-celled : goal.edge_on-requires-clause-celled
edge_on-requires-clause-celled c = celled c.requires.sound.0 c.fill_cells.ensures

pub returns-in_err-edge : goal.returns-in_err-edge
returns-in_err-edge c =
    turn_stops c.loop-line.invariant (rw c.in-Some.is at c.in_ok-line.ensures) c.edge_on.result
    (c.edge_on.ensures.says (celled c.requires.sound.0 c.fill_cells.ensures)) {x = c.in_err-edge.field-0.0} (grind (arith, common_steps)) (search rules)

pub bounds-chosen-edge : goal.bounds-chosen-edge
bounds-chosen-edge c =
    let e : c.in_ok-edge.edge < c.args.s.edges =
    choice_inside c.loop-line.invariant (rw c.in-Some.is at c.in_ok-line.ensures) c.edge_on.result c.edge_on.ensures.inside (grind (arith, common_steps)) in
    omega (arith, c.loop-line.invariant.long)

pub loop-line-preserved : goal.loop-line-preserved
loop-line-preserved c =
    turn_takes c.loop-line.invariant (rw c.in-Some.is at c.in_ok-line.ensures) c.edge_on.result
    (c.edge_on.ensures.says (celled c.requires.sound.0 c.fill_cells.ensures)) {k = c.in_ok-edge.edge} (grind (arith, common_steps))

pub returns : goal.returns
returns c = turn_done c.loop-line.invariant (rw c.in_default.is at c.in_ok-line.ensures)
