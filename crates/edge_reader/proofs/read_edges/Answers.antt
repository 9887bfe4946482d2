-- Each line that is met brings one edge more, or is refused.
use Rattle.std.proofs.Common.{[], arith, rules}
use Rattle.std.proofs.lemmas.Int.{ints}
use Rattle.checks.proofs.Table.{seen_start}
use Rattle.edge_reader.proofs.Edges.{turn_starts, row_length, column_length, weight_length, turn_done, turn_refused, turn_next, turn_below, turn_flagged}
use Rattle.edge_reader.proofs.Edges.{turn_repeats, turn_takes}
use Rattle.edge_reader.proofs.read_edges.Goals as goal

pub loop-edge-init : goal.loop-edge-init
loop-edge-init c = turn_starts c.requires.reached c.requires.s_value c.requires.cleared _ (seen_start [] [])

pub returns-in_err-edge : goal.returns-in_err-edge
returns-in_err-edge c = turn_refused c.loop-edge.invariant c.in_err-edge.ensures (search rules)

pub note-requires-clause-flagged : goal.note-requires-clause-flagged
note-requires-clause-flagged c = turn_flagged c.loop-edge.invariant (rw c.in-Some.is at c.in_ok-edge.ensures)

pub returns-then-note : goal.returns-then-note
returns-then-note c =
    turn_repeats c.loop-edge.invariant (rw c.in-Some.is at c.in_ok-edge.ensures) c.note.ensures.value c.if-note.true c.refused_at.ensures

pub bounds-row-i : goal.bounds-row-i
bounds-row-i c =
    omega (arith, turn_below c.loop-edge.invariant (rw c.in-Some.is at c.in_ok-edge.ensures), row_length c.loop-edge.invariant)

pub bounds-column-i : goal.bounds-column-i
bounds-column-i c =
    omega (arith, turn_below c.loop-edge.invariant (rw c.in-Some.is at c.in_ok-edge.ensures), column_length c.loop-edge.invariant)

pub bounds-weight-i : goal.bounds-weight-i
bounds-weight-i c =
    omega (arith, turn_below c.loop-edge.invariant (rw c.in-Some.is at c.in_ok-edge.ensures), weight_length c.loop-edge.invariant)

pub loop-edge-smaller : goal.loop-edge-smaller
loop-edge-smaller c =
    let n = turn_next c.loop-edge.invariant (rw c.in-Some.is at c.in_ok-edge.ensures) in omega (arith, n.onward, n.reached.reach)

pub loop-edge-preserved : goal.loop-edge-preserved
loop-edge-preserved c =
    turn_takes c.loop-edge.invariant (rw c.in-Some.is at c.in_ok-edge.ensures) c.note.ensures.value c.if-note.false _ c.note.ensures.flags_after (omega (arith, ints))

pub returns : goal.returns
returns c = turn_done c.loop-edge.invariant (rw c.in_default.is at c.in_ok-edge.ensures)
