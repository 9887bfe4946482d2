use Rattle.std.proofs.Common.{arith, ap, ℕ, length}
use Rattle.graph.specs.Graph.{graph_of}
use Rattle.layout.specs.Text.{unlines}
use Rattle.layout.specs.AssignmentText.{arc_lines}
use Rattle.assignments.proofs.Fits.{arcs_growing, arc_text_le}
use Rattle.digits.proofs.Appending.{appends_same}
use Rattle.writer.proofs.Writing.{lines_start, lines-room, lines_more, lines_end}
use Rattle.assignment_writer.proofs.put_arcs.Goals as goal

pub loop-e-init : goal.loop-e-init
loop-e-init c =
    let a = c.args in
    let S = c.requires.passed.sound in
    lines_start (arcs_growing (graph_of a.s a.row.now a.column.now a.weight.now)) (length a.row.now) 19 64 a.w.now
    (omega (arith, c.requires.room, S.row_long, S.sizes.few))

pub put_arc-requires : goal.put_arc-requires
put_arc-requires c =
    let a = c.args in
    let P = c.requires.passed in
    let lt = c.loop-e-test.true in
    record {
      room = omega (arith, lines-room (arcs_growing (graph_of a.s a.row.now a.column.now a.weight.now)) (length a.row.now) 19 64 c.loop-e.invariant lt);
      e_in_bounds = (lt, omega (arith, P.sound.row_long, P.sound.column_long), omega (arith, P.sound.row_long, P.weight_long));
    }

pub loop-e-preserved : goal.loop-e-preserved
loop-e-preserved c =
    let a = c.args in
    let P = c.requires.passed in
    lines_more (arcs_growing (graph_of a.s a.row.now a.column.now a.weight.now)) (length a.row.now) 19 64 c.loop-e.invariant c.loop-e-test.true
    (arc_text_le P _ (omega (arith, P.sound.row_long))) c.put_arc.ensures

pub returns : goal.returns
returns c =
    let a = c.args in
    appends_same (lines_end (arcs_growing (graph_of a.s a.row.now a.column.now a.weight.now)) (length a.row.now) 19 64 c.loop-e.invariant (omega arith))
    (ap (λ (n : ℕ). unlines (arc_lines (graph_of a.s a.row.now a.column.now a.weight.now) n)) c.requires.passed.sound.row_long)
