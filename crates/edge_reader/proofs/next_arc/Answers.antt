-- By the line that was found, or by what is missing.
use Rattle.edge_reader.proofs.Next.{arc_missing, arcs_end, arc_long, arc-line}
use Rattle.edge_reader.proofs.next_arc.Goals as goal

pub returns-in-Ok : goal.returns-in-Ok
returns-in-Ok c =
    arc-line c.args.s c.in-Ok.ensures c.wanted_arc.result c.wanted_arc.ensures.says c.wanted_arc.ensures.ranged c.wanted_arc.ensures.wanted c.brings.ensures

pub returns-then-more : goal.returns-then-more
returns-then-more c = arc_missing c.args.s (rw c.in-Err-Ended.field-0-is at c.in-Err-Ended.ensures) c.if-more.true (rw c.in-Err-Ended.field-0-is at c.wrong_line.ensures)

pub returns-else-more : goal.returns-else-more
returns-else-more c = arcs_end c.args.s (rw c.in-Err-Ended.field-0-is at c.in-Err-Ended.ensures) c.if-more.false

pub returns-in-Err-Long : goal.returns-in-Err-Long
returns-in-Err-Long c = arc_long c.args.s (rw c.in-Err-Long.field-0-is at c.in-Err-Long.ensures) (rw c.in-Err-Long.field-0-is at c.wrong_line-in-Err-Long.ensures)
