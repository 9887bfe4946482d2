-- By the next line that counts, or by what is missing.
use Rattle.assignment_reader.proofs.Sources.{turn_starts, turn_ended, turn_long, turn_node, turn_arc, turn_refused}
use Rattle.assignment_reader.proofs.find_sources.Goals as goal

pub loop-line-init : goal.loop-line-init
loop-line-init c = turn_starts _ _ c.requires

pub returns-in-Err-Ended : goal.returns-in-Err-Ended
returns-in-Err-Ended c = turn_ended c.loop-line.invariant (rw c.in-Err-Ended.field-0-is at c.in-Err-Ended.ensures)

pub returns-in-Err-Long : goal.returns-in-Err-Long
returns-in-Err-Long c =
    turn_long c.loop-line.invariant (rw c.in-Err-Long.field-0-is at c.in-Err-Long.ensures) c.wrong_line.ensures

pub loop-line-preserved : goal.loop-line-preserved
loop-line-preserved c = turn_node c.loop-line.invariant c.in-Ok.ensures (rw c.in-Ok-Node.field-0-is at c.in-Ok-Node.ensures)

pub returns-in-Ok-Arc : goal.returns-in-Ok-Arc
returns-in-Ok-Arc c = turn_arc c.loop-line.invariant c.in-Ok.ensures (rw c.in-Ok-Arc.field-0-is at c.in-Ok-Arc.ensures)

pub returns-in-Err : goal.returns-in-Err
returns-in-Err c = turn_refused c.loop-line.invariant c.in-Ok.ensures c.in-Err.ensures c.refused_at.ensures
