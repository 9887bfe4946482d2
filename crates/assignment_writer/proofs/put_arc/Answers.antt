use Rattle.assignment_writer.proofs.Lines.{arc_appends}
use Rattle.assignment_writer.proofs.put_arc.Goals as goal

pub returns : goal.returns
returns c =
    let f = c.field.ensures in
    let g = c.field-2.ensures in
    arc_appends _ _ _ c.requires.room c.from.ensures c.column_node.ensures c.cost_of.ensures (record { sfits = c.cost_of.type_inv }) c.bytes.ensures f.written
    f.within g.written g.within c.signed.ensures.written c.signed.ensures.within c.byte.ensures
