use Rattle.std.proofs.Common.{arith}
use Rattle.digits.proofs.Appending.{appends_widened}
use Rattle.graph_writer.proofs.Lines.{line_appends}
use Rattle.graph_writer.proofs.put_weighted_edge.Goals as goal

pub returns : goal.returns
returns c =
    let f = c.field.ensures in
    let g = c.field-2.ensures in
    line_appends _ _ _ c.requires.room c.from.ensures c.from-2.ensures f.written f.within g.written g.within
    (appends_widened (record { sfits = c.from-3.type_inv }) c.from-3.ensures (record { sfits = omega arith }) c.signed.ensures.written) c.signed.ensures.within
    c.byte.ensures
