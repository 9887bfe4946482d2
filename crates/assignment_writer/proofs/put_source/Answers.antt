use Rattle.assignment_writer.proofs.Lines.{source_appends}
use Rattle.assignment_writer.proofs.put_source.Goals as goal

pub returns : goal.returns
returns c = source_appends c.args.v c.requires c.bytes.ensures c.source_node.ensures c.field.ensures.written c.field.ensures.within
