use Rattle.number_writer.proofs.Lines.{head-appends}
use Rattle.number_writer.proofs.put_array_head.Goals as goal

pub returns-clause-written : goal.returns-clause-written
returns-clause-written c =
    head-appends c.args.count c.requires c.bytes.ensures c.field.ensures.written c.field.ensures.within c.field-2.ensures.written c.field-2.ensures.within
