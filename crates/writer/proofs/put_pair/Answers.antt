use Rattle.std.proofs.Common.{arith}
use Rattle.writer.proofs.Lines.{field-short, pair_appends}
use Rattle.writer.proofs.put_pair.Goals as goal

pub field-requires-2 : goal.field-requires-2
field-requires-2 c = omega (arith, c.field.ensures.written.long, field-short 32 c.ranges.m.fits c.from.ensures c.field.ensures.written)

pub returns : goal.returns
returns c =
    pair_appends c.requires c.ranges.m.fits c.ranges.n.fits c.from.ensures c.from-2.ensures c.field.ensures.written c.field-2.ensures.written
