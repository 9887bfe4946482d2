use Rattle.std.proofs.Common.{arith}
use Rattle.writer.proofs.Lines.{field-short, sizes_append}
use Rattle.writer.proofs.put_sizes.Goals as goal

pub put_pair-requires : goal.put_pair-requires
put_pair-requires c = omega (arith, c.field.ensures.written.long, field-short 32 c.ranges.rows.fits c.from.ensures c.field.ensures.written)

pub returns : goal.returns
returns c =
    sizes_append c.requires c.ranges.rows.fits c.ranges.columns.fits c.ranges.count.fits c.from.ensures c.field.ensures.written c.put_pair.ensures
