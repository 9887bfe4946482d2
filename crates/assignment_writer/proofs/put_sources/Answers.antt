use Rattle.std.proofs.Common.{arith}
use Rattle.assignments.proofs.Fits.{sources_growing, source_text_few}
use Rattle.writer.proofs.Writing.{lines_start, lines-room, lines_more, lines_end}
use Rattle.assignment_writer.proofs.put_sources.Goals as goal

pub loop-v-init : goal.loop-v-init
loop-v-init c = lines_start sources_growing c.args.rows 6 32 c.args.w.now (omega (arith, c.requires.0, c.requires.1))

pub put_source-requires : goal.put_source-requires
put_source-requires c = omega (arith, lines-room sources_growing c.args.rows 6 32 c.loop-v.invariant c.loop-v-test.true)

pub loop-v-preserved : goal.loop-v-preserved
loop-v-preserved c =
    lines_more sources_growing c.args.rows 6 32 c.loop-v.invariant c.loop-v-test.true (source_text_few _ (omega (arith, c.requires.0))) c.put_source.ensures

pub returns : goal.returns
returns c = lines_end sources_growing c.args.rows 6 32 c.loop-v.invariant (omega arith)
