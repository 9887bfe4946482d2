-- The least is 0 everywhere.
use Rattle.std.proofs.Common.{arith}
use Rattle.graph.specs.Limits.{most_vertices}
use Rattle.optimiser.proofs.Start.{zero_entries}
use Rattle.optimiser.proofs.table_of.Goals as goal

pub returns : goal.returns
returns c = record { least = λ v l. zero_entries most_vertices v; most = λ v l. c.loop-v.invariant.filled v (omega (arith, l, c.loop-v-test.false)) }
