use Rattle.std.proofs.Common.{rules}
use Rattle.sets.proofs.OddSets.covered_table.Goals as goal

pub returns : goal.returns
returns c = λ k l. let h = c.table_of.ensures k l in search rules
