use Rattle.std.proofs.Common.{arith, rules}
use Rattle.sets.proofs.OddSets.load_table.Goals as goal

pub returns : goal.returns
returns c = λ k l. let h = c.table_of.ensures k (omega arith) in search rules
