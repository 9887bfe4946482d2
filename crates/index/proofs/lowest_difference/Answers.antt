use Rattle.std.proofs.Common.{arith}
use Rattle.index.proofs.Tested.{difference}
use Rattle.index.proofs.lowest_difference.Goals as goal

pub returns : goal.returns
returns c = difference c.fill_index.ensures c.lowest_unequal.ensures (omega arith)
