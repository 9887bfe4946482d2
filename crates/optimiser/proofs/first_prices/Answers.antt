-- No edge is looked at yet.
use Rattle.optimiser.proofs.Start.{start_none}
use Rattle.optimiser.proofs.first_prices.Goals as goal

pub loop-e-init : goal.loop-e-init
loop-e-init c = start_none c.requires
