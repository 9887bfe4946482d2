use Rattle.std.proofs.Common.{rules, tests, pos}
use Rattle.std.proofs.lemmas.Iterator.{YieldsList-from_slice}
use Rattle.graph.specs.Graph.{bound_in_range}
use Rattle.lowest.proofs.Found.{lowest_found}
use Rattle.lowest.proofs.lowest_bound.Goals as goal

pub returns : goal.returns
returns c = lowest_found bound_in_range (pos 0) _ _ _ c.position.ensures.ran (YieldsList-from_slice c.args.bound.now cc) (λ x b q k. search (rules, tests))
