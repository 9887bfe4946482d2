use Rattle.std.proofs.Common.{rules, tests, leb}
use Rattle.std.proofs.lemmas.Iterator.{YieldsList-from_slice}
use Rattle.lowest.proofs.Found.{lowest_found}
use Rattle.lowest.proofs.lowest_mark.Goals as goal

pub returns : goal.returns
returns c = lowest_found (λ x. leb x 1) 0 _ _ _ c.position.ensures.ran (YieldsList-from_slice c.args.chosen.now cc) (λ x b q k. search (rules, tests))
