use Rattle.std.proofs.Common.{rules, tests, pos}
use Rattle.std.proofs.Math.Facts.{to_z-of_z}
use Rattle.std.proofs.lemmas.Iterator.{YieldsList-from_slice}
use Rattle.integers.specs.Integer.{between}
use Rattle.lowest.proofs.Found.{lowest_found}
use Rattle.lowest.proofs.lowest_outside.Goals as goal

pub returns : goal.returns
returns c =
    lowest_found (between c.args.low c.args.high) (pos 0) _ _ _ c.position.ensures.ran (YieldsList-from_slice c.args.values.now cc)
    (λ x b q k. search (rules, tests, to_z-of_z c.ranges.low, to_z-of_z c.ranges.high))
