use Rattle.std.proofs.Common.{rules, tests, eqb, get_or}
use Rattle.lowest.proofs.Found.{lowest_number}
use Rattle.positions.proofs.lowest_unequal.Goals as goal

pub returns : goal.returns
returns c =
    let a = c.args in
    record { is = lowest_number a.count (λ k. eqb (get_or a.index.now k 0) (get_or a.own.now k 0)) _ _ c.find.result c.find.ensures.ran (λ k b q h. search (rules, tests)) }
