use Rattle.std.proofs.Common.{ℕ, pos, get_or, rules, tests}
use Rattle.std.specs.Int.Signed.{le_z}
use Rattle.dual.specs.Gap.{half_points}
use Rattle.lowest.proofs.Found.{lowest_number}
use Rattle.sums.proofs.lowest_uncovered.Goals as goal

pub returns : goal.returns
returns c =
    let a = c.args in
    let covered = λ (e : ℕ). le_z (half_points (get_or a.weight.now e (pos 0))) (get_or a.cover.now e (pos 0)) in
    lowest_number a.edges covered _ _ c.find.result c.find.ensures.ran (λ e b q h. search (rules, tests))
