-- The sum of the prices of the covering odd sets.
use Rattle.std.proofs.Common.{ℕ, pos, ◌*ℤ◌, ◌^◌, get_or, refl, arith, rules}
use Rattle.dual.specs.Sets.{one}
use Rattle.sets.specs.Words.{marks_of, covers_by}
use Rattle.sums.proofs.Totals.{all_added}
use Rattle.sums.proofs.set_cover.Goals as goal

pub returns : goal.returns
returns c =
    let a = c.args in
    let f = λ (k : ℕ). pos (one (covers_by (marks_of a.prices.marks) k a.e a.ends.first a.ends.second)) *ℤ get_or a.prices.set.now k (pos 0) in
    all_added f (2 ^ 31) (2 ^ 35) c.sum_of.result c.sum_of.type_inv (c.sum_of.ensures f (2 ^ 31) (λ i x l p. search rules)) refl (omega arith)
