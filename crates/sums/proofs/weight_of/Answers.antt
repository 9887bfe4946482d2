-- The sum of the chosen weights.
use Rattle.std.proofs.Common.{ℕ, pos, ◌*ℤ◌, ◌^◌, get_or, refl, arith, rules}
use Rattle.sums.proofs.Totals.{all_added}
use Rattle.sums.proofs.weight_of.Goals as goal

pub returns : goal.returns
returns c =
    let a = c.args in
    let f = λ (e : ℕ). pos (get_or a.chosen.now e 0) *ℤ get_or a.weight.now e (pos 0) in
    all_added f (2 ^ 48) (2 ^ 58) c.sum_of.result c.sum_of.type_inv (c.sum_of.ensures f (2 ^ 48) (λ i x l p. search rules)) refl (omega arith)
