-- The sum of the capacities times the prices.
use Rattle.std.proofs.Common.{ℕ, pos, ◌*ℤ◌, ◌/◌, ◌^◌, get_or, refl, arith, rules}
use Rattle.sums.proofs.Totals.{all_added}
use Rattle.sums.proofs.set_total.Goals as goal

pub returns : goal.returns
returns c =
    let a = c.args in
    let f = λ (k : ℕ). pos (get_or a.load k 0 / 2) *ℤ get_or a.set_price.now k (pos 0) in
    all_added f (2 ^ 48) (2 ^ 58) c.sum_of.result c.sum_of.type_inv (c.sum_of.ensures f (2 ^ 48) (λ i x l p. search rules)) refl (omega arith)
