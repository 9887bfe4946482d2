-- The sum of the prices times what is left of the capacities.
use Rattle.std.proofs.Common.{ℕ, pos, ◌-ℤ◌, ◌*ℤ◌, ◌/◌, ◌^◌, get_or, refl, arith, rules}
use Rattle.sums.proofs.Totals.{all_added}
use Rattle.sums.proofs.set_slack.Goals as goal

pub returns : goal.returns
returns c =
    let a = c.args in
    let f = λ (k : ℕ). get_or a.set_price.now k (pos 0) *ℤ (pos (get_or a.load k 0 / 2) -ℤ pos (get_or a.covered k 0)) in
    all_added f (2 ^ 48) (2 ^ 58) c.sum_of.result c.sum_of.type_inv (c.sum_of.ensures f (2 ^ 48) (λ i x l p. search rules)) refl (omega arith)
