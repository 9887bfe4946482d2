-- The sum of the prices times what is left of the bounds.
use Rattle.std.proofs.Common.{ℕ, pos, ◌-ℤ◌, ◌*ℤ◌, ◌^◌, get_or, arith, rules}
use Rattle.sums.proofs.Totals.{all_added}
use Rattle.sums.proofs.vertex_slack.Goals as goal

pub returns : goal.returns
returns c =
    let a = c.args in
    let f = λ (v : ℕ). get_or a.vertex_price.now v (pos 0) *ℤ (get_or a.bound.now v (pos 0) -ℤ pos (get_or a.degree v 0)) in
    all_added f (2 ^ 48) (2 ^ 58) c.sum_of.result c.sum_of.type_inv (c.sum_of.ensures f (2 ^ 48) (λ i x l p. search rules)) c.vertex_count-n.ensures (omega arith)
