-- The sum of the prices.
use Rattle.std.proofs.Common.{ℕ, pos, ◌^◌, get_or, refl, arith, rules}
use Rattle.sums.proofs.Totals.{all_added}
use Rattle.sums.proofs.edge_total.Goals as goal

pub returns : goal.returns
returns c =
    let a = c.args in
    let f = λ (e : ℕ). get_or a.edge_price.now e (pos 0) in
    all_added f (2 ^ 31) (2 ^ 58) c.sum_of.result c.sum_of.type_inv (c.sum_of.ensures f (2 ^ 31) (λ i x l p. search rules)) refl (omega arith)
