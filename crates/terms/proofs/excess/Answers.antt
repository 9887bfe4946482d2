-- What a chosen edge's cover exceeds its worth by.
use Rattle.std.proofs.Common.{ℕ, pos, ◌-ℤ◌, ◌*ℤ◌, get_or, refl, sym, ap, ◌∙◌, arith}
use Rattle.integers.proofs.Order.{one-times}
use Rattle.dual.specs.Gap.{half_points}
use Rattle.terms.proofs.Machine.{stored, fits, stored_both}
use Rattle.terms.proofs.Products.{worth_is}
use Rattle.terms.proofs.Steps.{minus}
use Rattle.terms.proofs.excess.Goals as goal

pub returns-then-chosen-e-eq1 : goal.returns-then-chosen-e-eq1
returns-then-chosen-e-eq1 c =
    let a = c.args in
    let x = c.element in
    let w = c.half_points-worth in
    let over = a.cover -ℤ half_points (get_or a.weight.now a.e (pos 0)) in
    let worth = worth_is x.result w.result x.type_inv x.ensures w.ensures in
    let r = stored a.cover -ℤ stored w.result in
    let d = minus a.cover w.result r c.ranges.cover.sfits w.type_inv (refl, c.requires.within) worth refl in
    stored_both r (fits r (omega arith) d.1) (d.0 ∙ sym (one-times over) ∙ ap (λ (m : ℕ). pos m *ℤ over) (sym c.if-chosen-e-eq1.true)) (omega (arith, d.1))
