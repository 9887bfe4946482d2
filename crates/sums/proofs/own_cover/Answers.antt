-- The three prices are added one after the other.
use Rattle.std.proofs.Common.{◌+ℤ◌, refl, arith}
use Rattle.terms.proofs.Machine.{stored, fits, stored_both}
use Rattle.terms.proofs.Steps.{plus}
use Rattle.sums.proofs.own_cover.Goals as goal

pub returns : goal.returns
returns c =
    let x = c.element-first in
    let y = c.element-second in
    let z = c.element in
    let u = stored x.result +ℤ stored y.result in
    let r = stored u +ℤ stored z.result in
    let p = plus x.result y.result u x.type_inv y.type_inv x.ensures y.ensures refl in
    let q = plus u z.result r (fits u (omega arith) p.1) z.type_inv p z.ensures refl in
    stored_both r (fits r (omega arith) q.1) q.0 (omega (arith, q.1))
