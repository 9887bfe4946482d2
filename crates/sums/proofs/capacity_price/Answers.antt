-- The capacity counts how often the price is taken.
use Rattle.std.proofs.Common.{pos, ap, arith}
use Rattle.terms.proofs.Products.{scalable, scaled}
use Rattle.sums.proofs.capacity_price.Goals as goal

pub scale-requires : goal.scale-requires
scale-requires c =
    let k = c.capacity in
    let x = c.element in
    scalable x.result k.result x.type_inv (omega (arith, c.requires.0, k.ensures)) x.ensures.1

pub returns : goal.returns
returns c =
    let k = c.capacity in
    let x = c.element in
    let r = c.scale in
    let w = scaled r.result x.result k.result r.type_inv x.type_inv (omega (arith, c.requires.0, k.ensures)) (ap pos k.ensures) x.ensures r.ensures in
    (w.0, omega (arith, w.1))
