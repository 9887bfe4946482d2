-- The bound counts how often the price is taken.
use Rattle.std.proofs.Common.{arith}
use Rattle.terms.proofs.Products.{scalable, scaled}
use Rattle.sums.proofs.bound_price.Goals as goal

pub scale-requires : goal.scale-requires
scale-requires c =
    let k = c.bound_of in
    let x = c.element in
    scalable x.result k.result x.type_inv (omega (arith, k.ensures.1)) x.ensures.1

pub returns : goal.returns
returns c =
    let b = c.bound_of in
    let x = c.element in
    let r = c.scale in
    let w = scaled r.result x.result b.result r.type_inv x.type_inv (omega (arith, b.ensures.1)) b.ensures.0 x.ensures r.ensures in
    (w.0, omega (arith, w.1))
