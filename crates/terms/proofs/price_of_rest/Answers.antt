-- The price times what the used leave of the most.
use Rattle.std.proofs.Common.{◌-ℤ◌, ◌*ℤ◌, arith}
use Rattle.terms.proofs.Machine.{stored, fits, stored_both}
use Rattle.terms.proofs.Products.{rested}
use Rattle.terms.proofs.price_of_rest.Goals as goal

pub overflow_mul-result : goal.overflow_mul-result
overflow_mul-result c =
    let x = c.from in
    let y = c.from-2 in
    let h = c.requires in
    let p = rested c.args.price x.result y.result c.ranges.price.sfits x.type_inv y.type_inv x.ensures y.ensures (omega arith) (omega arith) h.2 in
    record { sfits = fits (stored c.args.price *ℤ stored (stored x.result -ℤ stored y.result)) (omega arith) p.1 }

pub returns : goal.returns
returns c =
    let x = c.from in
    let y = c.from-2 in
    let h = c.requires in
    let r = stored c.args.price *ℤ stored (stored x.result -ℤ stored y.result) in
    let p = rested c.args.price x.result y.result c.ranges.price.sfits x.type_inv y.type_inv x.ensures y.ensures (omega arith) (omega arith) h.2 in
    stored_both r (fits r (omega arith) p.1) p.0 p.1
