-- The three parts are added one after the other.
use Rattle.std.proofs.Common.{◌+ℤ◌, refl, arith}
use Rattle.terms.proofs.Machine.{stored, fits, stored_both}
use Rattle.terms.proofs.Steps.{plus}
use Rattle.terms.proofs.total_parts.Goals as goal

pub returns : goal.returns
returns c =
    let a = c.args in
    let u = stored a.vertices +ℤ stored a.odd in
    let r = stored u +ℤ stored a.own in
    let p = plus a.vertices a.odd u c.ranges.vertices.sfits c.ranges.odd.sfits (refl, c.requires.0) (refl, c.requires.1) refl in
    let q = plus u a.own r (fits u (omega arith) p.1) c.ranges.own.sfits p (refl, c.requires.2) refl in
    stored_both r (fits r (omega arith) q.1) q.0 (omega (arith, q.1))
