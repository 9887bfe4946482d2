-- A term more, and all of them.
use Rattle.std.proofs.Common.{◌<◌, to_z, w64, arith}
use Rattle.integers.proofs.Loops.{summedℤ_all}
use Rattle.sums.proofs.Totals.{total_small, total_more}
use Rattle.sums.proofs.sum_of.Goals as goal

pub loop-i-preserved : goal.loop-i-preserved
loop-i-preserved g c =
    let i = c.loop-i.i in
    let l = c.loop-i-test.true in
    let x = c.term-total in
    let w = c.requires.small i x.result l x.ensures in
    let few : i < 1024 = omega (arith, c.requires.few) in (
      total_small (to_z w64 c.loop-i.total-bits) x.result few c.loop-i.invariant.0 x.type_inv w,
      λ f most h. total_more (to_z w64 c.loop-i.total-bits) x.result few c.loop-i.invariant.0 x.type_inv w (c.loop-i.invariant.1 f most h) l (h i x.result l x.ensures),
    )

pub returns : goal.returns
returns g c = λ f most h. summedℤ_all (c.loop-i.invariant.1 f most h) c.loop-i-test.false
