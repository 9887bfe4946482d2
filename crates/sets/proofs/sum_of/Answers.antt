-- A term more, and all of them.
use Rattle.std.proofs.Common.{arith}
use Rattle.integers.proofs.Loops.{summed_more, summed_all}
use Rattle.sets.proofs.sum_of.Goals as goal

pub loop-i-preserved : goal.loop-i-preserved
loop-i-preserved g c =
    let l = c.loop-i-test.true in
    let r = c.requires.small c.loop-i.i c.term-total.result l c.term-total.ensures in
    (omega arith, λ f most h. summed_more (c.loop-i.invariant.1 f most h) l (h c.loop-i.i c.term-total.result l c.term-total.ensures))

pub returns : goal.returns
returns g c = λ f most h. summed_all (c.loop-i.invariant.1 f most h) c.loop-i-test.false
