-- A word adds the ones of its low bits.
use Rattle.std.proofs.Common.{◌+◌, ◌%◌, ◌^◌, get_or, refl, ap, ◌∙◌, arith}
use lib.Count.{ones-le}
use Rattle.bits.proofs.Row.{counted_small, counted_more, counted_all}
use Rattle.bits.proofs.ones.Goals as goal

pub overflow_add-total : goal.overflow_add-total
overflow_add-total c = omega (arith, counted_small c.loop-i.invariant, ones-le 64 c.low.result c.low.type_inv)

pub loop-i-preserved : goal.loop-i-preserved
loop-i-preserved c =
    let word = get_or c.args.words.now (c.args.from + c.loop-i.i) 0 in
    counted_more c.loop-i.invariant (c.low.ensures ∙ ap (λ a. word % 2 ^ a) c.left.ensures) c.low.type_inv c.loop-i-test.true refl

pub returns : goal.returns
returns c = counted_all c.loop-i.invariant c.loop-i-test.false c.requires.2
