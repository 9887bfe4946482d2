-- The loop stops at a word with a bit, or has seen all words.
use Rattle.std.proofs.Common.{refl, sym, ◌∙◌}
use Rattle.bits.proofs.Row.{clear_more, clear_found, clear_all}
use Rattle.bits.proofs.any_from.Goals as goal

pub returns-then-above : goal.returns-then-above
returns-then-above c = clear_found c.loop-i.invariant refl c.left.ensures c.loop-i-test.true (sym c.if-above.true ∙ c.above.ensures)

pub loop-i-preserved : goal.loop-i-preserved
loop-i-preserved c = clear_more c.loop-i.invariant refl c.left.ensures c.loop-i-test.true (sym c.if-above.false ∙ c.above.ensures)

pub returns : goal.returns
returns c = clear_all c.loop-i.invariant c.loop-i-test.false
