use Rattle.std.proofs.Common.{◌≡◌, length, not, refl, ap, ◌∙◌, arith}
use Rattle.text.proofs.Scans.{scan_more, scan_stop, scan_end}
use Rattle.text.proofs.find.Goals as goal

pub loop-i-init : goal.loop-i-init
loop-i-init g c = λ p t. (c.requires.inside, refl)

pub returns-then-stops-clause-place : goal.returns-then-stops-clause-place
returns-then-stops-clause-place g c = λ p t. scan_stop p _ _ _ (c.loop-i.invariant p t) c.loop-i-test.true (t _ _ c.stops.ensures ∙ ap not c.if-stops.true)

pub loop-i-preserved : goal.loop-i-preserved
loop-i-preserved g c = λ p t. scan_more p _ _ _ (c.loop-i.invariant p t) c.loop-i-test.true (t _ _ c.stops.ensures ∙ ap not c.if-stops.false)

pub returns-clause-place : goal.returns-clause-place
returns-clause-place g c = λ p t. let e : length c.args.s.now ≡ c.loop-i.i = omega arith in e ∙ scan_end p _ _ _ (c.loop-i.invariant p t) c.loop-i-test.false
