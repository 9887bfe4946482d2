use Rattle.std.proofs.Common.{not, sym, ap, ◌∙◌}
use Rattle.lowest.proofs.Scan.{kept_none, kept_broken, kept_all}
use Rattle.checks.proofs.Table.{seen_start, seen_flag}
use Rattle.checks.proofs.lowest_repeat.Goals as goal

pub loop-e-init : goal.loop-e-init
loop-e-init c = record { kept = kept_none; seen = seen_start _ _ }

pub returns-then-note : goal.returns-then-note
returns-then-note c =
    let inv = c.loop-e.invariant in
    let ends = c.requires.by_index c.loop-e.e c.loop-e-test.true in
    kept_broken inv.kept c.loop-e-test.true (ap not (sym (c.note.ensures.value ∙ seen_flag inv.seen ends.0 ends.1) ∙ c.if-note.true))

pub returns : goal.returns
returns c = kept_all c.loop-e.invariant.kept c.loop-e-test.false
