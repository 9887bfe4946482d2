-- Each turn puts one line, and the byte 10 after it.
use Rattle.std.proofs.Common.{sym, ◌∙◌}
use Rattle.text.proofs.Lined.{done, lined}
use Rattle.anew.proofs.Loops.{text_starts, text_ends, end_room, text_more}
use Rattle.anew.proofs.put_text.Goals as goal

pub loop-found-init : goal.loop-found-init
loop-found-init c = text_starts _ _

pub slice_bounds-line-end : goal.slice_bounds-line-end
slice_bounds-line-end c = (lined c.args.s.now c.loop-found.c c.in-Some.found (sym c.in-Some.is ∙ c.next_line.ensures)).inside

pub put_byte-requires : goal.put_byte-requires
put_byte-requires c =
    let g = lined c.args.s.now c.loop-found.c c.in-Some.found (sym c.in-Some.is ∙ c.next_line.ensures) in
    end_room c.loop-found.invariant c.requires g c.has_begun-begun.ensures c.put_line_from.ensures

pub loop-found-preserved : goal.loop-found-preserved
loop-found-preserved c =
    let g = lined c.args.s.now c.loop-found.c c.in-Some.found (sym c.in-Some.is ∙ c.next_line.ensures) in
    text_more c.loop-found.invariant c.requires g c.has_begun-begun.ensures c.put_line_from.ensures c.put_byte.ensures

pub returns : goal.returns
returns c = text_ends c.loop-found.invariant (done c.args.s.now c.loop-found.c (sym c.in_default.is ∙ c.next_line.ensures))
