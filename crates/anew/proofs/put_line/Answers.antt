-- Each turn puts one word, and the blank after it.
use Rattle.anew.proofs.Turn.{turn_starts, room_byte, turn_more, turn_ends}
use Rattle.anew.proofs.Loops.{word_piece, word_rest, word_shorter, no_word_left}
use Rattle.anew.proofs.put_line.Goals as goal

pub loop-i-init : goal.loop-i-init
loop-i-init c = turn_starts _ _ _

pub put_byte-requires : goal.put_byte-requires
put_byte-requires c =
    let P = word_piece c.args.line.now c.loop-i.i c.loop-i-test.true _ c.word-word.ensures.part in
    room_byte c.loop-i.invariant c.requires P c.put_word.ensures (word_shorter _)

pub loop-i-preserved : goal.loop-i-preserved
loop-i-preserved c =
    let P = word_piece c.args.line.now c.loop-i.i c.loop-i-test.true _ c.word-word.ensures.part in
    turn_more c.loop-i.invariant c.requires P c.put_word.ensures (word_shorter _) c.put_byte.ensures (word_rest P)

pub returns : goal.returns
returns c = turn_ends c.loop-i.invariant (no_word_left c.args.line.now c.loop-i.i c.loop-i-test.false)
