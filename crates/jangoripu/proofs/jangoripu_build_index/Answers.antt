-- What is returned, told and left is what the builder of an index answers.
use Rattle.jangoripu.proofs.Told.{filling_told}
use Rattle.jangoripu.proofs.jangoripu_build_index.Goals as goal

pub returns : goal.returns
returns c =
    let built = c.build_index-told.ensures in
    let given = c.shape_given-s.ensures in
    rw (← given.0, ← given.1, ← given.2, ← given.3)
    (filling_told c.build_index-told.result built.answer built.numbers c.tell.ensures)
