-- What is returned, told and left is what the pricing call answers.
use Rattle.jangoripu.proofs.Told.{testing_told}
use Rattle.jangoripu.proofs.jangoripu_price_general.Goals as goal

pub returns : goal.returns
returns c =
    let priced = c.price_general-told.ensures in
    let given = c.shape_given-s.ensures in
    rw (← given.0, ← given.1, ← given.2, ← given.3)
    (record { answers = testing_told c.price_general-told.result priced.answer c.tell.ensures; leaves = priced.prices })
