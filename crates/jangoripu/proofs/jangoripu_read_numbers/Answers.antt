-- What is returned, told and left is what the reader of numbers answers.
use Rattle.jangoripu.proofs.Told.{filling_told}
use Rattle.jangoripu.proofs.jangoripu_read_numbers.Goals as goal

pub returns : goal.returns
returns c =
    let read = c.read_numbers-told.ensures in
    rw (← c.numbers_of-what.ensures) (filling_told c.read_numbers-told.result read.answer read.numbers c.tell.ensures)
