-- What is returned and told is what the test of an index answers.
use Rattle.jangoripu.proofs.Told.{testing_told}
use Rattle.jangoripu.proofs.jangoripu_test_index.Goals as goal

pub returns : goal.returns
returns c =
    let given = c.shape_given-s.ensures in
    rw (← given.0, ← given.1, ← given.2, ← given.3)
    (testing_told c.test_index-told.result c.test_index-told.ensures c.tell.ensures)
