-- A word that is a number is put as it is written anew, which takes no more room.
use Rattle.std.proofs.Common.{rules, arith}
use Rattle.std.proofs.lemmas.Int.{ints}
use Rattle.digits.proofs.Appending.{appends_same}
use Rattle.anew.proofs.Put.{number_word, number_room}
use Rattle.anew.proofs.put_word.Goals as goal

pub bytes-requires-2 : goal.bytes-requires-2
bytes-requires-2 c =
    number_room c.args.word.now c.read_integer.ensures c.in-Some.is c.cleared-digits.ensures.start c.signed.ensures.written (omega (arith, ints)) (search rules)
    _ _ c.requires

pub returns : goal.returns
returns c =
    appends_same c.bytes-2.ensures
    (number_word c.args.word.now c.read_integer.ensures c.in-Some.is c.cleared-digits.ensures.start c.signed.ensures.written (omega (arith, ints)) (search rules))
