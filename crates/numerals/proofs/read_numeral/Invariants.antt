use Rattle.numerals.proofs.Digits.{Reading}
use Rattle.numerals.proofs.read_numeral.Given as goal

abbrev pub invariant-loop-d : goal.invariant-loop-d
invariant-loop-d l = Reading l.w l.n l.d-index
