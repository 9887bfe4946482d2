use Rattle.std.proofs.Common.{arith, sym, ◌∙◌}
use Rattle.std.proofs.lemmas.Bool.Decides.{nat_tests}
use Rattle.numerals.proofs.Digits.{numeral-short, numeral-long, reading_starts, reading_small, reading_stops, reading_more, reading_end}
use Rattle.numerals.proofs.read_numeral.Goals as goal
use Rattle.numerals.proofs.read_numeral.Goals.{then-is_empty-via-then-is_empty, then-is_empty-via-else-is_empty+then-w-gt-MOST_DIGITS}

pub returns-then-is_empty : goal.returns-then-is_empty
returns-then-is_empty c =
    elim c.then-is_empty.branch [
      | then-is_empty-via-then-is_empty w ↦ sym (numeral-short _ (grind (arith, nat_tests)))
      | then-is_empty-via-else-is_empty+then-w-gt-MOST_DIGITS w ↦ sym (numeral-long _ w.if-w-gt-MOST_DIGITS.true)
    ]

pub loop-d-init : goal.loop-d-init
loop-d-init c = reading_starts _ (grind (arith, nat_tests)) c.if-w-gt-MOST_DIGITS.false

pub returns-then-not-is_ascii_digit : goal.returns-then-not-is_ascii_digit
returns-then-not-is_ascii_digit c = sym (reading_stops _ _ _ c.loop-d.invariant c.loop-d-test.true (sym c.is_ascii_digit.ensures.value ∙ c.if-not-is_ascii_digit.true))

pub overflow_mul-n : goal.overflow_mul-n
overflow_mul-n c = omega (arith, reading_small _ _ _ c.loop-d.invariant c.loop-d-test.true)

pub overflow_add-n : goal.overflow_add-n
overflow_add-n c = omega (arith, reading_small _ _ _ c.loop-d.invariant c.loop-d-test.true, c.from.ensures, c.type_inv.w c.loop-d.d-index)

pub loop-d-preserved : goal.loop-d-preserved
loop-d-preserved c =
    rw c.from.ensures
    (reading_more _ _ _ c.loop-d.invariant c.loop-d-test.true (sym c.is_ascii_digit.ensures.value ∙ c.if-not-is_ascii_digit.false))

pub returns : goal.returns
returns c = sym (reading_end _ _ _ c.loop-d.invariant c.loop-d-test.false)
