use Rattle.std.proofs.Common.{arith, sym, ◌∙◌}
use Rattle.numerals.proofs.Integers.{small, plus_small, minus_small, integer-plus, integer-minus, integer-plain, integer-short}
use Rattle.numerals.proofs.read_integer.Goals as goal

pub plus-requires : goal.plus-requires
plus-requires c = rw (c.after_plus.ensures, c.read_natural.ensures) (plus_small _ _ (small _ _))

pub minus-requires : goal.minus-requires
minus-requires c = rw (c.after_minus.ensures, c.read_natural-in-45.ensures) (minus_small _ _ (small _ _))

pub plus-requires-in_default : goal.plus-requires-in_default
plus-requires-in_default c = rw c.read_natural-in_default.ensures (small _ _)

pub returns-in-empty : goal.returns-in-empty
returns-in-empty c = sym (integer-short _ _ c.in-empty.len_below)

pub returns-in-43 : goal.returns-in-43
returns-in-43 c =
    c.plus.ensures ∙ rw (c.after_plus.ensures, c.read_natural.ensures) (sym (integer-plus c.args.rules c.args.w.now c.in-43.len_at_least (omega arith)))

pub returns-in-45 : goal.returns-in-45
returns-in-45 c =
    c.minus.ensures
    ∙ rw (c.after_minus.ensures, c.read_natural-in-45.ensures)
    (sym (integer-minus c.args.rules c.args.w.now c.in-45.len_at_least (omega arith)))

pub returns-in_default : goal.returns-in_default
returns-in_default c =
    c.plus-in_default.ensures
    ∙ rw c.read_natural-in_default.ensures
    (sym (integer-plain c.args.rules c.args.w.now (omega arith) (λ e. omega arith) (λ e. omega arith)))
