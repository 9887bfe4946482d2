use Rattle.std.proofs.Common.{sym, ◌∙◌, rules}
use Rattle.numerals.specs.Numerals.{natural_empty}
use Rattle.text.proofs.Shapes.{took, spoilt, two_bad, two_last}
use Rattle.text.proofs.two_naturals.Goals as goal

pub returns-in_err-a : goal.returns-in_err-a
returns-in_err-a c = c.from_residual.ensures ∙ sym (two_bad _ _ _ (spoilt _ _ _ c.in_err-a.ensures))

pub last_number-requires : goal.last_number-requires
last_number-requires c = (took _ _ _ (natural_empty _) (search rules) _ _ c.in_ok-a.ensures).inside

pub returns-in_err-b : goal.returns-in_err-b
returns-in_err-b c =
    c.from_residual-in_err-b.ensures
    ∙ two_last _ _ _ _ _ (took _ _ _ (natural_empty _) (search rules) _ _ c.in_ok-a.ensures) _ c.in_err-b.ensures

pub returns : goal.returns
returns c = two_last _ _ _ _ _ (took _ _ _ (natural_empty _) (search rules) _ _ c.in_ok-a.ensures) _ c.in_ok-b.ensures
