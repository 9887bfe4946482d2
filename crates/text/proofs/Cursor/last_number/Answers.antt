use Rattle.std.proofs.Common.{arith, sym, ◌∙◌}
use Rattle.text.proofs.Shapes.{took, spoilt, one-bad, one_last}
use Rattle.text.proofs.Cursor.last_number.Goals as goal

pub returns-in_err-value : goal.returns-in_err-value
returns-in_err-value g c = c.from_residual.ensures ∙ sym (one-bad _ _ (spoilt _ _ c.args.self c.in_err-value.ensures))

pub no_words-requires : goal.no_words-requires
no_words-requires g c = omega (arith, (took _ _ c.args.self (g.met.T.Number.empty _) c.requires _ _ c.in_ok-value.ensures).inside)

pub returns-then-no_words : goal.returns-then-no_words
returns-then-no_words g c =
    one_last _ _ _ _ _ (took _ _ c.args.self (g.met.T.Number.empty _) c.requires _ _ c.in_ok-value.ensures) _
    (sym c.no_words.ensures ∙ c.if-no_words.true)

pub returns-else-no_words : goal.returns-else-no_words
returns-else-no_words g c =
    one_last _ _ _ _ _ (took _ _ c.args.self (g.met.T.Number.empty _) c.requires _ _ c.in_ok-value.ensures) _
    (sym c.no_words.ensures ∙ c.if-no_words.false)
