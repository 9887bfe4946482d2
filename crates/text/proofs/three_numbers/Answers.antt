use Rattle.std.proofs.Common.{◌∙◌}
use Rattle.text.proofs.Shapes.{first_spoilt, first_took, second_spoilt, second_took, third_as}
use Rattle.text.proofs.three_numbers.Goals as goal

pub returns-in_err-a : goal.returns-in_err-a
returns-in_err-a g c = c.from_residual.ensures ∙ first_spoilt c.args.rules _ _ c.in_err-a.ensures

pub next_number-requires-2 : goal.next_number-requires-2
next_number-requires-2 g c = (first_took c.args.rules (g.T.Number.spelled c.args.rules) _ c.in_ok-a.ensures).inside

pub returns-in_err-b : goal.returns-in_err-b
returns-in_err-b g c = c.from_residual-in_err-b.ensures ∙ second_spoilt c.args.rules _ _ c.in_ok-a.ensures c.in_err-b.ensures

pub last_number-requires : goal.last_number-requires
last_number-requires g c = (second_took c.args.rules (g.T.Number.spelled c.args.rules) _ c.in_ok-a.ensures c.in_ok-b.ensures).inside

pub returns-in_err-c : goal.returns-in_err-c
returns-in_err-c g c = c.from_residual-in_err-c.ensures ∙ third_as c.args.rules _ _ c.in_ok-a.ensures c.in_ok-b.ensures c.in_err-c.ensures

pub returns : goal.returns
returns g c = third_as c.args.rules _ _ c.in_ok-a.ensures c.in_ok-b.ensures c.in_ok-c.ensures
