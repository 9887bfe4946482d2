use Rattle.std.proofs.Common.{rules, tests, arith, ◌∙◌, pos}
use Rattle.std.specs.Int.Signed.{le_z}
use Rattle.std.proofs.lemmas.Iterator.{YieldsList-from_slice, YieldsList-from_zip}
use Rattle.lowest.proofs.Found.{lowest_found, lowest-zip}
use Rattle.lowest.proofs.lowest_over.Goals as goal

pub returns : goal.returns
returns c =
    let a = c.args in
    lowest_found (λ p. le_z (pos p.1) p.0) (pos 0, 0) c.position.new.self _ _ c.position.ensures.ran
    (YieldsList-from_zip (YieldsList-from_slice a.bound.now cc) (YieldsList-from_slice a.degree cc)) (λ x b q k. search (rules, tests))
    ∙ lowest-zip (λ p. le_z (pos p.1) p.0) a.bound.now a.degree (pos 0, 0) (omega arith)
