use Rattle.std.proofs.Common.{rules, tests, arith, ◌∙◌}
use Rattle.std.proofs.lemmas.Iterator.{YieldsList-from_slice, YieldsList-from_zip}
use Rattle.graph.specs.Graph.{ends_in_range}
use Rattle.lowest.proofs.Found.{lowest_found, lowest-zip}
use Rattle.lowest.proofs.lowest_ends.Goals as goal

pub returns : goal.returns
returns c =
    let a = c.args in
    lowest_found (λ p. ends_in_range a.s.kind a.s.rows a.s.columns p.0 p.1) (0, 0) c.position.new.self _ _ c.position.ensures.ran
    (YieldsList-from_zip (YieldsList-from_slice a.row.now cc) (YieldsList-from_slice a.column.now cc)) (λ x b q k. search (rules, tests))
    ∙ lowest-zip (λ p. ends_in_range a.s.kind a.s.rows a.s.columns p.0 p.1) a.row.now a.column.now (0, 0) (omega arith)
