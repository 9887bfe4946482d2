use Rattle.std.proofs.Common.{ℕ, ◌&&◌, ltb, get_or, [], rules, tests, ap, ◌∙◌}
use Rattle.graph.specs.Graph.{graph_of}
use Rattle.graph.specs.Refusal.{lowest}
use Rattle.lowest.proofs.Found.{lowest_number}
use Rattle.sets.specs.Words.{marks_of, keeps_rules_by}
use Rattle.sets.proofs.OddSets.lowest_set.Goals as goal

pub returns : goal.returns
returns c =
    let a = c.args in
    let keeps = λ (k : ℕ). ltb k 16 && keeps_rules_by (graph_of a.s a.row.now a.column.now []) (marks_of a.self) k (get_or a.load k 0) in
    lowest_number c.min-count.result keeps _ _ c.find.result c.find.ensures.ran (λ k b q h. search (rules, tests)) ∙ ap (λ m. lowest m keeps) c.min-count.ensures
