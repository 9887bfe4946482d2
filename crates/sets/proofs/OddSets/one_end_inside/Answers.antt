use Rattle.std.proofs.Common.{ℕ, not, ◌||◌, eqb, [], length, rules, tests, ap, ◌∙◌}
use Rattle.graph.specs.Graph.{graph_of, every}
use Rattle.dual.specs.Sets.{marked, ends_inside}
use Rattle.lowest.proofs.Found.{every_number}
use Rattle.sets.specs.Words.{marks_of}
use Rattle.sets.proofs.OddSets.one_end_inside.Goals as goal

pub returns : goal.returns
returns c =
    let a = c.args in
    let O = marks_of a.self in
    let keeps = λ (e : ℕ). not (marked O a.k e) || eqb (ends_inside (graph_of a.s a.row.now a.column.now []) O a.k e) 1 in
    every_number (length a.row.now) keeps _ _ c.all.result c.all.ensures.ran (λ e b q h. search (rules, tests)) ∙ ap (λ m. every m keeps) c.requires.sound.row_long
