use Rattle.std.proofs.Common.{rules, tests, ap, ◌∙◌}
use Rattle.graph.specs.Graph.{some?}
use Rattle.dual.specs.Sets.{inside}
use Rattle.lowest.proofs.Found.{some_number}
use Rattle.sets.specs.Words.{marks_of}
use Rattle.sets.proofs.OddSets.has_vertex.Goals as goal

pub returns : goal.returns
returns c =
    let has = inside (marks_of c.args.self) c.args.k in
    some_number c.vertex_count-n.result has _ _ c.any.result c.any.ensures.ran (λ v b q h. search (rules, tests)) ∙ ap (λ m. some? m has) c.vertex_count-n.ensures
