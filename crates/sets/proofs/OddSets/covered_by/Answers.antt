-- The sum of the marks of the covered edges.
use Rattle.std.proofs.Common.{ℕ, ◌*◌, get_or, arith, rules, [], ap, ◌∙◌}
use Rattle.graph.specs.Graph.{graph_of}
use Rattle.integers.specs.Sum.{sum}
use Rattle.dual.specs.Sets.{one, covers}
use Rattle.sets.specs.Words.{marks_of}
use Rattle.sets.proofs.OddSets.covered_by.Goals as goal

pub returns : goal.returns
returns c =
    let f = λ (e : ℕ). get_or c.args.chosen.now e 0 * one (covers (graph_of c.args.s c.args.row.now c.args.column.now []) (marks_of c.args.self) c.args.k e) in
    let w = c.sum_of.ensures f 1 (λ i x l p. search rules) in
    (w.0 ∙ ap (λ m. sum m f) c.requires.sound.1.long, omega (arith, w.1, c.requires.sound.0.sizes.few, c.requires.sound.1.long))
