-- The sum of the bounds, and the ones of the set's 16 words.
use Rattle.std.proofs.Common.{ℕ, ◌≡◌, ◌*◌, ◌+◌, arith, rules, ap, ap₂, ◌∙◌}
use Rattle.graph.specs.Graph.{bound_at}
use Rattle.integers.specs.Integer.{up}
use Rattle.integers.specs.Sum.{sum}
use Rattle.dual.specs.Sets.{one, bit, inside}
use Rattle.sets.specs.Words.{marks_of}
use Rattle.sets.proofs.OddSets.load_of.Goals as goal

pub overflow_add-result : goal.overflow_add-result
overflow_add-result c =
    let f = λ (v : ℕ). one (inside (marks_of c.args.self) c.args.k v) * up (bound_at c.args.bound.now v) in
    let w = c.sum_of-bounds.ensures f 64 (λ i x l p. search rules) in
    omega (arith, w.1)

pub returns : goal.returns
returns c =
    let f = λ (v : ℕ). one (inside (marks_of c.args.self) c.args.k v) * up (bound_at c.args.bound.now v) in
    let w = c.sum_of-bounds.ensures f 64 (λ i x l p. search rules) in
    let e : 64 * (16 * c.args.k) ≡ 1024 * c.args.k = omega arith in (
      ap₂ ◌+◌ (w.0 ∙ ap (λ n. sum n f) c.vertex_count-n.ensures) (c.ones.ensures.0 ∙ ap (λ i. sum c.args.s.edges (λ j. one (bit c.args.self.edges.now (i + j)))) e),
      omega (arith, w.1),
    )
