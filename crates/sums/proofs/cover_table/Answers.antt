-- An edge's cover is its own prices and those of the odd sets.
use Rattle.std.proofs.Common.{[], ◌≢◌, ◌<◌, ◌^◌, ◌+ℤ◌, length, refl, arith, ◌∙◌, below_more, length-set, get_or-set_other, get_or-set_same}
use Rattle.graph.specs.Graph.{graph_of}
use Rattle.dual.specs.Gap.{cover_of}
use Rattle.sums.specs.Lent.{prices_in}
use Rattle.terms.proofs.Machine.{stored, fits, stored_both}
use Rattle.terms.proofs.Steps.{plus}
use Rattle.sums.proofs.Covers.{cover_at}
use Rattle.sums.proofs.cover_table.Goals as goal

pub loop-e-preserved : goal.loop-e-preserved
loop-e-preserved c =
    let e = c.loop-e.e in
    let x = c.own_cover in
    let y = c.set_cover in
    let r = stored x.result +ℤ stored y.result in
    let w = plus x.result y.result r x.type_inv y.type_inv x.ensures y.ensures refl in
    let cover = cover_of (graph_of c.args.s c.args.row.now c.args.column.now []) (prices_in c.args.prices) e in
    let v = stored_both r {v = cover} {n = 2 ^ 36} (fits r (omega arith) w.1) (cover_at (prices_in c.args.prices) e c.ends_of-ends.ensures w.0) (omega (arith, w.1)) in
    let lt : e < length c.loop-e.table = omega (arith, c.loop-e.invariant.0, c.requires.sound.row_long, c.requires.sound.sizes.few) in (
      length-set c.loop-e.table e (stored r) ∙ c.loop-e.invariant.0,
      below_more _ _
          (λ j b. let ne : j ≢ e = omega arith in rw get_or-set_other (c.loop-e.invariant.1 j b))
          (rw get_or-set_same v),
    )
