use Rattle.std.proofs.Common.{◌≡◌, ◌&&◌, eqb, length, arith}
use Rattle.std.proofs.lemmas.Bool.Decides.{nat_tests}
use Rattle.graph.specs.Graph.{graph_of, vertices}
use Rattle.lent.proofs.Bounded.{bound_among}
use Rattle.lent.proofs.check_bounded.Goals as goal
use Rattle.lent.proofs.check_bounded.Goals.{then-long, else-long}

pub check_each-requires : goal.check_each-requires
check_each-requires c =
    let a = c.args in
    let g = graph_of a.s a.row.now a.column.now a.weight.now in
    let told : c.if-long.check_lent ≡ (eqb (length a.bound.now) (vertices g) && a.others) =
    elim c.if-long.branch [ then-long w ↦ grind (arith, nat_tests) | else-long w ↦ grind (arith, nat_tests) ] in
    bound_among g a.bound.now a.others c.if-long.check_lent told c.check_lent.ensures c.in_ok-check_lent.was c.lowest_bound.ensures
