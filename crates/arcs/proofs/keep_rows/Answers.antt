-- One row vertex more.
use Rattle.std.proofs.Common.{◌≡◌, ◌<◌, length, arith, rules}
use Rattle.method.proofs.Solvable.{few, root_in}
use Rattle.method.proofs.Places.{start-in}
use Rattle.arcs.proofs.Rows.{row_placed, bounds_again, readable, rises, kept_more, keeps_here}
use Rattle.arcs.proofs.keep_rows.Goals as goal

pub keep_row-last-requires-clause-r_bound : goal.keep_row-last-requires-clause-r_bound
keep_row-last-requires-clause-r_bound c =
    let net = c.requires.solvable in
    (root_in net c.loop-r-test.true, few net, start-in net c.requires.index_value (omega arith))

pub keep_row-last-requires-clause-r_bound_2 : goal.keep_row-last-requires-clause-r_bound_2
keep_row-last-requires-clause-r_bound_2 c = rises c.requires.solvable c.requires.index_value c.loop-r-test.true

pub keep_row-last-requires-clause-by_index : goal.keep_row-last-requires-clause-by_index
keep_row-last-requires-clause-by_index c = λ i a b. readable c.requires.solvable c.requires.index_value c.loop-r-test.true a b

pub bounds-index-r : goal.bounds-index-r
bounds-index-r c = start-in c.requires.solvable c.requires.index_value (omega (arith, root_in c.requires.solvable c.loop-r-test.true))

pub loop-r-preserved : goal.loop-r-preserved
loop-r-preserved c =
    let net = c.requires.solvable in
    let I = c.loop-r.invariant in
    let rows : c.loop-r.r < 128 = omega (arith, root_in net c.loop-r-test.true, few net) in
    let start_long : length c.loop-r.table.start ≡ 128 = search rules in
    let stop_long : length c.loop-r.table.stop ≡ 128 = grind arith in
    let p = row_placed c.loop-r.table c.loop-r.r _ c.keep_row-last.result (omega (arith, start_long, rows)) (omega (arith, stop_long, rows)) in
    let is = c.requires.index_value in
    let row = c.keep_row-last.ensures in
    record {
      kept = kept_more net is c.loop-r-test.true (keeps_here net is c.loop-r-test.true I.bounds) I.kept row.kept_row row.same_arcs p;
      bounds = bounds_again I.bounds p.bounds;
    }
