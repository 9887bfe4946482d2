-- The list of one column vertex more begins.
use Rattle.std.proofs.Common.{◌≡◌, ◌-◌, ◌<◌, length, arith, rules}
use mathlib.Core.Path.{ap₂}
use Rattle.graph.specs.Graph.{graph_of}
use Rattle.graph.proofs.Index.{offset-more}
use Rattle.method.proofs.Solvable.{few, rows_in}
use Rattle.method.proofs.Places.{start-in, start}
use Rattle.arcs.proofs.Rows.{begun_more}
use Rattle.arcs.proofs.begin_lists.Goals as goal

pub bounds-index-c : goal.bounds-index-c
bounds-index-c c = start-in c.requires.solvable c.requires.index_value (omega (arith, c.loop-c-test.true, c.vertex_count-n.ensures))

pub bounds-index-s : goal.bounds-index-s
bounds-index-s c = start-in c.requires.solvable c.requires.index_value (rows_in c.requires.solvable)

pub overflow_sub-table : goal.overflow_sub-table
overflow_sub-table c =
    let net = c.requires.solvable in
    let is = c.requires.index_value in
    let a = c.args in
    omega (
      arith,
      start net is {v = c.loop-c.c} (omega (arith, c.loop-c-test.true, c.vertex_count-n.ensures)),
      start net is {v = a.s.rows} (rows_in net),
      offset-more (graph_of a.s a.row.now a.column.now a.weight.now) a.s.rows c.loop-c.c c.loop-c.auto.c,
    )

pub loop-c-preserved : goal.loop-c-preserved
loop-c-preserved c =
    let net = c.requires.solvable in
    let is = c.requires.index_value in
    let here = start net is {v = c.loop-c.c} (omega (arith, c.loop-c-test.true, c.vertex_count-n.ensures)) in
    let long : length c.loop-c.table.start ≡ 128 = search rules in
    let low : c.loop-c.c < length c.loop-c.table.start = omega (arith, long, few net, c.loop-c-test.true, c.vertex_count-n.ensures) in
    begun_more c.loop-c.invariant low c.loop-c.auto.c (ap₂ ◌-◌ here (start net is {v = c.args.s.rows} (rows_in net)))
