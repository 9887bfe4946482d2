-- One edge more.
use Rattle.std.proofs.Common.{◌≡◌, ◌<◌, length, arith, rules}
use Rattle.arcs.proofs.Row.{read, same-stored, row_more}
use Rattle.arcs.proofs.keep_row.Goals as goal

pub loop-i-preserved : goal.loop-i-preserved
loop-i-preserved c =
    let K = c.loop-i.invariant.kept in
    let long : length c.loop-i.arcs ≡ 1024 = search rules in
    let few : c.loop-i.k < length c.loop-i.arcs = omega (arith, K.high, c.loop-i-test.true, (c.requires.by_index c.loop-i.i c.loop-i.auto.i c.loop-i-test.true).few, long) in
    record {
      kept = row_more K (read c.args.index.now c.loop-i.i c.vertex_count-n.ensures c.edge_at-e.ensures) few c.keep_edge-k.ensures.stored c.keep_edge-k.ensures.value;
      same = same-stored _ K.low c.loop-i.invariant.same c.keep_edge-k.ensures.stored;
    }
