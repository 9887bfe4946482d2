use Rattle.std.proofs.Common.{rules, arith, refl, ◌≡◌, ◌∙◌, length}
use lib.ListN.{length-replicate}
use Rattle.graph_writer.proofs.Lines.{edges-start, edges_more, edges-end, edge_within, line-room, head-room, graph_appends}
use Rattle.writer.proofs.Zeros.{begun, whole}
use Rattle.graph_writer.proofs.put_graph.Goals as goal

pub loop-e-init : goal.loop-e-init
loop-e-init c =
    let k = c.put_head-w.ensures in
    edges-start c.requires.ordered c.put_head-w.result
    (head-room c.requires.ordered refl (length-replicate (length c.args.out.now) 0 ∙ c.requires.out_len) (begun c.put_head-w.result k.written k.long))

pub put_weighted_edge-requires : goal.put_weighted_edge-requires
put_weighted_edge-requires c =
    let O = c.requires.ordered in
    let lt = c.loop-e-test.true in
    record { room = line-room O c.loop-e.e-index lt c.loop-e.invariant; e_in_bounds = edge_within O c.loop-e.e-index lt }

pub loop-e-preserved : goal.loop-e-preserved
loop-e-preserved c = edges_more c.requires.ordered c.loop-e.e-index c.loop-e-test.true c.loop-e.invariant c.put_weighted_edge.ensures

pub returns : goal.returns
returns c =
    let k = c.put_head-w.ensures in
    let all : c.loop-e.e-index ≡ length c.args.order.now = omega arith in
    let O = c.requires.ordered in
    whole refl refl c.requires.out_len
    (graph_appends O refl (length-replicate (length c.args.out.now) 0 ∙ c.requires.out_len) (begun c.put_head-w.result k.written k.long) (edges-end O c.loop-e.invariant all))
    (search rules)
