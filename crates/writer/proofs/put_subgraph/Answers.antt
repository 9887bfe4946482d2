use Rattle.std.proofs.Common.{rules, arith, refl, ◌∙◌, ◌≡◌, length}
use lib.ListN.{length-replicate}
use Rattle.writer.proofs.Subgraph.{edges-start, edges_more, edges-end, head-room, subgraph_appends}
use Rattle.writer.proofs.Zeros.{begun, whole}
use Rattle.writer.proofs.put_subgraph.Goals as goal

pub loop-e-init : goal.loop-e-init
loop-e-init c =
    let q = c.requires.sound in
    let k = c.put_head-w.ensures in
    edges-start q.0 q.1 c.put_head-w.result
    (head-room q.0 q.1 c.count_chosen.ensures refl (begun c.put_head-w.result k.written k.long) (length-replicate (length c.args.out.now) 0 ∙ c.requires.out_len))

pub loop-e-preserved : goal.loop-e-preserved
loop-e-preserved c =
    let q = c.requires.sound in
    edges_more q.0 q.1 c.loop-e.invariant c.loop-e-test.true c.put_chosen_edge.ensures

pub returns : goal.returns
returns c =
    let q = c.requires.sound in
    let k = c.put_head-w.ensures in
    let all : c.loop-e.e ≡ length c.args.row.now = omega arith in
    λ ws. whole refl refl c.requires.out_len
    (subgraph_appends q.0 q.1 c.count_chosen.ensures refl (begun c.put_head-w.result k.written k.long) (length-replicate (length c.args.out.now) 0 ∙ c.requires.out_len) ws
    (edges-end q.0 q.1 c.loop-e.invariant all ws))
    (search rules)
