use Rattle.std.proofs.Common.{[], arith}
use Rattle.graph.specs.Graph.{graph_of}
use Rattle.index.proofs.Standing.{standing_none, standing_all}
use Rattle.index.proofs.is_index.Goals as goal

pub loop-e-init : goal.loop-e-init
loop-e-init c = standing_none (graph_of c.args.s c.args.row.now c.args.column.now []) c.args.index.now c.requires.sound

pub returns : goal.returns
returns c =
    let g = graph_of c.args.s c.args.row.now c.args.column.now [] in
    λ t. standing_all g c.requires.sound c.loop-e.invariant (omega (arith, c.loop-e-test.false, c.requires.sound.row_long)) c.vertex_count-n.ensures (c.adds_up.ensures t)
