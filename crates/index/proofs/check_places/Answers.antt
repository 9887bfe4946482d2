use Rattle.std.proofs.Common.{[]}
use Rattle.graph.specs.Graph.{graph_of}
use Rattle.index.proofs.Tested.{holding_passes, place_among}
use Rattle.index.proofs.check_places.Goals as goal

pub returns-then-is_index : goal.returns-then-is_index
returns-then-is_index c =
    holding_passes (graph_of c.args.s c.args.row.now c.args.column.now []) c.args.index.now (c.is_index.ensures c.if-is_index.true)

pub check_each-requires : goal.check_each-requires
check_each-requires c =
    λ k. place_among (graph_of c.args.s c.args.row.now c.args.column.now []) c.args.index.now c.lowest_difference.ensures c.requires.sound
