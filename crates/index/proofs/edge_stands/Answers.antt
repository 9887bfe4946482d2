-- Each end's next place is looked at.
use Rattle.std.proofs.Common.{[], refl}
use Rattle.graph.specs.Graph.{graph_of}
use Rattle.index.proofs.Standing.{first_asks, second_asks, standing_more}
use Rattle.index.proofs.edge_stands.Goals as goal

pub stands_at-requires-clause-from_le_most_index : goal.stands_at-requires-clause-from_le_most_index
stands_at-requires-clause-from_le_most_index c =
    let g = graph_of c.args.s c.args.row.now c.args.column.now [] in
    let pre = c.requires in
    let ends = c.ends_of-ends.ensures in
    (first_asks g pre.sound.0 pre.sound.1 pre.standing ends.0 ends.1 c.offset_numbers-from.ensures pre.index_len).1

pub stands_at-requires-then-stands_at-clause-from_le_most_index : goal.stands_at-requires-then-stands_at-clause-from_le_most_index
stands_at-requires-then-stands_at-clause-from_le_most_index c =
    let g = graph_of c.args.s c.args.row.now c.args.column.now [] in
    let pre = c.requires in
    let ends = c.ends_of-ends.ensures in
    let first = c.stands_at.ensures c.if-stands_at.true in
    (second_asks g pre.sound.0 pre.sound.1 pre.standing ends.0 ends.1 c.offset_numbers-from.ensures first.1 pre.index_len).1

pub returns-then-stands_at : goal.returns-then-stands_at
returns-then-stands_at c =
    let g = graph_of c.args.s c.args.row.now c.args.column.now [] in
    let pre = c.requires in
    let ends = c.ends_of-ends.ensures in
    let first = c.stands_at.ensures c.if-stands_at.true in
    λ t. let second = c.stands_at-then-stands_at.ensures t in
    standing_more g pre.sound.0 pre.sound.1 pre.standing ends.0 ends.1 c.offset_numbers-from.ensures first.1 refl first.0 second.0 second.1
