-- `augment::augment` meets its contract and ends: the loop keeps that the walk goes on, with the lists, and the count of labels left falls.
use mathlib.Core.Logic.{◌≢◌}
use native.Mathlib.Omega.{arith}
use lib.ListN.{length}
use Rattle.augment.proofs.Going.{Going, starts, vertex_low, is-sound, marks_long, some_left, edge_inside, edge_low, edge_in-marks, mark_low, hole_fits, goes, arrives, keeps-lists}
use Rattle.augment.proofs.augment.Statement.{statement}
use Rattle.augment.proofs.augment.Tie as tie

abbrev invariant-loop : tie.invariant-loop-vertex
invariant-loop chosen₀ list₀ place₀ s row column label root v gap vertex₀ hole₀ left₀ chosen list place vertex hole left =
    Going s row column label root v chosen₀ (length list₀) vertex left chosen list place hole

abbrev decreases-loop : tie.decreases-loop-vertex
decreases-loop chosen₀ list₀ place₀ s row column label root v gap vertex₀ hole₀ left₀ chosen list place vertex hole left = left

-- A turn of the loop, where the walk is not at the root.
abbrev Turn : Type 0
Turn = tie.In-loop-vertex invariant-loop decreases-loop

away : (c : Turn) → c.loop-vertex.vertex ≢ c.args.root
away c = λ q. omega (arith, q, c.loop-vertex-test.true)

loop-holds : tie.Need-loop-vertex-init invariant-loop decreases-loop
loop-holds c = let start = c in starts start.requires.0 start.requires.1

mul-edge : tie.Need-offset_bounds-label-vertex invariant-loop decreases-loop
mul-edge c = omega (arith, vertex_low c.loop-vertex.invariant)

element-copy-out-edge : tie.Need-bounds-label-vertex invariant-loop decreases-loop
element-copy-out-edge c = vertex_low c.loop-vertex.invariant

cast-other-end : tie.Need-overflow_cast-edge invariant-loop decreases-loop
cast-other-end c = let turn = c in omega (arith, edge_low turn.loop-vertex.invariant (away turn.before.before))

other-end-requires : tie.Need-other_end-next-requires invariant-loop decreases-loop
other-end-requires c κs = let turn = c in let going = turn.loop-vertex.invariant in (is-sound going, edge_inside going (away turn.before.before))

cast-relist : tie.Need-overflow_cast-edge-in-loop-vertex invariant-loop decreases-loop
cast-relist c = let turn = c in omega (arith, edge_low turn.loop-vertex.invariant (away turn.before.before.before))

slice-read-relist : tie.Need-bounds-chosen-edge invariant-loop decreases-loop
slice-read-relist c = let turn = c in edge_in-marks turn.loop-vertex.invariant (away turn.before.before.before.before)

relist-requires : tie.Need-relist-hole-requires invariant-loop decreases-loop
relist-requires c κs =
    let turn = c in
    let going = turn.loop-vertex.invariant in
    (edge_low going (away turn.before.before.before.before.before.before), hole_fits going (away turn.before.before.before.before.before.before))

cast-flip : tie.Need-overflow_cast-edge-in-loop-vertex-2 invariant-loop decreases-loop
cast-flip c = let turn = c in omega (arith, edge_low turn.loop-vertex.invariant (away turn.before.before.before.before.before.before.before.before.before))

flip-requires : tie.Need-flip-requires invariant-loop decreases-loop
flip-requires c κs =
    let turn = c in
    let going = turn.loop-vertex.invariant in
    (edge_in-marks going (away turn.before.before.before.before.before.before.before.before.before), mark_low going (away turn.before.before.before.before.before.before.before.before.before))

sub-left : tie.Need-overflow_sub-left invariant-loop decreases-loop
sub-left c =
    let at-relist = c in
    let turn = at-relist in
    some_left turn.loop-vertex.invariant

loop-less : tie.Need-loop-vertex-smaller invariant-loop decreases-loop
loop-less c =
    let at-relist = c in
    let turn = at-relist in
    omega (arith, some_left turn.loop-vertex.invariant)

loop-again : tie.Need-loop-vertex-preserved invariant-loop decreases-loop
loop-again c =
    let at-flip = c in
    let at-relist = at-flip in
    let at-other-end = at-relist in
    let turn = at-other-end in
    let going = turn.loop-vertex.invariant in
    goes going (away turn.before.before.before.before.before.before.before.before.before.before.before.before) at-flip.flip.ensures at-other-end.other_end-next.ensures at-relist.relist-hole.ensures (omega (arith, some_left going))

same_length : tie.Need-shape_of-chosen invariant-loop decreases-loop
same_length c = marks_long c.loop-vertex.invariant

same-length-2 : tie.Need-shape_of-list invariant-loop decreases-loop
same-length-2 c = c.loop-vertex.invariant.list_length

returns : tie.Need-returns invariant-loop decreases-loop
returns c =
    let going = c.loop-vertex.invariant in
    (arrives going (omega (arith, c.loop-vertex-test.false)), (keeps-lists going (omega (arith, c.loop-vertex-test.false)), going.lists.place_long))

pub augment_spec : {M : Type 1} → statement M
augment_spec =
    tie.close
    (tie.spec
    invariant-loop
    decreases-loop
    loop-holds
    mul-edge
    element-copy-out-edge
    cast-other-end
    other-end-requires
    cast-relist
    slice-read-relist
    relist-requires
    cast-flip
    flip-requires
    sub-left
    loop-less
    loop-again
    same_length
    same-length-2
    returns)
