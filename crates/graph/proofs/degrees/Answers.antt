-- At first no edge is counted. Before e each degree is at most e, so that a sum of a degree and two marks fits.
use Rattle.std.proofs.Common.{refl, arith}
use Rattle.std.proofs.lemmas.List.{get_or-replicate}
use Rattle.graph.proofs.Counting.{counted_none, counted_small}
use Rattle.graph.proofs.degrees.Goals as goal

pub loop-e-init : goal.loop-e-init
loop-e-init c = counted_none refl (λ v l. get_or-replicate 128 v 0 0 l)

pub add_edge-requires-clause-by_index : goal.add_edge-requires-clause-by_index
add_edge-requires-clause-by_index c =
    λ v b. omega (arith, counted_small c.loop-e.invariant v b c.requires.marks_hold.each, c.requires.sound.sizes.few, c.loop-e.invariant.within)
