-- The outputs hold the edges read so far. The measure is what is left of the text.
use Rattle.std.proofs.Common.{length, ◌+◌, ◌-◌}
use Rattle.layout.specs.GraphText.{no_edges}
use Rattle.edge_reader.specs.Edges.{left}
use Rattle.edge_reader.proofs.Edges.{EdgeTurn}
use Rattle.edge_reader.proofs.read_edges.Given as goal

abbrev pub invariant-loop-edge : goal.invariant-loop-edge
invariant-loop-edge l =
    EdgeTurn l.what l.s l.text (left l.what l.text l.initial.c (no_edges l.s)) l.row l.column l.weight l.seen l.c l.i

abbrev pub decreases-loop-edge : goal.decreases-loop-edge
decreases-loop-edge l = length l.text + 1 - l.c.at
