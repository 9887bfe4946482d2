-- The edges at the places before i are listed before k, and what stands before the row's places stays.
use Rattle.std.proofs.Common.{get_or}
use Rattle.graph.specs.Graph.{vertices_in}
use Rattle.method.specs.Lists.{leasts}
use Rattle.arcs.specs.Arcs.{keeps_in, listed_edge, KeptRow, SameArcs}
use Rattle.arcs.proofs.keep_row.Given as goal

abbrev pub invariant-loop-i : goal.invariant-loop-i
invariant-loop-i l = record {
  kept : KeptRow l.s.rows l.column l.weight (keeps_in l.s.rows l.column l.weight l.table (leasts l.table l.r)) (listed_edge l.index (vertices_in l.s)) (get_or l.index l.r 0) l.i l.arcs l.k;
  same : SameArcs (get_or l.index l.r 0) l.initial.arcs l.arcs;
}
