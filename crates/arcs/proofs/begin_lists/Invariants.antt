-- The lists of the column vertices before c begin.
use Rattle.graph.specs.Graph.{graph_of}
use Rattle.arcs.specs.Arcs.{ListsBegun}
use Rattle.arcs.proofs.begin_lists.Given as goal

abbrev pub invariant-loop-c : goal.invariant-loop-c
invariant-loop-c l = ListsBegun (graph_of l.s l.row l.column l.weight) l.initial.table l.table l.c
