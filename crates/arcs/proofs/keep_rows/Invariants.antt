-- The row vertices before r are listed, and the bounds stay.
use Rattle.graph.specs.Graph.{graph_of}
use Rattle.method.specs.Lists.{starts, stops, leasts, edges, heads, values, keeps, Kept}
use Rattle.arcs.specs.Arcs.{SameBounds}
use Rattle.arcs.proofs.keep_rows.Given as goal

abbrev pub invariant-loop-r : goal.invariant-loop-r
invariant-loop-r l =
    let g = graph_of l.s l.row l.column l.weight in
    record {
      kept : Kept g (keeps g (leasts l.initial.table)) (starts l.table) (stops l.table) (edges l.arcs) (heads l.arcs) (values l.arcs) l.r;
      bounds : SameBounds l.initial.table l.table;
    }
