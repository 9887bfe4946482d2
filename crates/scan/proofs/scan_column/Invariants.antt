-- The places of the list before k were looked at.
use Rattle.std.proofs.Common.{◌≡◌}
use Rattle.graph.specs.Graph.{graph_of}
use Rattle.method.specs.Tree.{entries, naturals}
use Rattle.method.specs.Lists.{starts, leasts}
use Rattle.scan.specs.Scan.{list_start, list_stop, Scanning, ColumnScan}
use Rattle.scan.proofs.scan_column.Given as goal

abbrev pub invariant-loop-k : goal.invariant-loop-k
invariant-loop-k l =
    let g = graph_of l.s l.row l.column l.weight in
    let price = entries l.state.price in
    let used = entries l.state.used in
    let start = list_start l.s.rows (starts l.table) l.fn.first.vertex in
    let stop = list_stop l.s.rows (starts l.table) used l.fn.first.vertex in
    record {
      scanning : (c : ColumnScan g price used (leasts l.table) l.fn.label l.fn.distance l.fn.order l.fn.first (naturals l.list) start stop) →
          Scanning g c.x price c.exit l.label l.distance l.order c.root c.count l.f (naturals l.list) start l.k;
      vertex : l.f.vertex ≡ l.fn.first.vertex;
      distance : l.f.distance ≡ l.fn.first.distance;
    }
