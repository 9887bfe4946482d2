-- The outer loop keeps the search's state, and the inner one which edges of the vertex settled last were looked at.
use Rattle.std.proofs.Common.{◌-◌}
use Rattle.graph.specs.Graph.{graph_of, vertices_in}
use Rattle.method.specs.Lists.{leasts, mosts}
use Rattle.method.specs.Tree.{entries, naturals}
use Rattle.scan.specs.Scan.{Scanning}
use Rattle.search.specs.Search.{exit_of}
use Rattle.search.proofs.Growth as Growth
use Rattle.search.proofs.find_end.Given as goal

abbrev pub invariant-search : goal.invariant-search
invariant-search l =
    Scanning (graph_of l.s l.row l.column l.weight) l.chosen (entries l.state.price)
    (exit_of l.s.rows (entries l.state.price) (entries l.state.used) (leasts l.table) (mosts l.table) l.root)
    l.tree.label l.distance l.order l.root l.count l.f (λ k. k) 0 0

abbrev pub decreases-search : goal.decreases-search
decreases-search l = vertices_in l.s - l.count

abbrev pub invariant-loop-k : goal.invariant-loop-k
invariant-loop-k l =
    Growth.RowScan (graph_of l.s l.row l.column l.weight) l.arcs l.table l.chosen (entries l.state.price)
    (exit_of l.s.rows (entries l.state.price) (entries l.state.used) (leasts l.table) (mosts l.table) l.root)
    (naturals l.list) l.tree.label l.distance l.order l.root l.count l.f l.base l.last l.k
