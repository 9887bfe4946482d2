-- What searches from the row vertex keep.
use Rattle.graph.specs.Graph.{graph_of}
use Rattle.method.specs.Tree.{entries, naturals}
use Rattle.method.specs.Lists.{leasts, mosts}
use Rattle.serving.specs.Served.{RowKept}
use Rattle.serving.proofs.Serving.{left_of}
use Rattle.serving.proofs.serve_row.Given as goal

abbrev pub invariant-loop-s : goal.invariant-loop-s
invariant-loop-s l =
    RowKept (graph_of l.s l.row l.column l.weight) (leasts l.table) (mosts l.table) l.root l.initial.chosen l.chosen (entries l.initial.state.price)
    (entries l.state.price) (entries l.state.used) (naturals l.list) (entries l.place)

abbrev pub decreases-loop-s : goal.decreases-loop-s
decreases-loop-s l = left_of (mosts l.table) (entries l.state.used) (entries l.state.price) l.root
