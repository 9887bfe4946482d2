-- The first i roots are served.
use Rattle.graph.specs.Graph.{graph_of}
use Rattle.method.specs.Tree.{entries, naturals}
use Rattle.method.specs.Lists.{leasts, mosts}
use Rattle.serving.proofs.Serving.{ServedTo}
use Rattle.serving.proofs.serve_rows.Given as goal

abbrev pub invariant-loop-i : goal.invariant-loop-i
invariant-loop-i l =
    ServedTo (graph_of l.s l.row l.column l.weight) (leasts l.table) (mosts l.table) (entries l.serving.list) l.i l.initial.chosen l.chosen
    (entries l.state.price) (entries l.state.used) (naturals l.list) (entries l.place)
