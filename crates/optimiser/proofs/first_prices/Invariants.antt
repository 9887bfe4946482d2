-- After e edges the prices fit those edges.
use Rattle.graph.specs.Graph.{graph_of}
use Rattle.method.specs.Tree.{entries}
use Rattle.optimiser.specs.Optimiser.{Started}
use Rattle.optimiser.proofs.first_prices.Given as goal

abbrev pub invariant-loop-e : goal.invariant-loop-e
invariant-loop-e l = Started (graph_of l.s l.row l.column l.weight) (entries l.price) l.e
