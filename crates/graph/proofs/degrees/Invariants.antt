-- The loop keeps: each degree counts the edges before e.
use Rattle.std.proofs.Common.{[]}
use Rattle.graph.specs.Graph.{graph_of}
use Rattle.graph.proofs.Counting.{Counted}
use Rattle.graph.proofs.degrees.Given as goal

abbrev pub invariant-loop-e : goal.invariant-loop-e
invariant-loop-e l = Counted (graph_of l.s l.row l.column []) l.chosen l.degree l.e
