-- The edges before e stand at their places.
use Rattle.std.proofs.Common.{[]}
use Rattle.graph.specs.Graph.{graph_of}
use Rattle.index.specs.Testing.{Standing}
use Rattle.index.proofs.is_index.Given as goal

abbrev pub invariant-loop-e : goal.invariant-loop-e
invariant-loop-e l = Standing (graph_of l.s l.row l.column []) l.index l.count l.e
