-- What the tests of a graph that is doubled have shown once they have passed. Inner functions ask for it.
use Rattle.std.specs.Prelude.{◌≤◌, ◌≡◌}
use Rattle.graph.specs.declared.Kind.TheVariants.{General}
use Rattle.graph.specs.Limits.{most_side, most_doubled_edges}
use Rattle.graph.specs.Graph.{Graph}
use Rattle.graph.specs.Passed.{Passed}

-- The graph has passed, is general, and has at most 64 vertices and 512 edges (24).
pub record Doublable (g : Graph) : Type 0 where
  pub passed : Passed g
  pub general : g.kind ≡ General
  pub few : g.rows ≤ most_side
  pub few_edges : g.edges ≤ most_doubled_edges
