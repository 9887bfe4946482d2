-- The doubled graph of a general graph (document 02, U8), and which graphs are doubled.
use Rattle.std.specs.Prelude.{ℕ, ◌+◌, Bool, false, ◌&&◌, List, ◌++◌, leb, ℤ}
use Rattle.graph.specs.declared.Kind.{Kind}
use Rattle.graph.specs.declared.Kind.TheVariants.{Bipartite, General}
use Rattle.graph.specs.declared.Fault.TheVariants.{NotDoubled}
use Rattle.graph.specs.Limits.{most_side, most_doubled_edges}
use Rattle.graph.specs.Refusal.{Test, once}
use Rattle.graph.specs.Graph.{Graph}

-- The doubled graph (sheet): every vertex (family) on both sides of a bipartite graph, and each edge (pair) once in each direction, with the same weight:
-- first all edges as they are, and then all turned round.
abbrev pub doubled : Graph → Graph
doubled g = record {
  kind = Bipartite;
  rows = g.rows;
  columns = g.rows;
  edges = g.edges + g.edges;
  row = g.row ++ g.column;
  column = g.column ++ g.row;
  weight = g.weight ++ g.weight;
}

-- Its bounds: those of the graph, on both sides.
abbrev pub doubled_bounds : List ℤ → List ℤ
doubled_bounds bound = bound ++ bound

-- A graph is doubled if it is general (one-sided) and has at most 64 vertices and 512 edges (24).
abbrev pub may_double : Kind → ℕ → ℕ → Bool
may_double Bipartite rows edges = false
may_double General rows edges = leb rows most_side && leb edges most_doubled_edges

abbrev pub doubled_test : Graph → Test
doubled_test g = once NotDoubled (may_double g.kind g.rows g.edges)
