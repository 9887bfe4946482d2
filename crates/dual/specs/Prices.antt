-- Prices of vertices (fish), edges (pairs) and odd sets (groups), in half points.
use Rattle.std.specs.Prelude.{ℕ, List, ◌++◌, ℤ, pos, get_or}
use Rattle.dual.specs.Sets.{OddSets, odd_sets_of}

-- A price sheet: prices of vertices and edges; the number of odd sets, with their prices and their marks.
pub record Prices : Type 0 where
  pub vertex : List ℤ
  pub edge : List ℤ
  pub sets : ℕ
  pub set : List ℤ
  pub marks : OddSets

-- The price sheet of these prices, and of a number of odd sets with their prices and marks.
abbrev pub prices_of : List ℤ → List ℤ → ℕ → List ℤ → List ℕ → List ℕ → Prices
prices_of vertex edge sets set set_vertices set_edges = record {
  vertex = vertex;
  edge = edge;
  sets = sets;
  set = set;
  marks = odd_sets_of set_vertices set_edges;
}

-- The price of vertex v, of edge e, and of odd set s.
abbrev pub vertex_price : Prices → ℕ → ℤ
vertex_price P v = get_or P.vertex v (pos 0)

abbrev pub edge_price : Prices → ℕ → ℤ
edge_price P e = get_or P.edge e (pos 0)

abbrev pub set_price : Prices → ℕ → ℤ
set_price P s = get_or P.set s (pos 0)

-- All prices in one row: of vertices, then of edges, then of odd sets. A price's position is its place there.
abbrev pub all_prices : Prices → List ℤ
all_prices P = P.vertex ++ (P.edge ++ P.set)
