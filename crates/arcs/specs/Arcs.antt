-- How the edges of each row vertex are listed, said of plain lists: the columns and weights of the edges, and the numbers of an index.
use Rattle.std.specs.Prelude.{ℕ, ◌+◌, ◌-◌, ◌≤◌, ◌<◌, ◌≡◌, Bool, true, ◌||◌, List, ltb, ℤ, pos, ◌+ℤ◌, length, get_or}
use Rattle.integers.specs.Integer.{up, Within}
use Rattle.graph.specs.Limits.{most_vertices, most_edges, greatest_weight}
use Rattle.graph.specs.Graph.{Graph}
use Rattle.method.specs.Method.{weightless}
use Rattle.method.specs.declared.Table.{Table}
use Rattle.method.specs.declared.KeptEdge.{KeptEdge}
use Rattle.method.specs.Lists.{starts, leasts, kept_at, edges, heads, values, start_in}

-- The weight of edge e, two levels up, and its column vertex.
abbrev pub listed_value : List ℤ → ℕ → ℕ
listed_value weight e = up (get_or weight e (pos 0) +ℤ pos weightless)

abbrev pub head_vertex : ℕ → List ℕ → ℕ → ℕ
head_vertex rows column e = rows + (get_or column e 0 - 1)

-- Edge e of a row vertex with this least is kept.
abbrev pub keeps_in : ℕ → List ℕ → List ℤ → Table → ℕ → ℕ → Bool
keeps_in rows column weight table least e = ltb weightless (listed_value weight e) || (ltb 0 least || ltb 0 (leasts table (head_vertex rows column e)))

-- The edge at place i of an index of n vertices.
abbrev pub listed_edge : List ℕ → ℕ → ℕ → ℕ
listed_edge index n i = get_or index (n + 1 + i) 0 - 1

-- Edge e can be kept: it has a column and a weight, both in range.
pub record Keepable (rows : ℕ) (column : List ℕ) (weight : List ℤ) (e : ℕ) : Type 0 where
  pub few : e < most_edges
  pub columned : e < length column
  pub weighted : e < length weight
  pub column_some : 0 < get_or column e 0
  pub column_in : rows + get_or column e 0 ≤ most_vertices
  pub weight_in : Within greatest_weight (get_or weight e (pos 0))

-- The edge at place i of an index of n vertices can be read, and kept at that place or before.
pub record Readable (rows n : ℕ) (column : List ℕ) (weight : List ℤ) (index : List ℕ) (i : ℕ) : Type 0 where
  pub inside : n + 1 + i < length index
  pub some : 0 < get_or index (n + 1 + i) 0
  pub few : i < most_edges
  pub edge : Keepable rows column weight (listed_edge index n i)

-- What is kept at place k: an edge that stands at one of the places from .. to - 1, its column vertex, and its weight two levels up.
pub record ArcEntry (rows : ℕ) (column : List ℕ) (weight : List ℤ) (edge_at : ℕ → ℕ) (from to : ℕ) (arc : List KeptEdge) (k : ℕ) : Type 0 where
  pub place : ℕ
  pub low : from ≤ place
  pub high : place < to
  pub is : edges arc k ≡ edge_at place
  pub column_is : heads arc k ≡ head_vertex rows column (edges arc k)
  pub weight_is : values arc k ≡ listed_value weight (edges arc k)

-- Of the edges that stand at the places from .. to - 1 those to be kept are, at the places from .. stop - 1.
pub record KeptRow (rows : ℕ) (column : List ℕ) (weight : List ℤ) (keep : ℕ → Bool) (edge_at : ℕ → ℕ) (from to : ℕ) (arc : List KeptEdge) (stop : ℕ) : Type 0 where
  pub low : from ≤ stop
  pub high : stop ≤ to
  pub each : (k : ℕ) → from ≤ k → k < stop → ArcEntry rows column weight edge_at from to arc k
  pub all : (i : ℕ) → from ≤ i → i < to → keep (edge_at i) ≡ true → (k : ℕ) × (from ≤ k) × (k < stop) × (edges arc k ≡ edge_at i)

-- What is stored before place k stays.
pub record SameArcs (k : ℕ) (old new : List KeptEdge) : Type 0 where
  pub each : (j : ℕ) → j < k → kept_at new j ≡ kept_at old j

-- Two tables have the same leasts and mosts.
pub record SameBounds (old new : Table) : Type 0 where
  pub least : new.least ≡ old.least
  pub most : new.most ≡ old.most

-- The lists of the column vertices before n start where they should, and else the table is as it was.
pub record ListsBegun (g : Graph) (old new : Table) (n : ℕ) : Type 0 where
  pub begins : (c : ℕ) → g.rows ≤ c → c < n → starts new c ≡ start_in g c
  pub rows : (v : ℕ) → v < g.rows → starts new v ≡ starts old v
  pub stop : new.stop ≡ old.stop
  pub bounds : SameBounds old new
