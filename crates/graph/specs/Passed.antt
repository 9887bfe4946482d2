-- What the tests on a graph's numbers, on bounds and on marks have shown once they have passed. Inner functions ask for it.
use Rattle.std.specs.Prelude.{ℕ, ◌-◌, ◌≤◌, ◌<◌, ◌≡◌, ◌≢◌, true, false, List, ℤ, pos, length, get_or, ◌≤ℤ◌}
use Rattle.graph.specs.declared.Kind.{Kind}
use Rattle.graph.specs.declared.Shape.{Shape}
use Rattle.graph.specs.Limits.{most_vertices, most_edges, greatest_bound}
use Rattle.graph.specs.Graph.{Graph, shape_of, vertices_of, row_at, column_at, weight_at, column_vertex, sizes_in_range, ends_in_range, weight_in_range, joined, bound_at}
use Rattle.graph.specs.Subgraph.{mark_at}

-- From 1 to n.
pub record UpTo (n x : ℕ) : Type 0 where
  pub least : 1 ≤ x
  pub greatest : x ≤ n

-- Sizes in range (4), and what that gives.
pub record SizesHold (kind : Kind) (r c m : ℕ) : Type 0 where
  pub test : sizes_in_range kind r c m ≡ true
  pub rows : UpTo most_vertices r
  pub columns : UpTo most_vertices c
  pub order : vertices_of kind r c ≤ most_vertices
  pub few : m ≤ most_edges

-- Ends in range (6), and what that gives: of rows and columns, and of vertices.
pub record EndsHold (kind : Kind) (rows columns r c : ℕ) : Type 0 where
  pub test : ends_in_range kind rows columns r c ≡ true
  pub row : UpTo rows r
  pub column : UpTo columns c
  pub in_rows : r - 1 < rows
  pub first : r - 1 < vertices_of kind rows columns
  pub second : column_vertex kind rows c < vertices_of kind rows columns
  pub apart : r - 1 ≢ column_vertex kind rows c

-- Rows and columns of a shape's edges have passed: their lengths (9), the sizes (4) and the ends (6).
pub record Sound (s : Shape) (row column : List ℕ) : Type 0 where
  pub row_long : length row ≡ s.edges
  pub column_long : length column ≡ s.edges
  pub sizes : SizesHold s.kind s.rows s.columns s.edges
  pub ends : (e : ℕ) → e < s.edges → EndsHold s.kind s.rows s.columns (get_or row e 0) (get_or column e 0)

-- A graph has passed: besides, its weights are as many as its edges (9) and in range (7), and no edge has the ends of an earlier one (8).
pub record Passed (g : Graph) : Type 0 where
  pub sound : Sound (shape_of g) g.row g.column
  pub weight_long : length g.weight ≡ g.edges
  pub weights : (e : ℕ) → e < g.edges → weight_in_range (weight_at g e) ≡ true
  pub apart : (e : ℕ) → e < g.edges → joined g e (row_at g e) (column_at g e) ≡ false

-- The bounds of n vertices have passed: their length (9) and their range (10).
pub record Bounded (n : ℕ) (bound : List ℤ) : Type 0 where
  pub long : length bound ≡ n
  pub range : (v : ℕ) → v < n → (pos 0 ≤ℤ bound_at bound v) × (bound_at bound v ≤ℤ pos greatest_bound)

-- The marks of m edges have passed: their length (9), and each is 0 or 1 (11).
pub record MarksHold (m : ℕ) (x : List ℕ) : Type 0 where
  pub long : length x ≡ m
  pub each : (e : ℕ) → e < m → mark_at x e ≤ 1
