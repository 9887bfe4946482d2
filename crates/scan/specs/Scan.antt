-- Where the list of a vertex stands, and what the scan of a vertex keeps.
use Rattle.std.specs.Prelude.{ℕ, ◌+◌, ◌≤◌, ◌<◌, ◌≡◌, ◌≢◌, cond, List, ltb, length}
use Rattle.graph.specs.Limits.{most_vertices}
use Rattle.graph.specs.Graph.{Graph, vertices, second_end}
use Rattle.graph.specs.Subgraph.{mark_at, degree}
use Rattle.method.specs.Method.{Good}
use Rattle.method.specs.Tree.{entries}
use Rattle.method.specs.Front.{near_exit, SearchState, Looked}
use Rattle.reach.specs.declared.Front.{Front}

-- The front once this vertex is settled, at this distance.
abbrev pub settled_at : Front → ℕ → ℕ → Front
settled_at f vertex distance = record { goal = f.goal; end = f.end; reached = f.reached; vertex = vertex; distance = distance }

-- Vertex u is one, and its list ends before these places do, if it is a column vertex.
pub record Spanned (rows : ℕ) (start used : ℕ → ℕ) (places u : ℕ) : Type 0 where
  pub inside : u < most_vertices
  pub room : rows ≤ u → start u + used u ≤ places

-- Where the list of vertex u starts and stops: that of a column vertex has as many places as the vertex has chosen edges, and that of a row vertex none.
abbrev pub list_start : ℕ → (ℕ → ℕ) → ℕ → ℕ
list_start rows start u = cond (ltb u rows) 0 (start u)

abbrev pub list_stop : ℕ → (ℕ → ℕ) → (ℕ → ℕ) → ℕ → ℕ
list_stop rows start used u = cond (ltb u rows) 0 (start u + used u)

-- What the scan of the vertex settled last keeps: the edges that a list holds at the places from start to before k were looked at.
pub record Scanning (g : Graph) (x : List ℕ) (price exit : ℕ → ℕ) (label dist order : List ℕ) (root count : ℕ) (f : Front) (edge : ℕ → ℕ) (start k : ℕ) : Type 0 where
  pub state : SearchState g x price exit (entries dist) (entries label) (entries order) root count f.reached f.distance f.goal f.end f.vertex
  pub looked : Looked g x price (entries dist) f.goal f.vertex edge start k
  pub label_long : length label ≡ most_vertices
  pub dist_long : length dist ≡ most_vertices
  pub order_long : length order ≡ most_vertices + 1

-- The scan of a column vertex may start: its list, from start to before stop, holds chosen edges of its own.
pub record ColumnScan (g : Graph) (price used least : ℕ → ℕ) (label dist order : List ℕ) (f : Front) (edge : ℕ → ℕ) (start stop : ℕ) : Type 0 where
  pub most : ℕ → ℕ
  pub x : List ℕ
  pub exit : ℕ → ℕ
  pub root : ℕ
  pub count : ℕ
  pub good : Good g least most x price
  pub degrees : (v : ℕ) → v < vertices g → used v ≡ degree g x v
  pub exits : (v : ℕ) → v < g.rows → v ≢ root → exit v ≡ near_exit (price v) (used v) (least v)
  pub scanning : Scanning g x price exit label dist order root count f edge start start
  pub inside : (k : ℕ) → start ≤ k → k < stop → edge k < g.edges
  pub mark : (k : ℕ) → start ≤ k → k < stop → mark_at x (edge k) ≡ 1
  pub column : (k : ℕ) → start ≤ k → k < stop → second_end g (edge k) ≡ f.vertex
