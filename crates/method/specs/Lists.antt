-- The lists that a search goes through: the kept edges of each row vertex, and the chosen edges of each column vertex; and what is kept between two
-- searches.
use Rattle.std.specs.Prelude.{ℕ, ◌+◌, ◌-◌, ◌≤◌, ◌<◌, ◌≡◌, ◌≢◌, Bool, true, ◌||◌, List, ltb, length, get_or}
use Rattle.graph.specs.Limits.{greatest_bound}
use Rattle.graph.specs.Graph.{Graph, vertices, first_end, second_end}
use Rattle.graph.specs.Subgraph.{mark_at, degree}
use Rattle.graph.specs.Index.{edges_of, offset}
use Rattle.method.specs.Method.{weightless, value, Solvable, Good}
use Rattle.method.specs.Tree.{entries}
use Rattle.method.specs.declared.Table.{Table}
use Rattle.method.specs.declared.KeptEdge.{KeptEdge}

-- The table of the vertices: where the list of each vertex starts, where that of a row vertex stops, and its least and its most.
abbrev pub starts : Table → ℕ → ℕ
starts table v = entries table.start v

abbrev pub stops : Table → ℕ → ℕ
stops table v = entries table.stop v

abbrev pub leasts : Table → ℕ → ℕ
leasts table v = entries table.least v

abbrev pub mosts : Table → ℕ → ℕ
mosts table v = entries table.most v

-- The list of the kept edges: at each place an edge, its column vertex, and its weight two levels up.
abbrev pub kept_at : List KeptEdge → ℕ → KeptEdge
kept_at kept k = get_or kept k (record { edge = 0; head = 0; value = 0 })

abbrev pub edges : List KeptEdge → ℕ → ℕ
edges kept k = (kept_at kept k).edge

abbrev pub heads : List KeptEdge → ℕ → ℕ
heads kept k = (kept_at kept k).head

abbrev pub values : List KeptEdge → ℕ → ℕ
values kept k = (kept_at kept k).value

-- Edge e is kept: its weight is above 0, or an end of it has a least above 0. No other is needed.
abbrev pub keeps : Graph → (ℕ → ℕ) → ℕ → Bool
keeps g least e = ltb weightless (value g e) || (ltb 0 (least (first_end g e)) || ltb 0 (least (second_end g e)))

-- What stands at a place of row vertex r: an edge that ends at r, its other end, and its weight two levels up.
pub record Arc (g : Graph) (r edge head raised : ℕ) : Type 0 where
  pub inside : edge < g.edges
  pub row : first_end g edge ≡ r
  pub column : head ≡ second_end g edge
  pub weight : raised ≡ value g edge

-- The kept edges of the row vertices before t: those of row vertex r stand at the places from its start, its offset, to before its stop.
pub record Kept (g : Graph) (keep : ℕ → Bool) (start stop edge head raised : ℕ → ℕ) (t : ℕ) : Type 0 where
  pub starts : (r : ℕ) → r < t → start r ≡ offset g r
  pub stops : (r : ℕ) → r < t → stop r ≤ offset g (r + 1)
  pub arcs : (r k : ℕ) → r < t → offset g r ≤ k → k < stop r → Arc g r (edge k) (head k) (raised k)
  pub all : (e : ℕ) → e < g.edges → first_end g e < t → keep e ≡ true →
      (k : ℕ) × (offset g (first_end g e) ≤ k) × (k < stop (first_end g e)) × (edge k ≡ e)

-- The degrees as they are counted, and that no bound is above the greatest there is, and no least above its most.
pub record Degrees (g : Graph) (least most : ℕ → ℕ) (x : List ℕ) (used : ℕ → ℕ) : Type 0 where
  pub each : (v : ℕ) → v < vertices g → used v ≡ degree g x v
  pub few : (v : ℕ) → v < vertices g → most v ≤ greatest_bound
  pub ordered : (v : ℕ) → v < vertices g → least v ≤ most v

-- Where the list of column vertex c starts: at its offset, counted from that of the first column vertex.
abbrev pub start_in : Graph → ℕ → ℕ
start_in g c = offset g c - offset g g.rows

-- Place k is one of the list of column vertex c, which has this many.
pub record Among (g : Graph) (used : ℕ → ℕ) (c k : ℕ) : Type 0 where
  pub from : start_in g c ≤ k
  pub to : k < start_in g c + used c

-- What stands at place k of the list of column vertex c: a chosen edge that ends at c, whose own place is k.
pub record Item (g : Graph) (x : List ℕ) (list place : ℕ → ℕ) (c k : ℕ) : Type 0 where
  pub inside : list k < g.edges
  pub mark : mark_at x (list k) ≡ 1
  pub column : second_end g (list k) ≡ c
  pub back : place (list k) ≡ k

-- Where chosen edge e stands: in the list of its column vertex, and not at the hole.
pub record Stands (g : Graph) (used list place : ℕ → ℕ) (hole e : ℕ) : Type 0 where
  pub among : Among g used (second_end g e) (place e)
  pub apart : place e ≢ hole
  pub is : list (place e) ≡ e

-- The lists of the column vertices hold the chosen edges, each once, but for a hole. No list is longer than the vertex has edges.
pub record Listing (g : Graph) (x : List ℕ) (used list place : ℕ → ℕ) (hole : ℕ) : Type 0 where
  pub holds : (c k : ℕ) → g.rows ≤ c → c < vertices g → Among g used c k → k ≢ hole → Item g x list place c k
  pub held : (e : ℕ) → e < g.edges → mark_at x e ≡ 1 → Stands g used list place hole e
  pub fits : (c : ℕ) → g.rows ≤ c → c < vertices g → used c ≤ length (edges_of g c)

-- No place at all, for a hole where there is none: the lists have a place for each edge.
abbrev pub nowhere : Graph → ℕ
nowhere g = g.edges

-- What every search is lent and leaves as it is: a graph that can be solved, its kept edges, where the lists of its column vertices start, and a list with
-- a place for each edge.
pub record Given (g : Graph) (kept_edges : List KeptEdge) (table : Table) (places : ℕ) : Type 0 where
  pub net : Solvable g
  pub kept : Kept g (keeps g (leasts table)) (starts table) (stops table) (edges kept_edges) (heads kept_edges) (values kept_edges) g.rows
  pub begins : (c : ℕ) → g.rows ≤ c → c < vertices g → starts table c ≡ start_in g c
  pub room : g.edges ≤ places

-- What is kept between two searches.
pub record Between (g : Graph) (least most : ℕ → ℕ) (x : List ℕ) (price used list place : ℕ → ℕ) : Type 0 where
  pub good : Good g least most x price
  pub degrees : Degrees g least most x used
  pub lists : Listing g x (degree g x) list place (nowhere g)
