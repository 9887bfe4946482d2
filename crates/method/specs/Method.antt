-- The state of the primal-dual method (document 001, section 3.5), where each vertex has a least and a most degree. The price less the floor price of a
-- vertex is one potential of either sign, in points, and is called its price here; it is kept one level up, as a natural, and a weight two levels up, so
-- that an edge's slack is its ends' prices minus its weight. Searches start on the near side, that of the rows; the columns are the far side.
use Rattle.std.specs.Prelude.{ℕ, ◌+◌, ◌*◌, ◌≤◌, ◌<◌, ◌≡◌, ◌≢◌, ◌⊎◌, List, ℤ, pos, ◌+ℤ◌, length}
use Rattle.integers.specs.Integer.{up}
use Rattle.integers.specs.Sum.{is}
use Rattle.graph.specs.declared.Kind.TheVariants.{Bipartite}
use Rattle.graph.specs.Limits.{most_vertices, greatest_weight}
use Rattle.graph.specs.Graph.{Graph, vertices, first_end, second_end, weight_at, bound_at}
use Rattle.graph.specs.Subgraph.{mark_at, degree}
use Rattle.graph.specs.Passed.{Passed}

-- The level, which stands for the price 0: the greatest weight as many times as there can be vertices. Two levels stand for the weight 0. No price is above
-- the greatest, nor an edge's value.
abbrev pub level : ℕ
level = most_vertices * greatest_weight

abbrev pub weightless : ℕ
weightless = 2 * level

abbrev pub top_price : ℕ
top_price = 2 * level

abbrev pub top_value : ℕ
top_value = 3 * level

-- An edge's weight, two levels up; the prices of its two ends; the bound of a vertex.
abbrev pub value : Graph → ℕ → ℕ
value g e = up (weight_at g e +ℤ pos weightless)

abbrev pub cost : Graph → (ℕ → ℕ) → ℕ → ℕ
cost g price e = price (first_end g e) + price (second_end g e)

abbrev pub natural_bound : List ℤ → ℕ → ℕ
natural_bound bound v = up (bound_at bound v)

-- A graph that the solver's tests have passed: it is bipartite.
pub record Solvable (g : Graph) : Type 0 where
  pub bipartite : g.kind ≡ Bipartite
  pub passed : Passed g

-- The marks y meet both bounds.
pub record Meets (g : Graph) (least most : ℕ → ℕ) (y : List ℕ) : Type 0 where
  pub marks : (e : ℕ) → e < g.edges → mark_at y e ≤ 1
  pub floor : (v : ℕ) → v < vertices g → least v ≤ degree g y v
  pub within : (v : ℕ) → v < vertices g → degree g y v ≤ most v

-- No subgraph does.
abbrev pub NoneMeets : Graph → (ℕ → ℕ) → (ℕ → ℕ) → Type 0
NoneMeets g least most = (y : List ℕ) → Meets g least most y → ⊥

-- What is kept throughout: no degree is above its most, potentials are at most 127,000,000 without their sign, an edge not chosen has slack at least 0 and
-- a chosen one at most 0, a far vertex with a potential above 0 has its most, a vertex with one below 0 has no more than its least, and none with the least
-- 0 has one below 0. Where every least is 0, no potential is above the greatest weight.
pub record Good (g : Graph) (least most : ℕ → ℕ) (x : List ℕ) (price : ℕ → ℕ) : Type 0 where
  pub long : length x ≡ g.edges
  pub marks : (e : ℕ) → mark_at x e ≤ 1
  pub within : (v : ℕ) → v < vertices g → degree g x v ≤ most v
  pub low : (v : ℕ) → v < vertices g → greatest_weight ≤ price v
  pub high : (v : ℕ) → v < vertices g → price v + greatest_weight ≤ top_price
  pub loose : (e : ℕ) → e < g.edges → mark_at x e ≡ 0 → value g e ≤ cost g price e
  pub chosen : (e : ℕ) → e < g.edges → mark_at x e ≡ 1 → cost g price e ≤ value g e
  pub full : (v : ℕ) → g.rows ≤ v → v < vertices g → level < price v → degree g x v ≡ most v
  pub bare : (v : ℕ) → v < vertices g → price v < level → degree g x v ≤ least v
  pub plain : (v : ℕ) → v < vertices g → least v ≡ 0 → level ≤ price v
  pub slim : ((w : ℕ) → w < vertices g → least w ≡ 0) → (v : ℕ) → v < vertices g → price v ≤ level + greatest_weight

-- Vertex v is served: it has its least, and its most where its potential is above 0.
pub record Served (g : Graph) (least most : ℕ → ℕ) (x : List ℕ) (price : ℕ → ℕ) (v : ℕ) : Type 0 where
  pub floor : least v ≤ degree g x v
  pub full : level < price v → degree g x v ≡ most v

-- A search may start at the root: a near vertex with room that is not served.
pub record Rooted (g : Graph) (least most : ℕ → ℕ) (x : List ℕ) (price : ℕ → ℕ) (root : ℕ) : Type 0 where
  pub near : root < g.rows
  pub room : degree g x root < most root
  pub due : (degree g x root < least root) ⊎ (level < price root)

-- Edge e, marked k, reaches vertex v, its end by near, from a vertex of lower rank, its end by far. A vertex with no label has rank 0.
pub record Link (g : Graph) (x : List ℕ) (near far : Graph → ℕ → ℕ) (rank : ℕ → ℕ) (k e v : ℕ) : Type 0 where
  pub inside : e < g.edges
  pub mark : mark_at x e ≡ k
  pub end : near g e ≡ v
  pub less : rank (far g e) < rank v
  pub seen : 0 < rank (far g e)

-- The labels up to rank k, but for the root's: a row vertex is reached by a chosen edge, and a column vertex by one that is not.
pub record Labels (g : Graph) (x : List ℕ) (label rank : ℕ → ℕ) (root k : ℕ) : Type 0 where
  pub of_row : (v : ℕ) → v < g.rows → v ≢ root → 0 < rank v → rank v ≤ k → Link g x first_end second_end rank 1 (label v) v
  pub of_column : (v : ℕ) → g.rows ≤ v → v < vertices g → 0 < rank v → rank v ≤ k → Link g x second_end first_end rank 0 (label v) v

-- The subgraph y is x after the walk back from a labelled vertex v to the root. From a row vertex, v loses an edge and the root gains one; from a
-- column vertex, both gain one. A mark that changed is that of a labelled vertex's label.
pub record Augmented (g : Graph) (label rank : ℕ → ℕ) (root v : ℕ) (x y : List ℕ) : Type 0 where
  pub long : length y ≡ length x
  pub from_row : v < g.rows → (h : ℕ) → degree g y h + is v h ≡ degree g x h + is root h
  pub from_column : g.rows ≤ v → (h : ℕ) → degree g y h ≡ degree g x h + (is v h + is root h)
  pub marks : ((e : ℕ) → mark_at x e ≤ 1) → (e : ℕ) → mark_at y e ≤ 1
  pub kept : (e : ℕ) → ((h : ℕ) → h < vertices g → h ≢ root → 0 < rank h → label h ≡ e → ⊥) → mark_at y e ≡ mark_at x e

-- What a search leaves: all is kept, other near vertices that were served are, no far vertex has fewer edges, and the root has one edge more, or its least
-- and the potential 0.
pub record Sought (g : Graph) (least most : ℕ → ℕ) (root : ℕ) (x : List ℕ) (price : ℕ → ℕ) (y : List ℕ) (price' : ℕ → ℕ) : Type 0 where
  pub good : Good g least most y price'
  pub done : (v : ℕ) → v < g.rows → v ≢ root → Served g least most x price v → Served g least most y price' v
  pub rises : (v : ℕ) → g.rows ≤ v → degree g x v ≤ degree g y v
  pub step : (degree g y root ≡ degree g x root + 1) ⊎ ((price' root ≡ level) × (degree g y root ≡ degree g x root) × (least root ≤ degree g x root))
  pub falls : price' root ≤ price root
