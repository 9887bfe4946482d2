-- One search by distances: which vertices are reached, which of them are settled, and the least distance of an end of a path. The distance of a
-- vertex is what the prices would have to move until a path of tight edges leads there; the prices move once, when the search is left.
use Rattle.std.specs.Prelude.{ℕ, ◌+◌, ◌-◌, ◌≤◌, ◌<◌, ◌≡◌, ◌≢◌, ◌⊎◌, cond, List, ltb}
use Rattle.integers.specs.Sum.{sum, is}
use Rattle.graph.specs.Graph.{Graph, vertices}
use Rattle.graph.specs.Subgraph.{degree}
use Rattle.method.specs.Method.{level, top_price}
use Rattle.method.specs.Tree.{tail, head, slack}

-- More than any distance: that of a vertex that is not reached.
abbrev pub far : ℕ
far = 1000000000

-- The vertices reached are listed, each once: the spot of a vertex is its place from 1, and 0 where it is not reached.
pub record ListedOnce (n : ℕ) (order spot : ℕ → ℕ) (reached : ℕ) : Type 0 where
  pub inside : (v : ℕ) → 0 < spot v → v < n
  pub at : (i : ℕ) → i < reached → spot (order i) ≡ i + 1
  pub back : (v : ℕ) → 0 < spot v → (spot v ≤ reached) × (order (spot v - 1) ≡ v)
  pub tally : reached + sum n (λ v. is (spot v) 0) ≡ n

-- Vertex v is settled: it is among the first count of the list. The others that are reached are open.
pub record Settled (spot : ℕ → ℕ) (count v : ℕ) : Type 0 where
  pub seen : 0 < spot v
  pub early : spot v ≤ count

-- How far each vertex is from a way out, by its price alone: a near vertex may lose an edge where it has more than its least, and a far one may gain one where
-- it has less than its most. It is far or more where the vertex has none. The root has one once it has its least.
pub record Exits (g : Graph) (least most : ℕ → ℕ) (x : List ℕ) (price : ℕ → ℕ) (root : ℕ) (exit : ℕ → ℕ) : Type 0 where
  pub near : (v : ℕ) → v < g.rows → v ≢ root → least v < degree g x v → exit v + level ≡ price v
  pub near_none : (v : ℕ) → v < g.rows → v ≢ root → degree g x v ≤ least v → far ≤ exit v
  pub own : least root ≤ degree g x root → exit root + level ≡ price root
  pub own_none : degree g x root < least root → far ≤ exit root
  pub away : (v : ℕ) → g.rows ≤ v → v < vertices g → degree g x v < most v → exit v + price v ≡ level
  pub away_none : (v : ℕ) → g.rows ≤ v → v < vertices g → most v ≤ degree g x v → far ≤ exit v

-- What is added to a way that is shut, so that it leads no nearer than far: to that of a chosen edge from its near end, and to the way out of a vertex that
-- has none.
abbrev pub shut : ℕ
shut = far + top_price

-- How far it is to a way out as a number: from a near vertex of this price and degree, from a far one, and from the root.
abbrev pub near_exit : ℕ → ℕ → ℕ → ℕ
near_exit price used least = price + cond (ltb least used) 0 shut - level

abbrev pub far_exit : ℕ → ℕ → ℕ → ℕ
far_exit price used most = level + cond (ltb used most) 0 shut - price

abbrev pub root_exit : ℕ → ℕ → ℕ → ℕ
root_exit price used least = cond (ltb used least) far (price - level)

-- Edge e leads to vertex v from a settled vertex that stands before it in the list, and so to distance h.
pub record Reach (g : Graph) (x : List ℕ) (price dist spot : ℕ → ℕ) (count e v h : ℕ) : Type 0 where
  pub inside : e < g.edges
  pub leads : head g x e ≡ v
  pub from : Settled spot count (tail g x e)
  pub less : spot (tail g x e) < spot v
  pub sum : dist (tail g x e) + slack g price e ≡ h

-- The distances: 0 at the root, at most d where a vertex is settled, at least d where it is open, and each by its label. None with the way out from there is
-- less than the goal, the least distance of an end.
pub record Distances (g : Graph) (x : List ℕ) (price exit dist label spot : ℕ → ℕ) (root count d goal : ℕ) : Type 0 where
  pub none : (v : ℕ) → v < vertices g → spot v ≡ 0 → dist v ≡ far
  pub some : (v : ℕ) → 0 < spot v → dist v < far
  pub low : (v : ℕ) → Settled spot count v → dist v ≤ d
  pub high : (v : ℕ) → count < spot v → d ≤ dist v
  pub ways : (v : ℕ) → 0 < spot v → goal ≤ dist v + exit v
  pub reach : (v : ℕ) → v ≢ root → 0 < spot v → Reach g x price dist spot count (label v) v (dist v)
  pub start : dist root ≡ 0
  pub first : spot root ≡ 1
  pub root_first : Settled spot count root

-- The path ends at vertex v, which has a way out.
pub record AtEnd (exit dist spot : ℕ → ℕ) (goal v : ℕ) : Type 0 where
  pub seen : 0 < spot v
  pub way : exit v < far
  pub here : goal ≡ dist v + exit v

-- The least distance of an end, its goal, and the end; or far, where none is known.
pub record Top (exit dist spot : ℕ → ℕ) (d goal end : ℕ) : Type 0 where
  pub least : d ≤ goal
  pub small : goal ≤ far
  pub ends : (goal ≡ far) ⊎ AtEnd exit dist spot goal end

-- What an edge that was looked at from a settled vertex says of its head.
abbrev pub Relaxed : Graph → List ℕ → (ℕ → ℕ) → (ℕ → ℕ) → ℕ → ℕ → Type 0
Relaxed g x price dist goal q = (dist (head g x q) ≤ dist (tail g x q) + slack g price q) ⊎ (goal ≤ dist (tail g x q) + slack g price q)

-- What a search from the root keeps: vertex u was settled last, at distance d, and the edges from the vertices settled before it were looked at.
pub record SearchState (g : Graph) (x : List ℕ) (price exit dist label order : ℕ → ℕ) (root count reached d goal end u : ℕ) : Type 0 where
  pub spot : ℕ → ℕ
  pub list : ListedOnce (vertices g) order spot reached
  pub high : count ≤ reached
  pub dists : Distances g x price exit dist label spot root count d goal
  pub top : Top exit dist spot d goal end
  pub newest : spot u ≡ count
  pub here : dist u ≡ d
  pub older : (q : ℕ) → q < g.edges → Settled spot count (tail g x q) → spot (tail g x q) < count → Relaxed g x price dist goal q

-- The edges that a list holds at the places from start to before k were looked at, where they lead from vertex u.
pub record Looked (g : Graph) (x : List ℕ) (price dist : ℕ → ℕ) (goal u : ℕ) (edge : ℕ → ℕ) (start k : ℕ) : Type 0 where
  pub each : (j : ℕ) → start ≤ j → j < k → tail g x (edge j) ≡ u → Relaxed g x price dist goal (edge j)

-- The search is left: each vertex nearer than the end is settled, and the edges from it were looked at.
pub record Leaving (g : Graph) (x : List ℕ) (price exit dist label order : ℕ → ℕ) (root count goal end : ℕ) : Type 0 where
  pub d : ℕ
  pub reached : ℕ
  pub u : ℕ
  pub state : SearchState g x price exit dist label order root count reached d goal end u
  pub near : (v : ℕ) → v < vertices g → dist v < goal → Settled state.spot count v
  pub looked : (q : ℕ) → q < g.edges → Settled state.spot count (tail g x q) → dist (tail g x q) < goal → Relaxed g x price dist goal q

-- A search has grown until no open vertex is nearer than the goal, the least distance of an end, or far where there is none. The spot of a vertex is its
-- place in the list of those reached, from 1, and 0 where it is not reached.
pub record SearchGrown (g : Graph) (x : List ℕ) (price exit dist label spot : ℕ → ℕ) (root count goal : ℕ) : Type 0 where
  pub inside : (v : ℕ) → 0 < spot v → v < vertices g
  pub few : (v : ℕ) → spot v ≤ vertices g
  pub once : (v w : ℕ) → 0 < spot v → spot v ≡ spot w → v ≡ w
  pub first : spot root ≡ 1
  pub start : dist root ≡ 0
  pub some : (v : ℕ) → 0 < spot v → dist v < far
  pub reach : (v : ℕ) → v ≢ root → 0 < spot v → Reach g x price dist spot count (label v) v (dist v)
  pub near : (v : ℕ) → v < vertices g → dist v < goal → Settled spot count v
  pub low : (v : ℕ) → Settled spot count v → dist v ≤ goal
  pub looked : (q : ℕ) → q < g.edges → Settled spot count (tail g x q) → dist (tail g x q) < goal → Relaxed g x price dist goal q
  pub ways : (v : ℕ) → 0 < spot v → goal ≤ dist v + exit v

-- The nearest of the open vertices, those listed at the places from count to before k, is at this place, if one is nearer than the goal; else the place is
-- reached.
pub record Nearest (dist order : ℕ → ℕ) (count reached goal k place best : ℕ) : Type 0 where
  pub low : (i : ℕ) → count ≤ i → i < k → best ≤ dist (order i)
  pub found : ((place ≡ reached) × (best ≡ goal)) ⊎ ((count ≤ place) × (place < reached) × (best < goal) × (best ≡ dist (order place)))

-- Prices move: a row vertex goes down and a column vertex up by so much.
pub record Shift (rows v by p q : ℕ) : Type 0 where
  pub row : v < rows → q + by ≡ p
  pub column : rows ≤ v → q ≡ p + by

-- The prices of the first count vertices of the list move by what their distances are below the goal.
pub record Shifted (rows : ℕ) (order dist price price' : ℕ → ℕ) (count goal : ℕ) : Type 0 where
  pub each : (i : ℕ) → i < count → Shift rows (order i) (goal - dist (order i)) (price (order i)) (price' (order i))
  pub rest : (v : ℕ) → ((i : ℕ) → i < count → order i ≢ v) → price' v ≡ price v
