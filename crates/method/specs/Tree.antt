-- The alternating tree of one search: how edges lead, their slack, and the end of the path.
use Rattle.std.specs.Prelude.{ℕ, ◌+◌, ◌-◌, ◌≤◌, ◌<◌, ◌≡◌, ◌≢◌, cond, List, eqb, ℤ, pos, get_or}
use Rattle.integers.specs.Integer.{up}
use Rattle.graph.specs.Limits.{most_vertices}
use Rattle.graph.specs.Graph.{Graph, vertices, first_end, second_end}
use Rattle.graph.specs.Subgraph.{mark_at, degree}
use Rattle.method.specs.Method.{level, value, cost, Good, Labels}

-- What a list of naturals, and a list of integers, has at an index, as a natural number.
abbrev pub entries : List ℕ → ℕ → ℕ
entries xs v = get_or xs v 0

abbrev pub naturals : List ℤ → ℕ → ℕ
naturals xs k = up (get_or xs k (pos 0))

-- An edge leads from its tail to its head: from its row vertex to its column vertex if it is not chosen, and back if it is.
abbrev pub tail : Graph → List ℕ → ℕ → ℕ
tail g x e = cond (eqb (mark_at x e) 0) (first_end g e) (second_end g e)

abbrev pub head : Graph → List ℕ → ℕ → ℕ
head g x e = cond (eqb (mark_at x e) 0) (second_end g e) (first_end g e)

-- By how much two numbers differ.
abbrev pub apart : ℕ → ℕ → ℕ
apart a b = (a - b) + (b - a)

-- The slack of an edge, without its sign: it is tight where this is 0.
abbrev pub slack : Graph → (ℕ → ℕ) → ℕ → ℕ
slack g price e = apart (cost g price e) (value g e)

-- The end of the path is vertex v, whose potential is 0 once the potentials have moved: a near vertex that may lose an edge, the root itself, or a far vertex
-- that may gain one. The vertices that the labels reach are ranked, by no more ranks than there can be vertices.
pub record Ended (g : Graph) (least most : ℕ → ℕ) (x : List ℕ) (start price label : ℕ → ℕ) (root v : ℕ) : Type 0 where
  pub rank : ℕ → ℕ
  pub few : rank v ≤ most_vertices
  pub good : Good g least most x price
  pub falls : (w : ℕ) → w < g.rows → price w ≤ start w
  pub root_near : root < g.rows
  pub root_kept : least root ≤ degree g x root → level ≤ price root
  pub labels : Labels g x label rank root (rank v)
  pub tight : (w : ℕ) → w < vertices g → w ≢ root → 0 < rank w → cost g price (label w) ≡ value g (label w)
  pub inside : v < vertices g
  pub seen : 0 < rank v
  pub zero : price v ≡ level
  pub at_root : v ≡ root → least root ≤ degree g x root
  pub at_near : v < g.rows → v ≢ root → least v < degree g x v
  pub at_far : g.rows ≤ v → degree g x v < most v
