-- What the walk back from a labelled vertex may assume, what one step of it does, and what it keeps of the lists of chosen edges.
use Rattle.std.specs.Prelude.{ℕ, ◌+◌, ◌-◌, ◌≤◌, ◌<◌, ◌≡◌, cond, List, [], eqb, ℤ, pos, length, set}
use Rattle.graph.specs.declared.Kind.TheVariants.{Bipartite}
use Rattle.graph.specs.declared.Shape.{Shape}
use Rattle.graph.specs.Graph.{Graph, graph_of, vertices_in, first_end, second_end}
use Rattle.graph.specs.Subgraph.{mark_at, degree}
use Rattle.graph.specs.Index.{edges_of}
use Rattle.graph.specs.Passed.{Sound}
use Rattle.method.specs.Method.{Labels}
use Rattle.method.specs.Tree.{entries, naturals}
use Rattle.method.specs.Lists.{start_in, nowhere, Listing}

-- The walk can start at vertex v of a bipartite graph: v is labelled, and the labels up to its rank, of which there are at most left, are right.
pub record Walkable (s : Shape) (row column label : List ℕ) (rank : ℕ → ℕ) (root v left : ℕ) (x : List ℕ) : Type 0 where
  pub bipartite : s.kind ≡ Bipartite
  pub sound : Sound s row column
  pub long : length x ≡ s.edges
  pub labels : Labels (graph_of s row column []) x (entries label) rank root (rank v)
  pub root_in : root < s.rows
  pub inside : v < vertices_in s
  pub seen : 0 < rank v
  pub low : rank v ≤ left

-- It can start, by some ranks of the vertices.
pub record Ranked (s : Shape) (row column label : List ℕ) (root v left : ℕ) (x : List ℕ) : Type 0 where
  pub rank : ℕ → ℕ
  pub walkable : Walkable s row column label rank root v left x

-- The lists of chosen edges before a walk from vertex v: a column vertex, which then has one more, has an edge that is not chosen, and its list ends at
-- the gap.
pub record Relistable (g : Graph) (x : List ℕ) (list : List ℤ) (place : List ℕ) (v gap : ℕ) : Type 0 where
  pub lists : Listing g x (degree g x) (naturals list) (entries place) (nowhere g)
  pub list_long : nowhere g ≤ length list
  pub place_long : g.edges ≤ length place
  pub gap_is : g.rows ≤ v → gap ≡ start_in g v + degree g x v
  pub fits : g.rows ≤ v → degree g x v < length (edges_of g v)

-- What the relisting of an edge leaves: one that is not chosen stands at the hole, and one that is chosen leaves its place as the hole.
pub record Relisted (mark hole edge : ℕ) (list : List ℤ) (place : List ℕ) (list' : List ℤ) (place' : List ℕ) (hole' : ℕ) : Type 0 where
  pub list_put : mark ≡ 0 → list' ≡ set list hole (pos edge)
  pub place_put : mark ≡ 0 → place' ≡ set place edge hole
  pub list_kept : 0 < mark → list' ≡ list
  pub place_kept : 0 < mark → place' ≡ place
  pub hole_kept : mark ≡ 0 → hole' ≡ hole
  pub hole_is : 0 < mark → hole' ≡ entries place edge

-- The marks x after edge e is flipped: it is chosen if it was not, and chosen no more if it was.
abbrev pub flipped : List ℕ → ℕ → List ℕ
flipped x e = set x e (1 - mark_at x e)

-- The end of edge e other than vertex v, which is one of its ends.
abbrev pub other_end : Graph → ℕ → ℕ → ℕ
other_end g e v = cond (eqb v (first_end g e)) (second_end g e) (first_end g e)
