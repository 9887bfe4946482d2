-- How far each vertex is from a way out, what a search finds and leaves, and how a path that was flipped is counted.
use Rattle.std.specs.Prelude.{ℕ, ◌+◌, ◌≤◌, ◌<◌, ◌≡◌, Bool, true, false, cond, List, eqb, ltb, Option, Some, None}
use Rattle.integers.specs.Sum.{is}
use Rattle.graph.specs.Limits.{most_vertices, greatest_bound}
use Rattle.graph.specs.Graph.{Graph}
use Rattle.method.specs.Method.{NoneMeets, Sought}
use Rattle.method.specs.declared.Tree.{Tree}
use Rattle.method.specs.Tree.{entries, Ended}
use Rattle.method.specs.Front.{near_exit, far_exit, root_exit}
use Rattle.method.specs.Lists.{Between}

-- What is kept between two searches, with some places of the chosen edges in the lists.
pub record Known (g : Graph) (least most : ℕ → ℕ) (x : List ℕ) (price used list : ℕ → ℕ) : Type 0 where
  pub place : ℕ → ℕ
  pub between : Between g least most x price used list place

-- How far each vertex is from a way out: the root, a near vertex and a far one.
abbrev pub exit_of : ℕ → (ℕ → ℕ) → (ℕ → ℕ) → (ℕ → ℕ) → (ℕ → ℕ) → ℕ → ℕ → ℕ
exit_of rows price used least most root v =
    cond (eqb v root) (root_exit (price v) (used v) (least v)) (cond (ltb v rows) (near_exit (price v) (used v) (least v)) (far_exit (price v) (used v) (most v)))

-- A search finds a tree, which has the end of a path, or none, where no subgraph meets both bounds.
pub record Finds (g : Graph) (least most : ℕ → ℕ) (x : List ℕ) (start price : ℕ → ℕ) (root : ℕ) (r : Option Tree) : Type 0 where
  pub found : (t : Tree) → r ≡ Some t → Ended g least most x start price (entries t.label) root t.end
  pub none : r ≡ None → NoneMeets g least most

-- What a search leaves: where it found a path, what a search is to leave, and all that is kept; where it found none, no subgraph meets both bounds.
pub record Searched (g : Graph) (least most : ℕ → ℕ) (root : ℕ) (x : List ℕ) (start : ℕ → ℕ) (y : List ℕ) (price used list place : ℕ → ℕ) (r : Bool) : Type 0 where
  pub found : r ≡ true → Sought g least most root x start y price × Between g least most y price used list place
  pub none : r ≡ false → NoneMeets g least most

-- The degrees can be counted after a path from the root to vertex v: both are vertices, and v has an edge, where it is a row vertex.
pub record Countable (rows root v : ℕ) (used : ℕ → ℕ) : Type 0 where
  pub root_in : root < most_vertices
  pub end_in : v < most_vertices
  pub root_few : used root ≤ greatest_bound
  pub end_few : used v ≤ greatest_bound
  pub some : v < rows → 0 < used v + is root v

-- The degrees after a path from the root to vertex v was flipped.
pub record PathCounted (rows root v : ℕ) (used used' : ℕ → ℕ) : Type 0 where
  pub from_row : v < rows → (h : ℕ) → used' h + is v h ≡ used h + is root h
  pub from_column : rows ≤ v → (h : ℕ) → used' h ≡ used h + (is v h + is root h)
