-- The row vertices are served by searches: each leaves less of its root, and where none is left to make the root is served.
use Prim.Native.Nat.{ℕ, ◌+◌, ◌-◌, ◌≤◌, ◌<◌}
use mathlib.Core.List.{List}
use Rattle.graph.specs.Graph.{Graph}
use Rattle.graph.specs.Subgraph.{degree}
use Rattle.method.specs.Method.{Served}
use Rattle.method.specs.Lists.{Between}

-- What is left of a root, its room and its price, falls with each search: the root has one edge more, or its price falls.
abbrev pub left_of : (ℕ → ℕ) → (ℕ → ℕ) → (ℕ → ℕ) → ℕ → ℕ
left_of most used price v = (most v - used v) + price v

-- The first i roots are served, and no column vertex has fewer edges than in x.
pub record ServedTo (g : Graph) (least most roots : ℕ → ℕ) (i : ℕ) (x y : List ℕ) (price used list place : ℕ → ℕ) : Type 0 where
  pub between : Between g least most y price used list place
  pub done : (j : ℕ) → j < i → Served g least most y price (roots j)
  pub rises : (v : ℕ) → g.rows ≤ v → degree g x v ≤ degree g y v
