-- What serving the row vertices leaves.
use Rattle.std.specs.Prelude.{ℕ, ◌≤◌, ◌<◌, ◌≡◌, ◌≢◌, Bool, true, false, List}
use Rattle.graph.specs.Graph.{Graph}
use Rattle.graph.specs.Subgraph.{degree}
use Rattle.method.specs.Method.{NoneMeets, Served}
use Rattle.method.specs.Lists.{Between}

-- What searches from row vertex t keep, from the subgraph x at prices start to y: all that is kept, the other row vertices that are served, and no column vertex has
-- fewer edges.
pub record RowKept (g : Graph) (least most : ℕ → ℕ) (t : ℕ) (x y : List ℕ) (start price used list place : ℕ → ℕ) : Type 0 where
  pub between : Between g least most y price used list place
  pub done : (v : ℕ) → v < g.rows → v ≢ t → Served g least most x start v → Served g least most y price v
  pub rises : (v : ℕ) → g.rows ≤ v → degree g x v ≤ degree g y v

-- What serving it leaves: it is served then; or no subgraph meets both bounds.
pub record RowServing (g : Graph) (least most : ℕ → ℕ) (t : ℕ) (x y : List ℕ) (start price used list place : ℕ → ℕ) (r : Bool) : Type 0 where
  pub served : r ≡ true → RowKept g least most t x y start price used list place × Served g least most y price t
  pub none : r ≡ false → NoneMeets g least most

-- What serving the row vertices leaves, from the subgraph x to y: all is kept, each row vertex is served, and no column vertex has fewer edges; or no subgraph
-- meets both bounds.
pub record AllServed (g : Graph) (least most : ℕ → ℕ) (x y : List ℕ) (price used list place : ℕ → ℕ) : Type 0 where
  pub between : Between g least most y price used list place
  pub done : (v : ℕ) → v < g.rows → Served g least most y price v
  pub rises : (v : ℕ) → g.rows ≤ v → degree g x v ≤ degree g y v

pub record Serving (g : Graph) (least most : ℕ → ℕ) (x y : List ℕ) (price used list place : ℕ → ℕ) (r : Bool) : Type 0 where
  pub served : r ≡ true → AllServed g least most x y price used list place
  pub none : r ≡ false → NoneMeets g least most
