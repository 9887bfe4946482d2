-- The first stages of the method: the first prices, and the table of the vertices.
use Rattle.std.specs.Prelude.{ℕ, ◌+◌, ◌≤◌, ◌<◌, ◌≡◌, ◌≢◌, List, ℤ, length}
use Rattle.graph.specs.Limits.{most_vertices, greatest_weight}
use Rattle.graph.specs.Graph.{Graph, vertices}
use Rattle.method.specs.Method.{level, value, cost, natural_bound}
use Rattle.method.specs.declared.Table.{Table}
use Rattle.method.specs.Lists.{leasts, mosts}

-- The price of vertex v is raised to k, if it is not as high already.
pub record Raised (v k : ℕ) (old new : ℕ → ℕ) : Type 0 where
  pub asked : k ≤ new v
  pub kept : old v ≤ new v
  pub most : (m : ℕ) → old v ≤ m → k ≤ m → new v ≤ m
  pub others : (h : ℕ) → h ≢ v → new h ≡ old h

-- The first prices, after n edges: column vertices have the price 0, and the prices of row vertices make the slack of each of the n edges at least 0.
pub record Started (g : Graph) (price : ℕ → ℕ) (n : ℕ) : Type 0 where
  pub least : (v : ℕ) → v < vertices g → level ≤ price v
  pub most : (v : ℕ) → v < vertices g → price v ≤ level + greatest_weight
  pub column : (v : ℕ) → g.rows ≤ v → v < vertices g → price v ≡ level
  pub loose : (e : ℕ) → e < n → value g e ≤ cost g price e

-- The table of vertices with these bounds for mosts, and with no leasts.
pub record BoundsTabled (bound : List ℤ) (table : Table) : Type 0 where
  pub least : (v : ℕ) → v < most_vertices → leasts table v ≡ 0
  pub most : (v : ℕ) → v < length bound → mosts table v ≡ natural_bound bound v
