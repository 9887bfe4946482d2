-- What a graph that the solver's tests have passed gives, edge by edge.
use Prim.Native.Nat.{ℕ, ◌+◌, ◌≤◌, ◌<◌}
use mathlib.Core.Path.{◌≡◌, ap, subst, sym}
use mathlib.Core.List.{List}
use native.Mathlib.Omega.{arith}
use lib.IntN.{ℤ, pos, negsuc, ◌+ℤ◌}
use lib.ListN.{length}
use Rattle.integers.specs.Integer.{up, dn, Within}
use Rattle.integers.proofs.Order.{up-add}
use Rattle.graph.specs.declared.Kind.{Kind}
use Rattle.graph.specs.declared.Kind.TheVariants.{Bipartite, General}
use Rattle.graph.specs.Limits.{most_vertices, most_edges, greatest_weight}
use Rattle.graph.specs.Graph.{Graph, vertices, vertices_of, column_vertex, column_at, weight_at, first_end, second_end}
use Rattle.graph.specs.Passed.{Passed, MarksHold}
use Rattle.graph.proofs.Passed.{weight_hold}
use Rattle.method.specs.Method.{weightless, value, Solvable, Good}

-- The row vertices are among the vertices, and come first in a bipartite graph.
pub rows_among : (k : Kind) (rows columns : ℕ) → rows ≤ vertices_of k rows columns
rows_among Bipartite rows columns = omega arith
rows_among General rows columns = omega arith

pub after_rows : (k : Kind) (rows c : ℕ) → k ≡ Bipartite → rows ≤ column_vertex k rows c
after_rows k rows c e = subst (λ (k : Kind). rows ≤ column_vertex k rows c) (sym e) (omega arith)

-- A weight in range has a value in range.
value-range : (w : ℤ) → Within greatest_weight w → (weightless ≤ up (w +ℤ pos (weightless)) + greatest_weight) × (up (w +ℤ pos (weightless)) ≤ weightless + greatest_weight)
value-range w l = go (w +ℤ pos (weightless)) (up-add w (pos (weightless)))
  where
    go : (y : ℤ) → up y + (dn w + 0) ≡ (up w + weightless) + dn y → (weightless ≤ up y + greatest_weight) × (up y ≤ weightless + greatest_weight)
    go (pos n) e = (omega arith, omega arith)
    go (negsuc n) e = absurd (omega arith)

pub weight_within : {g : Graph} → Passed g → (e : ℕ) → e < g.edges → Within greatest_weight (weight_at g e)
weight_within {g} p e l = weight_hold (weight_at g e) (p.weights e l)

pub value_in : {g : Graph} → Passed g → (e : ℕ) → e < g.edges → (weightless ≤ value g e + greatest_weight) × (value g e ≤ weightless + greatest_weight)
value_in {g} p e l = value-range (weight_at g e) (weight_within p e l)

module _ {g : Graph} (s : Solvable g) where
  pub few : vertices g ≤ most_vertices
  few = s.passed.sound.sizes.order

  pub small : g.edges ≤ most_edges
  small = s.passed.sound.sizes.few

  pub rows_in : g.rows ≤ vertices g
  rows_in = rows_among g.kind g.rows g.columns

  -- There is a column vertex.
  pub rows_few : g.rows < most_vertices
  rows_few =
      let all : vertices g ≡ g.rows + g.columns = ap (λ (k : Kind). vertices_of k g.rows g.columns) s.bipartite in
      omega (arith, all, few, s.passed.sound.sizes.columns.least)

  pub root_in : {v : ℕ} → v < g.rows → v < vertices g
  root_in l = omega (arith, rows_in)

  -- What the index of a row says of an edge.
  pub at_edge : {e : ℕ} → e < length g.row → e < g.edges
  at_edge l = omega (arith, s.passed.sound.row_long)

  module _ (e : ℕ) (l : e < g.edges) where
    pub first_to : first_end g e < g.rows
    first_to = (s.passed.sound.ends e l).in_rows

    pub second_from : g.rows ≤ second_end g e
    second_from = after_rows g.kind g.rows (column_at g e) s.bipartite

    pub second_to : second_end g e < vertices g
    second_to = (s.passed.sound.ends e l).second

    pub value-least : weightless ≤ value g e + greatest_weight
    value-least = (value_in s.passed e l).0

    pub value-most : value g e ≤ weightless + greatest_weight
    value-most = (value_in s.passed e l).1

-- What is kept throughout holds of the marks.
pub marks_hold : {g : Graph} {least most : ℕ → ℕ} {x : List ℕ} {price : ℕ → ℕ} → Good g least most x price → MarksHold g.edges x
marks_hold good = record { long = good.long; each = λ e l. good.marks e }
