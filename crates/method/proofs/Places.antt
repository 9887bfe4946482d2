-- The places of a vertex in the index: what stands there, and how many the row vertices have.
use Prim.Native.Nat.{ℕ, zero, suc, ◌+◌, ◌*◌, ◌-◌, ◌≤◌, ◌<◌}
use mathlib.Core.Path.{◌≡◌, refl, sym, ap, ◌∙◌}
use mathlib.Core.Bool.{true, true≢false}
use mathlib.Core.List.{List}
use native.Mathlib.Omega.{arith}
use native.Mathlib.Decide.{ℕ_discrete}
use lib.ListN.{length, get_or}
use Rattle.integers.specs.Sum.{sum, is}
use Rattle.integers.proofs.Sum.{is_same, is-other, sum-cong, sum-add, sum-none, sum-alone}
use Rattle.graph.specs.declared.Kind.TheVariants.{Bipartite}
use Rattle.graph.specs.Graph.{Graph, shape_of, vertices, column_at, first_end, second_end}
use Rattle.graph.specs.Subgraph.{ends_at}
use Rattle.graph.specs.Index.{is_end, edges_of, offset, index_of}
use Rattle.graph.specs.Passed.{Sound}
use Rattle.graph.proofs.Index.{item_at, seen, is_end-not, offset_at, offset-next, offset-more, number_in, edge_at, seen_next, offset-end, index-long}
use Rattle.method.specs.Method.{Solvable}
use Rattle.method.proofs.Solvable.{after_rows, second_from}

-- Edge e stands at place k, under vertex u.
pub record At (g : Graph) (u k e : ℕ) : Type 0 where
  pub inside : e < g.edges
  pub end : is_end g u e ≡ true
  pub place : k ≡ offset g u + seen g u e

module _ {g : Graph} {index : List ℕ} (net : Solvable g) (is : index ≡ index_of g) where
  pub index_length : length index ≡ suc (vertices g) + 2 * g.edges
  index_length = ap length is ∙ index-long g net.passed.sound

  -- The offset of a vertex.
  pub start-in : {v : ℕ} → v ≤ vertices g → v < length index
  start-in l = omega (arith, index_length)

  pub start : {v : ℕ} → v ≤ vertices g → get_or index v 0 ≡ offset g v
  start {v} l = ap (λ xs. get_or xs v 0) is ∙ offset_at g v l

  -- What stands at a place of vertex u.
  module _ {n u k : ℕ} (all : n ≡ vertices g) (u_in : u < vertices g) (low : offset g u ≤ k) (high : k < offset g (u + 1)) where
    pub place_in : n + 1 + k < length index
    place_in = omega (arith, index_length, all, offset-more g (u + 1) (vertices g) (omega arith), offset-end g net.passed.sound)

    among : k - offset g u < seen g u g.edges
    among = omega (arith, offset-next g u)

    number : get_or index (n + 1 + k) 0 ≡ get_or (edges_of g u) (k - offset g u) 0
    number =
        let e : n + 1 + k ≡ suc (vertices g) + (offset g u + (k - offset g u)) = omega (arith, all) in
        ap (λ xs. get_or xs (n + 1 + k) 0) is ∙ ap (λ i. get_or (index_of g) i 0) e ∙ number_in g u (k - offset g u) u_in among

    pub some : 0 < get_or index (n + 1 + k) 0
    some = omega (arith, number, (item_at (is_end g u) g.edges (k - offset g u) among).number)

    pub at : {e : ℕ} → e + 1 ≡ get_or index (n + 1 + k) 0 → At g u k e
    at {e} h =
        let l = item_at (is_end g u) g.edges (k - offset g u) among in
        let i : l.item ≡ e = omega (arith, h, number, l.number) in
        record {
          inside = omega (arith, i, l.among);
          end = ap (is_end g u) (sym i) ∙ l.has_it;
          place = omega (arith, ap (seen g u) (sym i), l.place);
        }

  -- Where an edge stands under one of its ends.
  pub stands : {n u e : ℕ} → n ≡ vertices g → u < vertices g → e < g.edges → is_end g u e ≡ true →
      (offset g u + seen g u e < offset g (u + 1)) × (get_or index (n + 1 + (offset g u + seen g u e)) 0 ≡ e + 1)
  stands {n} {u} {e} all u_in l end =
      let w = edge_at g u e u_in l end in
      let i : n + 1 + (offset g u + seen g u e) ≡ suc (vertices g) + (offset g u + seen g u e) = omega (arith, all) in
      let number = ap (λ xs. get_or xs (n + 1 + (offset g u + seen g u e)) 0) is ∙ ap (λ k. get_or (index_of g) k 0) i ∙ w.1 in
      (omega (arith, offset-next g u, w.0), omega (arith, number))

-- The row vertices.
module _ {g : Graph} (net : Solvable g) where
  -- An edge that ends at a row vertex has it for its first end.
  pub end_first : {u e : ℕ} → e < g.edges → u < g.rows → is_end g u e ≡ true → first_end g e ≡ u
  end_first {u} {e} l b end = elim (ℕ_discrete (first_end g e) u) [
    | yes i ↦ i
    | no i ↦ absurd (true≢false (sym end ∙ is_end-not g e u i (λ s. omega (arith, s, second_from net e l))))
  ]

-- Each edge counts once among the row vertices.
module _ (g : Graph) (bipartite : g.kind ≡ Bipartite) (sound : Sound (shape_of g) g.row g.column) where
  row_end : (e : ℕ) → e < g.edges → sum g.rows (λ v. ends_at g v e) ≡ 1
  row_end e l =
      sum-alone g.rows (first_end g e) (λ v. ends_at g v e) (sound.ends e l).in_rows
      (λ v b n. omega (arith, is-other (first_end g e) v (λ s. n (sym s)), other v b))
      ∙ omega (arith, is_same (first_end g e), other (first_end g e) (sound.ends e l).in_rows)
    where
      other : (v : ℕ) → v < g.rows → is (second_end g e) v ≡ 0
      other v b = is-other (second_end g e) v (λ s. omega (arith, s, after_rows g.kind g.rows (column_at g e) bipartite))

  once : (k : ℕ) → k ≤ g.edges → sum g.rows (λ v. seen g v k) ≡ k
  once zero l = sum-none g.rows (λ v. seen g v zero) (λ v b. refl)
  once (suc k) l =
      sum-cong g.rows (λ v. seen g v (suc k)) (λ v. seen g v k + ends_at g v k) (λ v b. seen_next g sound v k (omega arith))
      ∙ sum-add g.rows (λ v. seen g v k) (λ v. ends_at g v k)
      ∙ omega (arith, once k (omega arith), row_end k (omega arith))

  -- The row vertices have as many places as there are edges, and so have the column vertices.
  rows_places : offset g g.rows ≡ g.edges
  rows_places = once g.edges (omega arith)

  pub columns_places : offset g (vertices g) ≡ offset g g.rows + g.edges
  columns_places = omega (arith, rows_places, offset-end g sound)

pub offset-rows : {g : Graph} → Solvable g → offset g g.rows ≡ g.edges
offset-rows {g} net = rows_places g net.bipartite net.passed.sound
