-- The doubled graph passes the tests wherever the graph does and is doubled.
use Prim.Native.Nat.{ℕ, ◌+◌, ◌-◌, ◌≤◌, ◌<◌}
use mathlib.Core.Path.{◌≡◌, refl, sym, ap, ◌∙◌, subst, subst₂}
use mathlib.Core.Bool.{Bool, true, false, true≢false, ◌&&◌}
use mathlib.Core.List.{List, [], ◌∷◌}
use native.Mathlib.Omega.{arith}
use lib.Dec.{leb, ltb, eqb}
use lib.IntN.{ℤ, pos}
use lib.ListN.{length}
use lib.Signed.{◌≤ℤ◌}
use borrow.Author.Tests.{le-leb, ltb-true, eqb-true, eq-eqb}
use Rattle.graph.specs.declared.Kind.{Kind}
use Rattle.graph.specs.declared.Kind.TheVariants.{Bipartite, General}
use Rattle.graph.specs.Limits.{most_edges, greatest_bound}
use Rattle.graph.specs.Graph.{Graph, vertices, vertices_of, row_at, column_at, weight_at, column_vertex, second_end, bound_at}
use Rattle.graph.specs.Graph.{up_to, sizes_in_range, ends_in_range, weight_in_range, joined, joins}
use Rattle.graph.specs.Doubled.{doubled, doubled_bounds}
use Rattle.graph.specs.Passed.{UpTo, SizesHold, EndsHold, Passed, Bounded}
use Rattle.graph.proofs.Ranges.{both, held, ◌also◌, up_to-true, sizes_hold, ends_hold}
use Rattle.graph.proofs.Passing.{some_none, none_some}
use Rattle.doubling.specs.Doublable.{Doublable}
use Rattle.doubling.proofs.Halves.{halves, in_first, in_second, both_long}

-- ---- tests

up_to-holds : {n x : ℕ} → 1 ≤ x → x ≤ n → up_to n x ≡ true
up_to-holds {n} {x} p q = le-leb 1 x p also le-leb x n q

-- Edges that have not the same ends.
not_joined : {a b c d : ℕ} → (a ≡ c → b ≡ d → ⊥) → (eqb a c && eqb b d) ≡ false
not_joined {a} {b} {c} {d} apart = go (eqb a c && eqb b d) refl
  where
    go : (t : Bool) → (eqb a c && eqb b d) ≡ t → t ≡ false
    go false e = refl
    go true e = let w = both (eqb a c) (eqb b d) e in absurd (apart (eqb-true a c w.0) (eqb-true b d w.1))

joined-not : {a b c d : ℕ} → (eqb a c && eqb b d) ≡ false → a ≡ c → b ≡ d → ⊥
joined-not {a} {b} {c} {d} e p q = true≢false (sym (eq-eqb a c p also eq-eqb b d q) ∙ e)

-- ---- a general graph

-- In a general graph the rows are the vertices, there are as many columns, and an edge's column is below its row.
pub record Below (rows r c : ℕ) : Type 0 where
  pub row : UpTo rows r
  pub column : UpTo rows c
  pub below : c < r

general-sizes : (k : Kind) (rows columns edges : ℕ) → k ≡ General → sizes_in_range k rows columns edges ≡ true → columns ≡ rows
general-sizes k rows columns edges is e =
    let w = held (up_to 128 rows) (eqb columns rows ∷ leb edges 1024 ∷ []) (sym (ap (λ j. sizes_in_range j rows columns edges) is) ∙ e) in
    eqb-true columns rows w.1.0

general-ends : (k : Kind) (rows columns r c : ℕ) → k ≡ General → columns ≡ rows → ends_in_range k rows columns r c ≡ true → Below rows r c
general-ends k rows columns r c is same e =
    let w = held (up_to rows r) (up_to columns c ∷ ltb c r ∷ []) (sym (ap (λ j. ends_in_range j rows columns r c) is) ∙ e) in
    let q = up_to-true columns c w.1.0 in
    record {
      row = up_to-true rows r w.0;
      column = record { least = q.least; greatest = omega (arith, q.greatest, same) };
      below = ltb-true c r w.1.1.0;
    }

module _ {g : Graph} (D : Doublable g) where
  row_long : length g.row ≡ g.edges
  row_long = D.passed.sound.row_long

  column_long : length g.column ≡ g.edges
  column_long = D.passed.sound.column_long

  weight_long : length g.weight ≡ g.edges
  weight_long = D.passed.weight_long

  pub general-vertices : vertices g ≡ g.rows
  general-vertices = ap (λ k. vertices_of k g.rows g.columns) D.general

  pub general-second : (e : ℕ) → second_end g e ≡ column_at g e - 1
  general-second e = ap (λ k. column_vertex k g.rows (column_at g e)) D.general

  pub ends_below : (e : ℕ) → e < g.edges → Below g.rows (row_at g e) (column_at g e)
  ends_below e l =
      general-ends g.kind g.rows g.columns (row_at g e) (column_at g e) D.general
      (general-sizes g.kind g.rows g.columns g.edges D.general D.passed.sound.sizes.test) (D.passed.sound.ends e l).test

  -- ---- its edges twice: as they are, and turned round

  module _ (e : ℕ) (l : e < g.edges) where
    pub row_first : row_at (doubled g) e ≡ row_at g e
    row_first = in_first g.row g.column 0 row_long e l

    pub column_first : column_at (doubled g) e ≡ column_at g e
    column_first = in_first g.column g.row 0 column_long e l

    pub weight_first : weight_at (doubled g) e ≡ weight_at g e
    weight_first = in_first g.weight g.weight (pos 0) weight_long e l

  module _ (e : ℕ) where
    pub row_second : row_at (doubled g) (g.edges + e) ≡ column_at g e
    row_second = in_second g.row g.column 0 row_long e

    pub column_second : column_at (doubled g) (g.edges + e) ≡ row_at g e
    column_second = in_second g.column g.row 0 column_long e

    pub weight_second : weight_at (doubled g) (g.edges + e) ≡ weight_at g e
    weight_second = in_second g.weight g.weight (pos 0) weight_long e

  -- ---- the tests

  sizes_doubled : SizesHold Bipartite g.rows g.rows (g.edges + g.edges)
  sizes_doubled =
      let r = up_to-holds D.passed.sound.sizes.rows.least D.few in
      sizes_hold Bipartite g.rows g.rows (g.edges + g.edges) (r also r also le-leb (g.edges + g.edges) most_edges (omega (arith, D.few_edges)))

  ends_doubled : (e : ℕ) → e < g.edges + g.edges → EndsHold Bipartite g.rows g.rows (row_at (doubled g) e) (column_at (doubled g) e)
  ends_doubled =
      halves (λ e. EndsHold Bipartite g.rows g.rows (row_at (doubled g) e) (column_at (doubled g) e)) g.edges
      (λ e l. let b = ends_below e l in subst₂ hold (sym (row_first e l)) (sym (column_first e l)) (made b.row b.column))
      (λ e l. let b = ends_below e l in subst₂ hold (sym (row_second e)) (sym (column_second e)) (made b.column b.row))
    where
      hold : ℕ → ℕ → Type 0
      hold r c = EndsHold Bipartite g.rows g.rows r c

      made : {r c : ℕ} → UpTo g.rows r → UpTo g.rows c → hold r c
      made {r} {c} p q = ends_hold Bipartite g.rows g.rows r c (up_to-holds p.least p.greatest also up_to-holds q.least q.greatest)

  -- No edge of the graph has the ends of an earlier one.
  earlier_apart : (e : ℕ) → e < g.edges → (i : ℕ) → i < e → row_at g i ≡ row_at g e → column_at g i ≡ column_at g e → ⊥
  earlier_apart e l i b = joined-not (some_none e (joins g (row_at g e) (column_at g e)) (D.passed.apart e l) i b)

  -- Nor has one that is turned round those of any.
  turned_apart : (e : ℕ) → e < g.edges → (i : ℕ) → i < g.edges → row_at g i ≡ column_at g e → column_at g i ≡ row_at g e → ⊥
  turned_apart e l i b p q = omega (arith, (ends_below e l).below, (ends_below i b).below, p, q)

  abbrev Alone : ℕ → Type 0
  Alone e = joined (doubled g) e (row_at (doubled g) e) (column_at (doubled g) e) ≡ false

  first_alone : (e : ℕ) → e < g.edges → Alone e
  first_alone e l =
      none_some e (joins (doubled g) (row_at (doubled g) e) (column_at (doubled g) e))
      (λ i b.
      let k : i < g.edges = omega arith in
      not_joined
      (λ p q. earlier_apart e l i b (sym (row_first i k) ∙ p ∙ row_first e l) (sym (column_first i k) ∙ q ∙ column_first e l)))

  second_alone : (e : ℕ) → e < g.edges → Alone (g.edges + e)
  second_alone e l =
      none_some (g.edges + e) (joins (doubled g) (row_at (doubled g) (g.edges + e)) (column_at (doubled g) (g.edges + e)))
      (λ i b. halves Apart g.edges first second i (omega (arith, b, l)) b)
    where
      Apart : ℕ → Type 0
      Apart i = i < g.edges + e → joins (doubled g) (row_at (doubled g) (g.edges + e)) (column_at (doubled g) (g.edges + e)) i ≡ false

      first : (i : ℕ) → i < g.edges → Apart i
      first i k b =
          not_joined (λ p q. turned_apart e l i k (sym (row_first i k) ∙ p ∙ row_second e) (sym (column_first i k) ∙ q ∙ column_second e))

      second : (i : ℕ) → i < g.edges → Apart (g.edges + i)
      second i k b =
          not_joined
          (λ p q. earlier_apart e l i (omega arith) (sym (column_second i) ∙ q ∙ column_second e) (sym (row_second i) ∙ p ∙ row_second e))

  pub doubled-passed : Passed (doubled g)
  doubled-passed = record {
    sound = record {
      row_long = both_long g.row g.column 0 row_long column_long;
      column_long = both_long g.column g.row 0 column_long row_long;
      sizes = sizes_doubled;
      ends = ends_doubled;
    };
    weight_long = both_long g.weight g.weight (pos 0) weight_long weight_long;
    weights =
        halves (λ e. weight_in_range (weight_at (doubled g) e) ≡ true) g.edges
        (λ e l. ap weight_in_range (weight_first e l) ∙ D.passed.weights e l)
        (λ e l. ap weight_in_range (weight_second e) ∙ D.passed.weights e l);
    apart = halves Alone g.edges first_alone second_alone;
  }

  -- The bounds on both sides are those of the graph.
  module _ (bound : List ℤ) (long : length bound ≡ vertices g) where
    bound-long : length bound ≡ g.rows
    bound-long = long ∙ general-vertices

    pub bound_first : (v : ℕ) → v < g.rows → bound_at (doubled_bounds bound) v ≡ bound_at bound v
    bound_first v l = in_first bound bound (pos 0) bound-long v l

    pub bound_second : (v : ℕ) → bound_at (doubled_bounds bound) (g.rows + v) ≡ bound_at bound v
    bound_second v = in_second bound bound (pos 0) bound-long v

  pub doubled-bounded : {bound : List ℤ} → Bounded (vertices g) bound → Bounded (vertices (doubled g)) (doubled_bounds bound)
  doubled-bounded {bound} B = record {
    long = both_long bound bound (pos 0) (bound-long bound B.long) (bound-long bound B.long);
    range =
        halves (λ v. Ranged (bound_at (doubled_bounds bound) v)) g.rows
        (λ v l. subst Ranged (sym (bound_first bound B.long v l)) (B.range v (omega (arith, general-vertices))))
        (λ v l. subst Ranged (sym (bound_second bound B.long v)) (B.range v (omega (arith, general-vertices))));
  }
    where
      Ranged : ℤ → Type 0
      Ranged z = (pos 0 ≤ℤ z) × (z ≤ℤ pos greatest_bound)
