-- A lent index is gone through by its own offsets: what stands at the next places of each edge's ends, and that the offsets add up, show that it is the graph's.
use Prim.Native.Nat.{ℕ, zero, suc, ◌+◌, ◌-◌, ◌≤◌, ◌<◌}
use mathlib.Core.Path.{◌≡◌, refl, sym, ap, ◌∙◌}
use mathlib.Core.Logic.{◌≢◌}
use mathlib.Core.Bool.{Bool, true, false, cond, false≢true}
use mathlib.Core.List.{List}
use native.Mathlib.Omega.{arith}
use native.Mathlib.Decide.{ℕ_discrete, dec_lt}
use native.Mathlib.Numerals.{add-one}
use lib.ListN.{length, get_or, set, length-set, replicate, length-replicate, get_or-replicate}
use lib.Seq.{get_or-set_other}
use Rattle.graph.specs.Graph.{Graph, shape_of, vertices, first_end, second_end}
use Rattle.graph.specs.Passed.{Sound}
use Rattle.graph.specs.Index.{is_end, offset, index_of, index_numbers}
use Rattle.graph.proofs.Index.{count_step, seen, is_end-not, offset_at, offset-next, place_of, offset-end}
use Rattle.graph.proofs.Counting.{add_at}
use Rattle.index_builder.specs.Building.{HoldsIndex}
use Rattle.positions.specs.Positions.{AddsUp}
use Rattle.index.specs.Testing.{Standing}
use Rattle.index_builder.proofs.Places.{seen_grows}

-- No more edges are seen at a vertex than there are.
seen_few : (g : Graph) (v k : ℕ) → seen g v k ≤ k
seen_few g v zero = omega arith
seen_few g v (suc k) = omega (arith, seen_few g v k, count_step (is_end g v) k, one (is_end g v k))
  where
    one : (b : Bool) → cond b 1 0 ≤ 1
    one true = omega arith
    one false = omega arith

-- Before the first edge.
pub standing_none : (g : Graph) (index : List ℕ) → Sound (shape_of g) g.row g.column → Standing g index (replicate 128 0) 0
standing_none g index S = record {
  long = length-replicate {A = ℕ} 128 0;
  counts = λ v l. get_or-replicate 128 v 0 0 (omega (arith, S.sizes.order));
  numbers = λ v k l b h. absurd (omega arith);
}

module _ (g : Graph) (S : Sound (shape_of g) g.row g.column) where
  -- The next edge, whose ends are a and b.
  module _ {e : ℕ} (l : e < g.edges) {index count : List ℕ} (T : Standing g index count e) {a b from : ℕ} (is-a : a ≡ first_end g e)
      (is_b : b ≡ second_end g e) (is-from : from ≡ suc (vertices g)) where
    a_in : a < vertices g
    a_in = omega (arith, (S.ends e l).first)

    b_in : b < vertices g
    b_in = omega (arith, (S.ends e l).second)

    few : (v : ℕ) → v < vertices g → get_or count v 0 ≤ 1024
    few v i = omega (arith, T.counts v i, seen_few g v e, S.sizes.few)

    module _ (long : length index ≡ index_numbers g) where
      asks : (v k : ℕ) → v < vertices g → k ≤ 1024 → ((v < 128) × (v < length index) × (length index ≤ 2177)) × ((from ≤ 2177) × (k ≤ 1024))
      asks v k i le =
          let o = S.sizes.order in
          let f = S.sizes.few in
          ((omega (arith, o), omega (arith, long), omega (arith, long, o, f)), (omega (arith, is-from, o), le))

      pub first_asks : ((a < 128) × (a < length index) × (length index ≤ 2177)) × ((from ≤ 2177) × (get_or count a 0 ≤ 1024))
      first_asks = asks a (get_or count a 0) a_in (few a a_in)

    -- No vertex is both ends of an edge.
    other : a ≢ b
    other s = (S.ends e l).apart (sym is-a ∙ s ∙ is_b)

    module _ {count' : List ℕ} (q : count' ≡ set count a (get_or count a 0 + 1)) where
      same : get_or count' b 0 ≡ get_or count b 0
      same = ap (λ xs. get_or xs b 0) q ∙ get_or-set_other count a b (get_or count a 0 + 1) 0 (λ s. other (sym s))

      pub second_asks : length index ≡ index_numbers g → ((b < 128) × (b < length index) × (length index ≤ 2177)) × ((from ≤ 2177) × (get_or count' b 0 ≤ 1024))
      second_asks long = asks long b (get_or count' b 0) b_in (omega (arith, same, few b b_in))

      module _ {number : ℕ} (is_number : number ≡ e + 1) (p : get_or index (from + (get_or index a 0 + get_or count a 0)) 0 ≡ number)
          (r : get_or index (from + (get_or index b 0 + get_or count' b 0)) 0 ≡ number) {count'' : List ℕ} (t : count'' ≡ set count' b (get_or count' b 0 + 1)) where
        -- Vertex v is one of the ends, where the number was found.
        here : (v : ℕ) → v < vertices g → (x : ℕ) → x ≡ v → {k : ℕ} → k ≡ get_or count x 0 → get_or index (from + (get_or index x 0 + k)) 0 ≡ number →
            get_or index (suc (vertices g) + (get_or index v 0 + seen g v e)) 0 ≡ suc e
        here v i x is {k} is-k at =
            let place : suc (vertices g) + (get_or index v 0 + seen g v e) ≡ from + (get_or index x 0 + k) =
            omega (arith, T.counts v i, ap (λ w. get_or count w 0) is, ap (λ w. get_or index w 0) is) in
            ap (λ j. get_or index j 0) place ∙ at ∙ is_number ∙ add-one e

        pub standing_more : Standing g index count'' (e + 1)
        standing_more = record {
          long = ap length t ∙ length-set count' b (get_or count' b 0 + 1) ∙ ap length q ∙ length-set count a (get_or count a 0 + 1) ∙ T.long;
          counts = λ v i.
              omega (
                arith,
                ap (λ xs. get_or xs v 0) t,
                add_at count' b 1 v (omega (arith, b_in, S.sizes.order, long')),
                ap (λ xs. get_or xs v 0) q,
                add_at count a 1 v (omega (arith, a_in, S.sizes.order, T.long)),
                T.counts v i,
                seen_grows g S l is-a is_b v,
              );
          numbers = λ v k i c h. elim (ℕ_discrete k e) [
            | yes d ↦ elim (ℕ_discrete a v) [
              | yes j ↦ ap (λ n. get_or index (suc (vertices g) + (get_or index v 0 + seen g v n)) 0) d ∙ here v i a j refl p ∙ ap suc (sym d)
              | no j ↦ elim (ℕ_discrete b v) [
                | yes m ↦ ap (λ n. get_or index (suc (vertices g) + (get_or index v 0 + seen g v n)) 0) d ∙ here v i b m same r ∙ ap suc (sym d)
                | no m ↦
                    let none = is_end-not g e v (λ s. j (is-a ∙ s)) (λ s. m (is_b ∙ s)) in
                    absurd (false≢true (sym none ∙ ap (is_end g v) (sym d) ∙ h))
              ]
            ]
            | no d ↦ T.numbers v k i (omega (arith, d)) h
          ];
        }
          where
            long' : length count' ≡ 128
            long' = ap length q ∙ length-set count a (get_or count a 0 + 1) ∙ T.long

  -- After all edges, where the offsets add up.
  module _ {e n : ℕ} {index count : List ℕ} (T : Standing g index count e) (all : e ≡ g.edges) (is-n : n ≡ vertices g) (A : AddsUp index count n) where
    right : (v : ℕ) → v ≤ vertices g → get_or index v 0 ≡ offset g v
    right zero l = A.first
    right (suc v) l =
        omega (
          arith,
          ap (λ k. get_or index k 0) (add-one v),
          A.next v (omega arith),
          T.counts v (omega arith),
          ap (seen g v) all,
          right v (omega arith),
          offset-next g v,
          ap (offset g) (add-one v),
        )

    pub standing_all : HoldsIndex g index
    standing_all = record {
      each = λ k b. elim (dec_lt (vertices g) k) [
        | yes d ↦
            let w = place_of g (k - suc (vertices g)) (omega (arith, offset-end g S)) in
            let at : suc (vertices g) + (k - suc (vertices g)) ≡ k = omega (arith, d) in
            let place : suc (vertices g) + (get_or index w.vertex 0 + seen g w.vertex w.edge) ≡ k = omega (arith, w.is, d, right w.vertex (omega (arith, w.vertex_in))) in
            ap (λ i. get_or index i 0) (sym place)
            ∙ T.numbers w.vertex w.edge w.vertex_in (omega (arith, w.edge_in)) w.end
            ∙ sym w.number
            ∙ ap (λ i. get_or (index_of g) i 0) at
        | no d ↦ right k (omega (arith, d)) ∙ sym (offset_at g k (omega (arith, d)))
      ];
    }
