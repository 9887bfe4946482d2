-- How the index is laid out, and how often an edge's number stands in it.
use Prim.Native.Nat.{ℕ, zero, suc, ◌+◌, ◌-◌, ◌≤◌, ◌<◌}
use mathlib.Core.Path.{◌≡◌, refl, sym, ap, ap₂, ◌∙◌}
use mathlib.Core.Logic.{◌≢◌}
use mathlib.Core.Bool.{Bool, true, false, cond}
use mathlib.Core.List.{List, [], ◌∷◌, ◌++◌}
use native.Mathlib.Omega.{arith}
use native.Mathlib.Decide.{ℕ_discrete, dec_lt}
use lib.ListN.{length, get_or, take, drop, length-drop}
use lib.Seq.{take_all, drop-append_seam, take-append-le, drop-append-le}
use Rattle.integers.specs.Sum.{sum}
use Rattle.integers.proofs.Sum.{is_same, is-other, sum-cong}
use Rattle.graph.specs.Graph.{Graph, shape_of, vertices, first_end, second_end}
use Rattle.graph.specs.Subgraph.{ends_at}
use Rattle.graph.specs.Passed.{Sound}
use Rattle.graph.specs.Index.{is_end, numbers_where, chained, edges_of, offset, index_of}
use Rattle.graph.proofs.Index.{count_more, item_at, start_of, start_next, start_more, chained-long, ones-long, is_end-first, is_end-second, is_end-not, offset_at, offset-next}
use Rattle.graph.proofs.Index.{seen, one_end, seen_next, both_ends, offset-end, index-long}
use Rattle.promises.specs.Promises.{occurs, edge_numbers, numbers_under, LaidOut, ListsEdges}

occurs-append : (k : ℕ) (xs ys : List ℕ) → occurs k (xs ++ ys) ≡ occurs k xs + occurs k ys
occurs-append k [] ys = omega arith
occurs-append k (x ∷ xs) ys = omega (arith, occurs-append k xs ys)

-- The number of an item stands once among those that have a property, where it has it.
module _ (has : ℕ → Bool) where
  beyond : (n k : ℕ) → n < k → occurs k (numbers_where n has) ≡ 0
  beyond zero k l = refl
  beyond (suc n) k l = occurs-append k (numbers_where n has) (cond (has n) (suc n ∷ []) []) ∙ omega (arith, beyond n k (omega arith), last (has n))
    where
      last : (b : Bool) → occurs k (cond b (suc n ∷ []) []) ≡ 0
      last true = omega (arith, is-other (suc n) k (λ e. omega (arith, e)))
      last false = refl

  number_once : (n e : ℕ) → e < n → occurs (suc e) (numbers_where n has) ≡ cond (has e) 1 0
  number_once zero e l = absurd (omega arith)
  number_once (suc n) e l = elim (ℕ_discrete e n) [
    | yes i ↦ ap (λ k. occurs (suc k) (numbers_where (suc n) has)) i ∙ here ∙ ap (λ k. cond (has k) 1 0) (sym i)
    | no i ↦
        occurs-append (suc e) (numbers_where n has) (cond (has n) (suc n ∷ []) [])
        ∙ omega (arith, number_once n e (omega (arith, i)), other i (has n))
  ]
    where
      newest : (b : Bool) → occurs (suc n) (cond b (suc n ∷ []) []) ≡ cond b 1 0
      newest true = omega (arith, is_same (suc n))
      newest false = refl

      here : occurs (suc n) (numbers_where (suc n) has) ≡ cond (has n) 1 0
      here =
          occurs-append (suc n) (numbers_where n has) (cond (has n) (suc n ∷ []) [])
          ∙ omega (arith, beyond n (suc n) (omega arith), newest (has n))

      other : e ≢ n → (b : Bool) → occurs (suc e) (cond b (suc n ∷ []) []) ≡ 0
      other i true = omega (arith, is-other (suc n) (suc e) (λ h. i (omega (arith, h))))
      other i false = refl

  -- They rise.
  numbers_rise : (n i j : ℕ) → i < j → j < length (numbers_where n has) → get_or (numbers_where n has) i 0 < get_or (numbers_where n has) j 0
  numbers_rise n i j l b =
      let a = item_at has n i (omega arith) in
      let c = item_at has n j b in
      elim (dec_lt a.item c.item) [
        | yes h ↦ omega (arith, a.number, c.number)
        | no h ↦ absurd (omega (arith, h, a.place, c.place, count_more has c.item a.item (omega (arith, h))))
      ]

-- Lists one after the other.
module _ (list : ℕ → List ℕ) where
  occurs-chained : (k n : ℕ) → occurs k (chained n list) ≡ sum n (λ v. occurs k (list v))
  occurs-chained k zero = refl
  occurs-chained k (suc n) = occurs-append k (chained n list) (list n) ∙ omega (arith, occurs-chained k n)

  -- The list of item v stands from where it begins to where the next does.
  part : (n v : ℕ) → v < n → take (length (list v)) (drop (start_of list v) (chained n list)) ≡ list v
  part zero v l = absurd (omega arith)
  part (suc n) v l = elim (ℕ_discrete v n) [
    | yes e ↦
        ap (λ k. take (length (list k)) (drop (start_of list k) (chained (suc n) list))) e
        ∙ ap (λ k. take (length (list n)) (drop k (chained n list ++ list n))) (sym (chained-long list n))
        ∙ ap (take (length (list n))) (drop-append_seam (chained n list) (list n))
        ∙ take_all (length (list n)) (list n) (omega arith)
        ∙ ap list (sym e)
    | no e ↦
        let v-in : v < n = omega (arith, e) in
        let inside : start_of list v ≤ length (chained n list) = omega (arith, chained-long list n, start_more list v n (omega arith)) in
        let room : length (list v) ≤ length (drop (start_of list v) (chained n list)) =
        omega (arith, length-drop (start_of list v) (chained n list), chained-long list n, start_next list v, start_more list (v + 1) n (omega arith)) in
        ap (take (length (list v))) (drop-append-le (start_of list v) (chained n list) (list n) inside)
        ∙ take-append-le (length (list v)) (drop (start_of list v) (chained n list)) (list n) room
        ∙ part n v v-in
  ]

chained-cong : (n : ℕ) (f h : ℕ → List ℕ) → ((v : ℕ) → v < n → f v ≡ h v) → chained n f ≡ chained n h
chained-cong zero f h same = refl
chained-cong (suc n) f h same = ap₂ ◌++◌ (chained-cong n f h (λ v l. same v (omega arith))) (same n (omega arith))

module _ (g : Graph) where
  numbers_after : edge_numbers (vertices g) (index_of g) ≡ chained (vertices g) (edges_of g)
  numbers_after =
      ap (λ k. drop k (index_of g)) (sym (ones-long (offset g) (suc (vertices g))))
      ∙ drop-append_seam (chained (suc (vertices g)) (λ v. offset g v ∷ [])) (chained (vertices g) (edges_of g))

  under : (v : ℕ) → v < vertices g → numbers_under (vertices g) (index_of g) v ≡ edges_of g v
  under v l =
      let here = offset_at g v (omega arith) in
      let n : suc v ≡ v + 1 = omega arith in
      let next : get_or (index_of g) (suc v) 0 ≡ offset g (v + 1) = offset_at g (suc v) (omega arith) ∙ ap (offset g) n in
      let size : get_or (index_of g) (suc v) 0 - get_or (index_of g) v 0 ≡ length (edges_of g v) = omega (arith, here, next, offset-next g v) in
      ap₂ (λ a b. take a (drop b (edge_numbers (vertices g) (index_of g)))) size here
      ∙ ap (λ xs. take (length (edges_of g v)) (drop (offset g v) xs)) numbers_after
      ∙ part (edges_of g) (vertices g) v l

  -- Under a vertex an edge stands once where it ends there, and not otherwise.
  under_end : (v e : ℕ) → v < vertices g → e < g.edges → occurs (suc e) (numbers_under (vertices g) (index_of g) v) ≡ cond (is_end g v e) 1 0
  under_end v e l b = ap (occurs (suc e)) (under v l) ∙ number_once (is_end g v) g.edges e b

  module _ (s : Sound (shape_of g) g.row g.column) where
    -- A vertex has as many numbers as edges that it is an end of.
    seen_ends : (v k : ℕ) → k ≤ g.edges → seen g v k ≡ sum k (λ e. ends_at g v e)
    seen_ends v zero l = refl
    seen_ends v (suc k) l = seen_next g s v k (omega arith) ∙ omega (arith, seen_ends v k (omega arith))

    pub laid_out : LaidOut g (index_of g)
    laid_out = record {
      long = index-long g s;
      first = offset_at g 0 (omega arith);
      last = offset_at g (vertices g) (omega arith) ∙ offset-end g s;
      counts = λ v l.
          offset_at g v l
          ∙ sum-cong v (λ u. length (edges_of g u)) (λ u. length (numbers_under (vertices g) (index_of g) u)) (λ u b. ap length (sym (under u (omega arith))));
      grouped = numbers_after ∙ chained-cong (vertices g) (edges_of g) (numbers_under (vertices g) (index_of g)) (λ v l. sym (under v l));
      many = λ v l. ap length (under v l) ∙ seen_ends v g.edges (omega arith);
      rising = λ v l i j a b.
          rw (under v l) (numbers_rise (is_end g v) g.edges i j a (omega (arith, ap length (under v l))));
    }

    pub lists_edges : ListsEdges g (index_of g)
    lists_edges = record {
      twice = λ e l.
          ap (occurs (suc e)) numbers_after
          ∙ occurs-chained (edges_of g) (suc e) (vertices g)
          ∙ sum-cong (vertices g) (λ v. occurs (suc e) (edges_of g v)) (λ v. ends_at g v e) (λ v b. number_once (is_end g v) g.edges e l ∙ one_end g s v e l)
          ∙ both_ends g s e l;
      under_first = λ e l. under_end (first_end g e) e (s.ends e l).first l ∙ ap (λ (b : Bool). cond b 1 0) (is_end-first g e (first_end g e) refl);
      under_second = λ e l. under_end (second_end g e) e (s.ends e l).second l ∙ ap (λ (b : Bool). cond b 1 0) (is_end-second g e (second_end g e) refl);
      under_no_other = λ v e b l a c. under_end v e b l ∙ ap (λ (b : Bool). cond b 1 0) (is_end-not g e v a c);
    }
