-- What the solver yields of a graph and bounds that have passed: what is left to its tests of the kind and of the index.
use Rattle.std.specs.Prelude.{Option, None, Some, Ok}
use Prim.Native.Nat.{ℕ, suc}
use mathlib.Core.Path.{◌≡◌, refl, sym, ap, ◌∙◌}
use mathlib.Core.Logic.{◌≢◌}
use mathlib.Core.Bool.{Bool, true, ◌&&◌}
use mathlib.Core.List.{List, [], ◌∷◌, ◌++◌}
use native.Mathlib.Omega.{arith}
use lib.Dec.{eqb}
use lib.IntN.{ℤ}
use lib.ListN.{length, get_or}
use borrow.Author.Tests.{eqb-true, eqb-false, eq-eqb}
use Rattle.graph.specs.declared.Kind.TheVariants.{Bipartite, General}
use Rattle.graph.specs.declared.Fault.TheVariants.{LentLength, NotBipartite, WrongIndex}
use Rattle.graph.specs.Limits.{workspace_numbers}
use Rattle.graph.specs.Refusal.{Outcome, refuses, told, lowest, passing}
use Rattle.graph.specs.Graph.{Graph, shape_of, vertices}
use Rattle.graph.specs.Tests.{graph_lengths, graph_tests, bound_test, kind_test, is_bipartite}
use Rattle.graph.specs.Index.{index_of, index_numbers, index_test, build_tests, build_index, test_index}
use Rattle.graph.specs.Passed.{Sound, Passed, Bounded}
use Rattle.graph.proofs.Passing.{Lowest, lowest-none, lowest-some, passing-append, passing-found, once-passes, once-refuses, pass}
use Rattle.graph.proofs.Passed.{passed_lengths, passed_tests, bounds_test}
use Rattle.graph.proofs.Index.{given_index, index_given, index_built, index_tested}
use Rattle.graph.proofs.Ranges.{◌also◌}
use Rattle.dual.specs.Solve.{Lent, other_lengths, solve}
use Rattle.duality.proofs.Passed.{solve-passed}
use Rattle.report.specs.Programs.{lent_for}
use Rattle.promises.specs.Promises.{RefusedWhereUnlike}

-- The outputs that are lent are as long as they should be.
pub record LentRight (g : Graph) (lent : Lent) : Type 0 where
  pub chosen : lent.chosen ≡ g.edges
  pub vertex_prices : lent.vertex_prices ≡ vertices g
  pub edge_prices : lent.edge_prices ≡ g.edges
  pub workspace : lent.workspace ≡ workspace_numbers

pub lent-right : (g : Graph) → LentRight g (lent_for g)
lent-right g = record { chosen = refl; vertex_prices = refl; edge_prices = refl; workspace = refl }

module _ {g : Graph} {bound : List ℤ} {lent : Lent} (P : Passed g) (B : Bounded (vertices g) bound) (R : LentRight g lent) where
  module _ (index : List ℕ) (long : length index ≡ index_numbers g) where
    abbrev lengths : Bool
    lengths = graph_lengths g && (eqb (length bound) (vertices g) && other_lengths (shape_of g) (length index) lent)

    others_right : other_lengths (shape_of g) (length index) lent ≡ true
    others_right =
        eq-eqb (length index) (index_numbers g) long
        also eq-eqb lent.chosen g.edges R.chosen
        also eq-eqb lent.vertex_prices (vertices g) R.vertex_prices
        also eq-eqb lent.edge_prices g.edges R.edge_prices
        also eq-eqb lent.workspace workspace_numbers R.workspace

    lengths_right : lengths ≡ true
    lengths_right = passed_lengths P also (eq-eqb (length bound) (vertices g) B.long also others_right)

    -- What is left to the tests of the kind and of the index.
    solver_comes : solve g bound index lent ≡ passing (kind_test g ∷ index_test g index ∷ []) (Ok tt)
    unfolding solve
    solver_comes =
        let rest = kind_test g ∷ index_test g index ∷ [] in
        once-passes LentLength lengths (graph_tests g ++ (bound_test g bound ∷ rest)) (Ok tt) lengths_right
        ∙ passing-append (graph_tests g) (bound_test g bound ∷ rest) (Ok tt)
        ∙ pass (graph_tests g) (passed_tests P) (passing (bound_test g bound ∷ rest) (Ok tt))
        ∙ pass (bound_test g bound ∷ []) (bounds_test g bound B) (passing rest (Ok tt))

    -- A general graph is refused.
    pub general-refused : g.kind ≡ General → solve g bound index lent ≡ refuses NotBipartite 0
    general-refused kind = solver_comes ∙ once-refuses NotBipartite (is_bipartite g.kind) (index_test g index ∷ []) (Ok tt) (ap is_bipartite kind)

    -- Of a bipartite one, what is left to the test of the index.
    pub index_left : g.kind ≡ Bipartite → solve g bound index lent ≡ passing (index_test g index ∷ []) (Ok tt)
    index_left kind = solver_comes ∙ once-passes NotBipartite (is_bipartite g.kind) (index_test g index ∷ []) (Ok tt) (ap is_bipartite kind)

  -- It is taken with the index that is built of it.
  pub solver_takes : g.kind ≡ Bipartite → (n : ℕ) (index : List ℕ) → build_index g n ≡ Ok index → solve g bound index lent ≡ Ok tt
  solver_takes kind n index built =
      let I = index_built g n index built in
      index_left index (I.long ∙ I.lent) kind ∙ pass (index_test g index ∷ []) (given_index g index I.is) (Ok tt)

-- The index of a graph that has passed is built where as many numbers are lent as it has.
pub index_builds : {g : Graph} → Passed g → build_index g (index_numbers g) ≡ Ok (index_of g)
unfolding build_index
index_builds {g} P =
    pass (build_tests g (index_numbers g)) (λ k l. passed_lengths P also eq-eqb (index_numbers g) (index_numbers g) refl, passed_tests P) (Ok (index_of g))

-- ---- a list that is not the index

module _ (g : Graph) (other : List ℕ) (s : Sound (shape_of g) g.row g.column) (long : length other ≡ index_numbers g) (ne : other ≢ index_of g) where
  abbrev same_at : ℕ → Bool
  same_at k = eqb (get_or other k 0) (get_or (index_of g) k 0)

  -- Its test refuses it, at the first position that differs.
  refused_first : (k : ℕ) × Lowest (index_numbers g) same_at k × (passing (index_test g other ∷ []) (Ok (tt {0})) ≡ refuses WrongIndex (suc k))
  refused_first = go (lowest (index_numbers g) same_at) refl
    where
      go : (o : Option ℕ) → lowest (index_numbers g) same_at ≡ o →
          (k : ℕ) × Lowest (index_numbers g) same_at k × (passing (index_test g other ∷ []) (Ok (tt {0})) ≡ refuses WrongIndex (suc k))
      go None e = absurd (ne (index_given g other s long (lowest-none (index_numbers g) same_at e, tt)))
      go (Some k) e = (k, lowest-some (index_numbers g) same_at k e, passing-found (index_test g other) [] (Ok tt) k e)

  -- So does a call of whose tests no other is left.
  differs : {index : List ℕ} {W : Outcome (Unit {0})} → index ≡ index_of g → length other ≡ length index →
      W ≡ passing (index_test g other ∷ []) (Ok tt) → RefusedWhereUnlike W index other
  differs {index} is same left =
      let r = refused_first in
      let k = r.0 in
      let here : (j : ℕ) → get_or index j 0 ≡ get_or (index_of g) j 0 = λ j. ap (λ (xs : List ℕ). get_or xs j 0) is in
      record {
        position = k;
        among = omega (arith, r.1.among, long, same);
        unlike = λ e. eqb-false (get_or other k 0) (get_or (index_of g) k 0) r.1.breaks (e ∙ here k);
        before = λ j l. eqb-true (get_or other j 0) (get_or (index_of g) j 0) (r.1.before j l) ∙ sym (here j);
        refused = ap told (left ∙ r.2);
      }

pub tester_refuses : (g : Graph) (index other : List ℕ) → test_index g index ≡ Ok tt → length other ≡ length index → other ≢ index →
    RefusedWhereUnlike (test_index g other) index other
unfolding test_index
tester_refuses g index other e same ne =
    let I = index_tested g index e in
    let long : length other ≡ index_numbers g = same ∙ I.lent in
    differs g other I.passed.sound long (λ h. ne (h ∙ sym I.is)) I.is same
    (once-passes LentLength (graph_lengths g && eqb (length other) (index_numbers g)) (graph_tests g ++ (index_test g other ∷ [])) (Ok tt)
    (I.lengths also eq-eqb (length other) (index_numbers g) long)
    ∙ passing-append (graph_tests g) (index_test g other ∷ []) (Ok tt)
    ∙ pass (graph_tests g) I.tests (passing (index_test g other ∷ []) (Ok tt)))

module _ (g : Graph) (bound : List ℤ) (index : List ℕ) (lent : Lent) (e : solve g bound index lent ≡ Ok tt) where
  taken-index : index ≡ index_of g
  taken-index = let p = solve-passed g bound index lent e in index_given g index p.passed.sound p.index_long p.index_passes

  pub taken-built : build_index g (length index) ≡ Ok index
  taken-built =
      let p = solve-passed g bound index lent e in
      ap (build_index g) p.index_long ∙ index_builds p.passed ∙ ap (λ (xs : List ℕ). Ok xs) (sym taken-index)

  pub solver_refuses_other : (other : List ℕ) → length other ≡ length index → other ≢ index → RefusedWhereUnlike (solve g bound other lent) index other
  solver_refuses_other other same ne =
      let p = solve-passed g bound index lent e in
      let long : length other ≡ index_numbers g = same ∙ p.index_long in
      let R : LentRight g lent = record { chosen = p.chosen_long; vertex_prices = p.vertex_long; edge_prices = p.edge_long; workspace = p.workspace_long } in
      differs g other p.passed.sound long (λ h. ne (h ∙ sym taken-index)) taken-index same
      (index_left p.passed p.bounded R other long p.bipartite)
