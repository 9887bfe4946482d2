-- The seven numbers one by one, and what is said of the tables is said of the graph, the subgraph and the price sheet.
use Rattle.graph.specs.Refusal.{Outcome}
use Rattle.std.specs.Prelude.{Ok, Some, Option}
use Prim.Native.Nat.{ℕ, ◌/◌, ◌^◌, ◌≤◌, ◌<◌, min}
use mathlib.Core.Path.{◌≡◌, refl, sym, ap, ap₂, ◌∙◌}
use mathlib.Core.Bool.{Bool, true≢false, ◌&&◌}
use mathlib.Core.List.{List, [], ◌∷◌}
use native.Mathlib.Omega.{arith}
use native.Mathlib.Decide.{dec_lt}
use lib.Dec.{ltb}
use lib.IntN.{ℤ, pos, ◌+ℤ◌, ◌-ℤ◌, ◌*ℤ◌}
use lib.ListN.{length, get_or}
use lib.Signed.{le_z}
use borrow.Author.Tests.{le-ltb}
use Rattle.integers.specs.Integer.{Within}
use Rattle.integers.specs.Sum.{sumℤ}
use Rattle.integers.proofs.Order.{order, le_z_true}
use Rattle.integers.proofs.Sum.{sumℤ-cong}
use Rattle.graph.specs.declared.Fault.TheVariants.{Degree, OddSet, Uncovered}
use Rattle.graph.specs.Refusal.{each, lowest, passing}
use Rattle.graph.specs.Graph.{Graph, vertices, bound_at}
use Rattle.graph.specs.Subgraph.{mark_at, degree}
use Rattle.graph.specs.Passed.{Bounded}
use Rattle.graph.proofs.Passing.{lowest-none, lowest-cong, passes}
use Rattle.dual.specs.declared.Measures.{Measures}
use Rattle.dual.specs.Prices.{Prices, edge_price, set_price}
use Rattle.dual.specs.Sets.{load, keeps_rules}
use Rattle.dual.specs.Gap.{half_points, worth_at, cover_of, covered, pay_of, total_of, vertex_slack_at}
use Rattle.dual.specs.Measure.{measures, price_test, set_test, cover_test}
use Rattle.graph.proofs.Counting.{counted_over}
use Rattle.sets.specs.Words.{keeps_rules_by}
use Rattle.measure.specs.declared.Tables.{Tables}
use Rattle.measure.specs.Shown.{price_tests}
use Rattle.measure.specs.Tables.{Tabled, total_by, measures_by}
use Rattle.checks.proofs.Tests.{each_kept, each_same, place_fits}

-- The seven numbers one by one; the last is the difference of the total and the weight in half points.
pub numbers_are : {a a' b b' c c' d d' e e' f f' h : ℤ} → a ≡ a' → b ≡ b' → c ≡ c' → d ≡ d' → e ≡ e' → f ≡ f' → h ≡ b -ℤ half_points a →
    ◌≡◌ {A = Measures} (record { weight = a; total = b; vertices = c; sets = d; edges = e; cover = f; gap = h })
    (record { weight = a'; total = b'; vertices = c'; sets = d'; edges = e'; cover = f'; gap = b' -ℤ half_points a' })
numbers_are p q r s t u v = cc

module _ (g : Graph) (bound : List ℤ) (x : List ℕ) (P : Prices) where
  -- The degrees' test is made on the table d.
  module _ (d : List ℕ) (q : (Outcome (Unit {0}))) (counted : (v : ℕ) → v < 128 → get_or d v 0 ≡ degree g x v) (few : vertices g ≤ 128) (B : Bounded (vertices g) bound)
      (says : q ≡ passing (each Degree (length bound) (λ v. le_z (pos (get_or d v 0)) (bound_at bound v)) ∷ price_test P ∷ []) (Ok tt)) where
    pub degrees_say : q ≡ passing (price_tests g bound x P) (Ok tt)
    degrees_say =
        says
        ∙ each_same Degree (length bound) (vertices g) (λ v. le_z (pos (get_or d v 0)) (bound_at bound v))
        (λ v. le_z (pos (degree g x v)) (bound_at bound v)) (price_test P ∷ []) (Ok tt)
        (ap (λ n. lowest n (λ v. le_z (pos (get_or d v 0)) (bound_at bound v))) B.long ∙ counted_over g bound x d (vertices g) few counted)

    -- A degree that passes is at most the bound.
    pub degrees_small : q ≡ (Ok tt) → (v : ℕ) → v < vertices g → get_or d v 0 ≤ 2 ^ 16
    degrees_small is v l =
        let p = (passes (price_tests g bound x P) (Ok tt) tt (sym degrees_say ∙ is)).0 in
        omega (order, counted v (omega arith), le_z_true (pos (degree g x v)) (bound_at bound v) (p.0 v l), (B.range v l).1)

  -- The odd sets' test is made on the table of loads.
  module _ (loads : List ℕ) (loaded : (k : ℕ) → k < min P.sets 16 → (get_or loads k 0 ≡ load g bound P.marks k) × (get_or loads k 0 ≤ 9216))
      {r : Option ℕ} (found : r ≡ lowest (min P.sets 17) (λ k. ltb k 16 && keeps_rules_by g P.marks k (get_or loads k 0))) where
    sets_say : r ≡ lowest (min P.sets 17) (set_test g bound P).keeps
    sets_say =
        found
        ∙ lowest-cong (min P.sets 17) (λ k. ltb k 16 && keeps_rules_by g P.marks k (get_or loads k 0)) (set_test g bound P).keeps
        (λ k l. same k l)
      where
        same : (k : ℕ) → k < min P.sets 17 → ltb k 16 && keeps_rules_by g P.marks k (get_or loads k 0) ≡ ltb k 16 && keeps_rules g bound P.marks k
        same k l = elim (dec_lt k 16) [
          | yes h ↦ ap (λ n. ltb k 16 && keeps_rules_by g P.marks k n) (loaded k (omega arith)).0
          | no h ↦
              let f = le-ltb k 16 (omega (arith, h)) in
              ap (λ b. b && keeps_rules_by g P.marks k (get_or loads k 0)) f ∙ sym (ap (λ b. b && keeps_rules g bound P.marks k) f)
        ]

    pub set_among : (k : ℕ) → r ≡ Some k → k < 2 ^ 40
    set_among k is = place_fits (min P.sets 17) (set_test g bound P).keeps (sym sets_say ∙ is) (omega arith)

    module _ {t : Outcome (Unit {0})} (made : (n : ℕ) (keeps : ℕ → Bool) → r ≡ lowest n keeps → t ≡ passing (each OddSet n keeps ∷ []) (Ok tt)) where
      pub sets_tested : t ≡ passing (set_test g bound P ∷ []) (Ok tt)
      sets_tested = made (min P.sets 17) (set_test g bound P).keeps sets_say

      pub few_sets : t ≡ Ok tt → P.sets ≤ 16
      few_sets was =
          let e = each_kept was OddSet (min P.sets 17) (set_test g bound P).keeps sets_tested in
          elim (dec_lt 16 P.sets) [
            | yes h ↦ absurd (true≢false (sym (lowest-none (min P.sets 17) (set_test g bound P).keeps e 16 (omega arith))))
            | no h ↦ omega (arith, h)
          ]

  -- The cover test is made on the table of covers.
  module _ (cs : List ℤ) (covering : (e : ℕ) → e < g.edges → (get_or cs e (pos 0) ≡ cover_of g P e) × Within (2 ^ 36) (get_or cs e (pos 0)))
      {r : Option ℕ} (found : r ≡ lowest g.edges (λ e. le_z (worth_at g e) (get_or cs e (pos 0)))) where
    cover_say : r ≡ lowest g.edges (covered g P)
    cover_say =
        found
        ∙ lowest-cong g.edges (λ e. le_z (worth_at g e) (get_or cs e (pos 0))) (covered g P)
        (λ e l. ap (le_z (worth_at g e)) (covering e l).0)

    pub edge_among : g.edges ≤ 1024 → (e : ℕ) → r ≡ Some e → e < 2 ^ 40
    edge_among few e is = place_fits g.edges (covered g P) (sym cover_say ∙ is) (omega arith)

    pub cover_tested : {t : Outcome (Unit {0})} → ((n : ℕ) (keeps : ℕ → Bool) → r ≡ lowest n keeps → t ≡ passing (each Uncovered n keeps ∷ []) (Ok tt)) →
        t ≡ passing (cover_test g P ∷ []) (Ok tt)
    cover_tested made = made g.edges (covered g P) cover_say

  -- The seven numbers.
  pub measures-by : {T : Tables} (cs : List ℤ) → Tabled g bound x P T →
      ((e : ℕ) → e < g.edges → (get_or cs e (pos 0) ≡ cover_of g P e) × Within (2 ^ 36) (get_or cs e (pos 0))) → measures_by g bound x P T cs ≡ measures g bound x P
  measures-by {T} cs h covers =
      numbers_are refl total
      (sumℤ-cong (vertices g) _ _ (λ v l. ap (vertex_slack_at bound P v) (h.degrees v l)))
      (sumℤ-cong P.sets _ _ (λ k l. ap₂ (λ (m n : ℕ). set_price P k *ℤ (pos (m / 2) -ℤ pos n)) (h.loads k l) (h.covered k l)))
      refl
      (sumℤ-cong g.edges _ _ (λ e l. ap (λ (z : ℤ). pos (mark_at x e) *ℤ (z -ℤ worth_at g e)) (covers e l).0))
      refl
    where
      total : total_by g bound P T.load ≡ total_of g bound P
      total =
          ap (λ (z : ℤ). sumℤ (vertices g) (pay_of bound P) +ℤ z +ℤ sumℤ g.edges (edge_price P))
          (sumℤ-cong P.sets _ _ (λ k l. ap (λ (n : ℕ). pos (n / 2) *ℤ set_price P k) (h.loads k l)))
