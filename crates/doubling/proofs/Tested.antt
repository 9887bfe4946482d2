-- What the tests of the call that prices a general graph show, and that what is shown passes them.
use Rattle.std.specs.Prelude.{Ok}
use Prim.Native.Nat.{ℕ, ◌≤◌}
use mathlib.Core.Path.{◌≡◌, refl, sym, ap, ◌∙◌}
use mathlib.Core.Bool.{Bool, true, false, true≢false, ◌&&◌}
use mathlib.Core.List.{List, [], ◌∷◌, ◌++◌}
use native.Mathlib.Omega.{arith}
use lib.Dec.{leb, eqb}
use lib.IntN.{ℤ}
use lib.ListN.{length}
use borrow.Author.Tests.{leb-true, le-leb, eqb-true, eq-eqb}
use Rattle.graph.specs.declared.Kind.{Kind}
use Rattle.graph.specs.declared.Kind.TheVariants.{Bipartite, General}
use Rattle.graph.specs.declared.Fault.TheVariants.{LentLength, NotDoubled}
use Rattle.graph.specs.Limits.{most_side, most_doubled_edges}
use Rattle.graph.specs.Refusal.{refuses, passing}
use Rattle.graph.specs.Graph.{Graph, vertices}
use Rattle.graph.specs.Tests.{graph_lengths, graph_tests, bound_test}
use Rattle.graph.specs.Doubled.{may_double, doubled_test}
use Rattle.graph.specs.Passed.{Passed, Bounded}
use Rattle.graph.proofs.Ranges.{both, ◌also◌}
use Rattle.graph.proofs.Passing.{passes, pass, passes_split, passing-append, once-passes, once-refuses}
use Rattle.graph.proofs.Passed.{graph_passed, bounds_passed, passed_lengths, passed_tests, bounds_test}
use Rattle.dual.specs.PriceGeneral.{general_tests, price_general}
use Rattle.doubling.specs.Doublable.{Doublable}

-- What they show, where v numbers are lent for the prices of vertices and e for those of edges.
pub record GeneralPassed (g : Graph) (bound : List ℤ) (v e : ℕ) : Type 0 where
  pub doublable : Doublable g
  pub bounded : Bounded (vertices g) bound
  pub vertex_long : v ≡ vertices g
  pub edge_long : e ≡ g.edges

can_double : (k : Kind) (rows edges : ℕ) → may_double k rows edges ≡ true → (k ≡ General) × (rows ≤ most_side) × (edges ≤ most_doubled_edges)
can_double Bipartite rows edges e = absurd (true≢false (sym e))
can_double General rows edges e =
    let w = both (leb rows most_side) (leb edges most_doubled_edges) e in
    (refl, leb-true rows most_side w.0, leb-true edges most_doubled_edges w.1)

pub general-passed : (g : Graph) (bound : List ℤ) (v e : ℕ) → price_general g bound v e ≡ Ok tt → GeneralPassed g bound v e
unfolding price_general
general-passed g bound v e h =
    let p = passes (general_tests g bound v e) (Ok tt) tt h in
    let others = eqb v (vertices g) && eqb e g.edges in
    let first = both (graph_lengths g) (eqb (length bound) (vertices g) && others) (p.0.0 0 (omega arith)) in
    let second = both (eqb (length bound) (vertices g)) others first.1 in
    let lengths = both (eqb v (vertices g)) (eqb e g.edges) second.1 in
    let later = passes_split (graph_tests g) (bound_test g bound ∷ doubled_test g ∷ []) p.0.1 in
    let d = can_double g.kind g.rows g.edges (later.1.1.0 0 (omega arith)) in
    record {
      doublable = record { passed = graph_passed g first.0 later.0; general = d.0; few = d.1; few_edges = d.2 };
      bounded = bounds_passed g bound (eqb-true (length bound) (vertices g) second.0) (later.1.0, tt);
      vertex_long = eqb-true v (vertices g) lengths.0;
      edge_long = eqb-true e g.edges lengths.1;
    }

-- What is left to the last test, of a graph that has passed with its bounds.
general-comes : {g : Graph} {bound : List ℤ} → Passed g → Bounded (vertices g) bound →
    price_general g bound (vertices g) g.edges ≡ passing (doubled_test g ∷ []) (Ok tt)
unfolding price_general
general-comes {g} {bound} P B =
    let rest = bound_test g bound ∷ doubled_test g ∷ [] in
    once-passes LentLength (graph_lengths g && (eqb (length bound) (vertices g) && (eqb (vertices g) (vertices g) && eqb g.edges g.edges)))
    (graph_tests g ++ rest) (Ok tt)
    (passed_lengths P also (eq-eqb (length bound) (vertices g) B.long also (eq-eqb (vertices g) (vertices g) refl also eq-eqb g.edges g.edges refl)))
    ∙ passing-append (graph_tests g) rest (Ok tt)
    ∙ pass (graph_tests g) (passed_tests P) (passing rest (Ok tt))
    ∙ pass (bound_test g bound ∷ []) (bounds_test g bound B) (passing (doubled_test g ∷ []) (Ok tt))

-- A graph that is doubled is taken with its bounds.
pub general-takes : {g : Graph} {bound : List ℤ} → Doublable g → Bounded (vertices g) bound → price_general g bound (vertices g) g.edges ≡ Ok tt
general-takes {g} D B =
    general-comes D.passed B
    ∙ once-passes NotDoubled (may_double g.kind g.rows g.edges) [] (Ok tt)
    (ap (λ k. may_double k g.rows g.edges) D.general
    ∙ (le-leb g.rows most_side D.few also le-leb g.edges most_doubled_edges D.few_edges))

-- One that is not doubled is refused.
pub undoubled_refused : {g : Graph} {bound : List ℤ} → Passed g → Bounded (vertices g) bound → (Doublable g → ⊥) →
    price_general g bound (vertices g) g.edges ≡ refuses NotDoubled 0
undoubled_refused {g} P B never =
    let can = may_double g.kind g.rows g.edges in
    general-comes P B ∙ once-refuses NotDoubled can [] (Ok tt) (cannot can refl)
  where
    cannot : (b : Bool) → may_double g.kind g.rows g.edges ≡ b → b ≡ false
    cannot false e = refl
    cannot true e =
        let d = can_double g.kind g.rows g.edges e in
        absurd (never (record { passed = P; general = d.0; few = d.1; few_edges = d.2 }))
