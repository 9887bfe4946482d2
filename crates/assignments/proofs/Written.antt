-- The call yields an assignment text just for a bipartite graph that has passed, with each bound 1, and it is the text of the graph.
use Rattle.std.specs.Prelude.{Ok}
use mathlib.Core.Path.{◌≡◌, refl, sym, ap, ◌∙◌}
use mathlib.Core.Bool.{true, ◌&&◌}
use mathlib.Core.List.{List, [], ◌∷◌}
use Prim.Native.Nat.{ℕ, ◌<◌}
use native.Mathlib.Omega.{arith}
use lib.Dec.{eqb}
use borrow.Author.Tests.{eqb-true, eq-eqb}
use lib.IntN.{ℤ, pos}
use lib.ListN.{length, length-replicate, get_or-replicate}
use lib.Seq.{ext_get_or}
use Rattle.integers.proofs.Order.{between-true, ≤ℤ-antisym}
use Rattle.graph.specs.declared.Kind.{Kind}
use Rattle.graph.specs.declared.Kind.TheVariants.{Bipartite, General}
use Rattle.graph.specs.Limits.{longest_text}
use Rattle.graph.specs.Refusal.{Outcome}
use Rattle.graph.specs.Graph.{Graph, vertices, bound_at, bound_in_range, bound_is_one}
use Rattle.graph.specs.Tests.{graph_lengths, graph_tests, bound_test, kind_test, one_test, is_bipartite}
use Rattle.graph.specs.Passed.{Passed}
use Rattle.graph.proofs.Passing.{zero_one, Passes, passes, pass, passes_split, passes_join}
use Rattle.graph.proofs.Passed.{graph_passed, passed_lengths, passed_tests}
use Rattle.graph.proofs.Ranges.{both, ◌also◌}
use Rattle.layout.specs.AssignmentText.{assignment_text, assignment_tests, write_assignment, unit_bounds}

-- ---- bounds that are all 1

pub unit_at : (g : Graph) (v : ℕ) → v < vertices g → bound_at (unit_bounds g) v ≡ pos 1
unit_at g v l = get_or-replicate (vertices g) v (pos 1) (pos 0) l

pub unit_long : (g : Graph) → length (unit_bounds g) ≡ vertices g
unit_long g = length-replicate (vertices g) (pos 1)

-- They pass both tests of bounds.
pub unit_range : (g : Graph) → Passes (bound_test g (unit_bounds g) ∷ [])
unit_range g = (λ v l. ap bound_in_range (unit_at g v l), tt)

unit_ones : (g : Graph) → Passes (one_test g (unit_bounds g) ∷ [])
unit_ones g = (λ v l. ap bound_is_one (unit_at g v l), tt)

-- Bounds of which each is 1 are these.
pub all_one : (g : Graph) (bound : List ℤ) → length bound ≡ vertices g → ((v : ℕ) → v < vertices g → bound_at bound v ≡ pos 1) → bound ≡ unit_bounds g
all_one g bound long each =
    ext_get_or (pos 0) bound (unit_bounds g) (long ∙ sym (unit_long g))
    (λ v l. let m : v < vertices g = omega (arith, long) in each v m ∙ sym (unit_at g v m))

-- ---- what a text is yielded for

two-sided : (k : Kind) → is_bipartite k ≡ true → k ≡ Bipartite
two-sided Bipartite e = refl
two-sided General e = zero_one (cc)

pub record WritesText (g : Graph) (bound : List ℤ) (n : ℕ) (text : List ℕ) : Type 0 where
  pub passed : Passed g
  pub kind : g.kind ≡ Bipartite
  pub bound_long : length bound ≡ vertices g
  pub ones : (v : ℕ) → v < vertices g → bound_at bound v ≡ pos 1
  pub lent : n ≡ longest_text
  pub is : assignment_text g ≡ text

pub yields_written : (g : Graph) (bound : List ℤ) (n : ℕ) (text : List ℕ) → write_assignment g bound n ≡ Ok text → WritesText g bound n text
unfolding write_assignment
yields_written g bound n text e =
    let p = passes (assignment_tests g bound n) (Ok (assignment_text g)) text e in
    let q = passes_split (graph_tests g) (bound_test g bound ∷ kind_test g ∷ one_test g bound ∷ []) p.0.1 in
    let lengths = both (graph_lengths g) (eqb (length bound) (vertices g) && eqb n longest_text) (p.0.0 0 (omega arith)) in
    let others = both (eqb (length bound) (vertices g)) (eqb n longest_text) lengths.1 in
    let same : ◌≡◌ {A = Outcome (List ℕ)} (Ok (assignment_text g)) (Ok text) = p.1 in
    record {
      passed = graph_passed g lengths.0 q.0;
      kind = two-sided g.kind (q.1.1.0 0 (omega arith));
      bound_long = eqb-true (length bound) (vertices g) others.0;
      ones = λ v l. let w = between-true (pos 1) (pos 1) (bound_at bound v) (q.1.1.1.0 v l) in ≤ℤ-antisym w.1 w.0;
      lent = eqb-true n longest_text others.1;
      is = cc;
    }

pub written-unit : {g : Graph} {bound : List ℤ} {n : ℕ} {text : List ℕ} → WritesText g bound n text → bound ≡ unit_bounds g
written-unit {g} {bound} W = all_one g bound W.bound_long W.ones

-- ---- and back: such a graph is written

pub unit_writes : {g : Graph} → Passed g → g.kind ≡ Bipartite → write_assignment g (unit_bounds g) longest_text ≡ Ok (assignment_text g)
unfolding write_assignment
unit_writes {g} P kind =
    pass (assignment_tests g (unit_bounds g) longest_text) (
      λ k l. passed_lengths P also (eq-eqb (length (unit_bounds g)) (vertices g) (unit_long g) also eq-eqb longest_text longest_text refl),
      passes_join (graph_tests g) (bound_test g (unit_bounds g) ∷ kind_test g ∷ one_test g (unit_bounds g) ∷ []) (passed_tests P)
          ((unit_range g).0, ((λ k l. ap is_bipartite kind), unit_ones g)),
    )
    (Ok (assignment_text g))
