-- What the tests on a graph's numbers show once they have passed, and back: what is shown passes them.
use Rattle.std.specs.Prelude.{Ok}
use Prim.Native.Nat.{ℕ}
use mathlib.Core.Path.{◌≡◌}
use mathlib.Core.Bool.{true}
use mathlib.Core.List.{List, [], ◌∷◌}
use native.Mathlib.Omega.{arith}
use lib.Dec.{eqb}
use lib.IntN.{ℤ, pos, negsuc}
use lib.ListN.{length}
use lib.Signed.{◌≤ℤ◌}
use borrow.Author.Tests.{leb-true, le-leb, eqb-true, eq-eqb, not-true}
use Rattle.integers.specs.Integer.{Within}
use Rattle.integers.proofs.Order.{order, between-true, le-between}
use Rattle.graph.specs.Limits.{greatest_weight, greatest_bound}
use Rattle.graph.specs.Refusal.{Outcome, passing}
use Rattle.graph.specs.Graph.{Graph, vertices, row_at, column_at, bound_at, weight_in_range}
use Rattle.graph.specs.Graph.{joined}
use Rattle.graph.specs.Subgraph.{mark_at}
use Rattle.graph.specs.Tests.{graph_lengths, graph_tests, bound_test, mark_test}
use Rattle.graph.specs.Passed.{Passed, Bounded, MarksHold}
use Rattle.graph.proofs.Ranges.{held, ◌also◌, sizes_hold, ends_hold}
use Rattle.graph.proofs.Passing.{Passes, passes}

-- ---- the graph

pub graph_passed : (g : Graph) → graph_lengths g ≡ true → Passes (graph_tests g) → Passed g
graph_passed g lengths p =
    let h = held (eqb (length g.row) g.edges) (eqb (length g.column) g.edges ∷ eqb (length g.weight) g.edges ∷ []) lengths in
    record {
      sound = record {
        row_long = eqb-true (length g.row) g.edges h.0;
        column_long = eqb-true (length g.column) g.edges h.1.0;
        sizes = sizes_hold g.kind g.rows g.columns g.edges (p.0 0 (omega arith));
        ends = λ e l. ends_hold g.kind g.rows g.columns (row_at g e) (column_at g e) (p.1.0 e l);
      };
      weight_long = eqb-true (length g.weight) g.edges h.1.1.0;
      weights = p.1.1.0;
      apart = λ e l. not-true (joined g e (row_at g e) (column_at g e)) (p.1.1.1.0 e l);
    }

-- Whatever is yielded after the tests, the graph has passed.
pub yields_passed : {A : Type 0} (g : Graph) (o : Outcome A) (a : A) → graph_lengths g ≡ true → passing (graph_tests g) o ≡ Ok a → Passed g
yields_passed g o a lengths e = graph_passed g lengths (passes (graph_tests g) o a e).0

module _ {g : Graph} (P : Passed g) where
  -- A graph that has passed passes again.
  pub passed_lengths : graph_lengths g ≡ true
  passed_lengths =
      eq-eqb (length g.row) g.edges P.sound.row_long
      also eq-eqb (length g.column) g.edges P.sound.column_long
      also eq-eqb (length g.weight) g.edges P.weight_long

  pub passed_tests : Passes (graph_tests g)
  passed_tests = (
    λ k l. P.sound.sizes.test,
    (λ e l. (P.sound.ends e l).test, (P.weights, ((λ e l. rw (P.apart e l)), tt))),
  )

-- ---- weights

-- A weight in range is at most the greatest, without its sign.
pub weight_hold : (z : ℤ) → weight_in_range z ≡ true → Within greatest_weight z
weight_hold z e =
    let w = between-true (negsuc 999999) (pos greatest_weight) z e in
    go z w.0 w.1
  where
    go : (z : ℤ) → negsuc 999999 ≤ℤ z → z ≤ℤ pos greatest_weight → Within greatest_weight z
    go (pos n) p q = omega order
    go (negsuc n) p q = omega order

-- ---- bounds and marks

pub bounds_passed : (g : Graph) (bound : List ℤ) → length bound ≡ vertices g → Passes (bound_test g bound ∷ []) → Bounded (vertices g) bound
bounds_passed g bound long p = record { long = long; range = λ v l. between-true (pos 0) (pos greatest_bound) (bound_at bound v) (p.0 v l) }

pub bounds_test : (g : Graph) (bound : List ℤ) → Bounded (vertices g) bound → Passes (bound_test g bound ∷ [])
bounds_test g bound B = (λ v l. le-between (B.range v l).0 (B.range v l).1, tt)

pub marks_passed : (g : Graph) (x : List ℕ) → length x ≡ g.edges → Passes (mark_test g x ∷ []) → MarksHold g.edges x
marks_passed g x long p = record { long = long; each = λ e l. leb-true (mark_at x e) 1 (p.0 e l) }

pub marks_test : (g : Graph) (x : List ℕ) → MarksHold g.edges x → Passes (mark_test g x ∷ [])
marks_test g x M = (λ e l. le-leb (mark_at x e) 1 (M.each e l), tt)
