-- The first prices, all at the level, and what they are raised to fit the subgraph with no edge. Its lists are empty, and all of each bound is left.
use Prim.Native.Nat.{ℕ, ◌*◌, ◌≤◌, ◌<◌}
use mathlib.Core.Path.{◌≡◌, ap, ◌∙◌}
use mathlib.Core.List.{List}
use native.Mathlib.Omega.{arith}
use native.Mathlib.Decide.{dec_lt}
use lib.IntN.{ℤ}
use lib.ListN.{length, get_or, replicate, length-replicate, get_or-replicate, get_or-eq_default}
use Rattle.integers.specs.Integer.{dn}
use Rattle.integers.proofs.Order.{order, nonneg}
use Rattle.integers.proofs.Sum.{sum-none}
use Rattle.graph.specs.Limits.{most_vertices, greatest_bound}
use Rattle.graph.specs.Graph.{Graph, vertices}
use Rattle.graph.specs.Subgraph.{mark_at, ends_at, degree}
use Rattle.graph.specs.Passed.{Bounded}
use Rattle.method.specs.Method.{level, Solvable, Meets}
use Rattle.method.specs.Tree.{entries}
use Rattle.method.specs.declared.Table.{Table}
use Rattle.method.specs.Lists.{leasts, mosts, Between}
use Rattle.method.proofs.Lists.{empty_lists}
use Rattle.method.proofs.Solvable.{few}
use Rattle.arcs.specs.Arcs.{SameBounds}
use Rattle.optimiser.specs.Optimiser.{Started, BoundsTabled}

-- All prices at the level.
pub start_none : {g : Graph} → Solvable g → Started g (entries (replicate most_vertices level)) 0
start_none {g} net = record {
  least = λ v l. omega (arith, all v l);
  most = λ v l. omega (arith, all v l);
  column = λ v a l. all v l;
  loose = λ d l. absurd (omega arith);
}
  where
    all : (v : ℕ) → v < vertices g → entries (replicate most_vertices level) v ≡ level
    all v l = get_or-replicate most_vertices v level 0 (omega (arith, few net))

-- A list of zeros has 0 everywhere.
pub zero_entries : (n v : ℕ) → entries (replicate n 0) v ≡ 0
zero_entries n v = elim (dec_lt v n) [
  | yes l ↦ get_or-replicate n v 0 0 l
  | no l ↦ get_or-eq_default (replicate n 0) 0 (omega (arith, l, length-replicate {A = ℕ} n 0))
]

-- The bounds of a table that holds those that have passed.
pub bounds_in : {n : ℕ} {bound : List ℤ} {table : Table} → Bounded n bound → n ≤ most_vertices → BoundsTabled bound table →
    (v : ℕ) → v < n → (leasts table v ≤ mosts table v) × (mosts table v ≤ greatest_bound)
bounds_in B few T v l = (
  omega (arith, T.least v (omega arith)),
  omega (order, T.most v (omega (arith, B.long)), ap dn (nonneg (B.range v l).0), (B.range v l).1),
)

-- The table once lists start and stop in it has the same bounds.
pub table_same : {bound : List ℤ} {old new : Table} → SameBounds old new → BoundsTabled bound old → BoundsTabled bound new
table_same same T = record {
  least = λ v l. ap (λ xs. get_or xs v 0) same.least ∙ T.least v l;
  most = λ v l. ap (λ xs. get_or xs v 0) same.most ∙ T.most v l;
}

-- No edge is chosen.
module _ (g : Graph) {x : List ℕ} (nil : x ≡ replicate g.edges 0) where
  unmarked : (e : ℕ) → mark_at x e ≡ 0
  unmarked e = rw nil (elim (dec_lt e g.edges) [
    | yes l ↦ get_or-replicate g.edges e 0 0 l
    | no l ↦ get_or-eq_default (replicate g.edges 0) 0 (omega (arith, l, length-replicate {A = ℕ} g.edges 0))
  ])

  no_degree : (v : ℕ) → degree g x v ≡ 0
  no_degree v = sum-none g.edges (λ e. mark_at x e * ends_at g v e) (λ e b. omega (arith, ap (λ n. n * ends_at g v e) (unmarked e)))

  -- It meets the mosts, and the leasts where they are 0.
  pub nothing_meets : {least most : ℕ → ℕ} → ((v : ℕ) → v < vertices g → least v ≡ 0) → Meets g least most x
  nothing_meets z = record {
    marks = λ e l. omega (arith, unmarked e);
    floor = λ v l. omega (arith, z v l);
    within = λ v l. omega (arith, no_degree v);
  }

  -- All is kept.
  pub begun : {least most price used list place : ℕ → ℕ} → Started g price g.edges → ((v : ℕ) → v < vertices g → (least v ≤ most v) × (most v ≤ greatest_bound)) →
      ((v : ℕ) → used v ≡ 0) → Between g least most x price used list place
  begun S bounds zero = record {
    good = record {
      long = ap length nil ∙ length-replicate g.edges 0;
      marks = λ e. omega (arith, unmarked e);
      within = λ v l. omega (arith, no_degree v);
      low = λ v l. omega (arith, S.least v l);
      high = λ v l. omega (arith, S.most v l);
      loose = λ e l m. S.loose e l;
      chosen = λ e l m. absurd (omega (arith, unmarked e, m));
      full = λ v a l b. absurd (omega (arith, S.column v a l));
      bare = λ v l b. omega (arith, no_degree v);
      plain = λ v l z. S.least v l;
      slim = λ z v l. S.most v l;
    };
    degrees = record {
      each = λ v l. omega (arith, zero v, no_degree v);
      few = λ v l. (bounds v l).1;
      ordered = λ v l. (bounds v l).0;
    };
    lists = empty_lists g x unmarked;
  }
