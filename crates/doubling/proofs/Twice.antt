-- A feasible subgraph, taken in both directions, is feasible in the doubled graph, where it weighs twice as much.
use Prim.Native.Nat.{ℕ, ◌+◌, ◌*◌, ◌-◌, ◌≤◌, ◌<◌}
use mathlib.Core.Path.{◌≡◌, sym, ap, ap₂, ◌∙◌, subst, subst₂}
use mathlib.Core.List.{List, ◌++◌}
use native.Mathlib.Omega.{arith}
use native.Mathlib.Decide.{ℕ_discrete}
use native.Mathlib.Nat.{mul-add}
use lib.IntN.{ℤ, pos, ◌*ℤ◌, ◌+ℤ◌}
use lib.ListN.{length}
use lib.Signed.{◌≤ℤ◌}
use Rattle.integers.specs.Sum.{is}
use Rattle.integers.proofs.Order.{two_times}
use Rattle.integers.proofs.Sum.{is_same, is-other, sum-cong, sum-add, sum-split, sumℤ-cong, sumℤ-split}
use Rattle.graph.specs.Graph.{Graph, vertices, row_at, column_at, weight_at, bound_at}
use Rattle.graph.specs.Subgraph.{mark_at, ends_at, degree, weight_of, Feasible, Optimal}
use Rattle.graph.specs.Doubled.{doubled, doubled_bounds}
use Rattle.dual.specs.Gap.{half_points}
use Rattle.doubling.specs.Doublable.{Doublable}
use Rattle.doubling.proofs.Halves.{halves, in_first, in_second, both_long}
use Rattle.doubling.proofs.Doubled.{general-vertices, general-second, ends_below, row_first, column_first, weight_first, row_second, column_second}
use Rattle.doubling.proofs.Doubled.{weight_second, bound_first, bound_second}

-- ---- ends on one side

-- A vertex of one side is no end on the other.
is-beyond : (n a v : ℕ) → v < n → is (n + a) v ≡ 0
is-beyond n a v l = is-other (n + a) v (λ e. omega (arith, e))

is-before : (n a v : ℕ) → a < n → is a (n + v) ≡ 0
is-before n a v l = is-other a (n + v) (λ e. omega (arith, e))

-- On one side it is one as among the first n.
is-shifted : (n a v : ℕ) → is (n + a) (n + v) ≡ is a v
is-shifted n a v = elim (ℕ_discrete a v) [
  | yes e ↦ ap (λ k. is (n + k) (n + v)) e ∙ is_same (n + v) ∙ sym (ap (λ k. is k v) e ∙ is_same v)
  | no e ↦ is-other (n + a) (n + v) (λ h. e (omega (arith, h))) ∙ sym (is-other a v e)
]

-- The mark of an edge taken for its ends in both directions, of which one counts each.
taken_twice : (x a b c d k : ℕ) → (a + b) + (c + d) ≡ k → x * (a + b) + x * (c + d) ≡ x * k
taken_twice x a b c d k e = sym (mul-add x (a + b) (c + d)) ∙ ap (λ j. x * j) e

module _ {g : Graph} (y : List ℕ) (D : Doublable g) (long : length y ≡ g.edges) where
  abbrev n : ℕ
  n = g.rows

  abbrev m : ℕ
  m = g.edges

  abbrev both : List ℕ
  both = y ++ y

  -- ---- the weight

  weight_halves : weight_of (doubled g) both ≡ half_points (weight_of g y)
  weight_halves =
      let f : ℕ → ℤ = λ e. pos (mark_at both e) *ℤ weight_at (doubled g) e in
      let h : ℕ → ℤ = λ e. pos (mark_at y e) *ℤ weight_at g e in
      sumℤ-split m m f
      ∙ ap₂ ◌+ℤ◌ (sumℤ-cong m f h (λ e l. ap₂ (λ x w. pos x *ℤ w) (in_first y y 0 long e l) (weight_first D e l)))
      (sumℤ-cong m (λ e. f (m + e)) h (λ e l. ap₂ (λ x w. pos x *ℤ w) (in_second y y 0 long e) (weight_second D e)))
      ∙ sym (two_times (weight_of g y))

  -- ---- the degrees

  -- How often a vertex is an end of an edge as it is, and turned round.
  abbrev ends_twice : ℕ → ℕ → ℕ
  ends_twice v e = (is (row_at g e - 1) v + is (n + (column_at g e - 1)) v) + (is (column_at g e - 1) v + is (n + (row_at g e - 1)) v)

  degree-twice : (v u : ℕ) → ((e : ℕ) → e < m → ends_twice v e ≡ is (row_at g e - 1) u + is (column_at g e - 1) u) → degree (doubled g) both v ≡ degree g y u
  degree-twice v u counts =
      let f : ℕ → ℕ = λ e. mark_at both e * ends_at (doubled g) v e in
      sum-split m m f
      ∙ sym (sum-add m f (λ e. f (m + e)))
      ∙ sum-cong m (λ e. f e + f (m + e)) (λ e. mark_at y e * ends_at g u e)
      (λ e l.
      ap₂ ◌+◌ (ap₂ ◌*◌ (in_first y y 0 long e l) (ap₂ sides (row_first D e l) (column_first D e l)))
      (ap₂ ◌*◌ (in_second y y 0 long e) (ap₂ sides (row_second D e) (column_second D e)))
      ∙ taken_twice (mark_at y e) (is (row_at g e - 1) v) (is (n + (column_at g e - 1)) v) (is (column_at g e - 1) v) (is (n + (row_at g e - 1)) v)
      (is (row_at g e - 1) u + is (column_at g e - 1) u) (counts e l)
      ∙ ap (λ c. mark_at y e * (is (row_at g e - 1) u + is c u)) (sym (general-second D e)))
    where
      sides : ℕ → ℕ → ℕ
      sides r c = is (r - 1) v + is (n + (c - 1)) v

  degree-first : (v : ℕ) → v < n → degree (doubled g) both v ≡ degree g y v
  degree-first v l =
      degree-twice v v (λ e k. omega (arith, is-beyond n (column_at g e - 1) v l, is-beyond n (row_at g e - 1) v l))

  degree-second : (v : ℕ) → degree (doubled g) both (n + v) ≡ degree g y v
  degree-second v =
      degree-twice (n + v) v
      (λ e k.
      let b = ends_below D e k in
      omega (
        arith,
        is-before n (row_at g e - 1) v (omega (arith, b.row.least, b.row.greatest)),
        is-before n (column_at g e - 1) v (omega (arith, b.column.least, b.column.greatest)),
        is-shifted n (column_at g e - 1) v,
        is-shifted n (row_at g e - 1) v,
      ))

-- ---- the subgraph

pub twice_feasible : {g : Graph} {bound : List ℤ} {y : List ℕ} → Doublable g → length bound ≡ vertices g → Feasible g bound y →
    Feasible (doubled g) (doubled_bounds bound) (y ++ y)
twice_feasible {g} {bound} {y} D bounds F = record {
  long = both_long y y 0 F.long F.long;
  marks =
      halves (λ e. mark_at (y ++ y) e ≤ 1) g.edges
      (λ e l. subst (λ x. x ≤ 1) (sym (in_first y y 0 F.long e l)) (F.marks e l))
      (λ e l. subst (λ x. x ≤ 1) (sym (in_second y y 0 F.long e)) (F.marks e l));
  within =
      halves (λ v. pos (degree (doubled g) (y ++ y) v) ≤ℤ bound_at (doubled_bounds bound) v) g.rows
      (λ v l. subst₂ (λ d b. pos d ≤ℤ b) (sym (degree-first y D F.long v l)) (sym (bound_first D bound bounds v l)) (F.within v (omega (arith, general-vertices D))))
      (λ v l. subst₂ (λ d b. pos d ≤ℤ b) (sym (degree-second y D F.long v)) (sym (bound_second D bound bounds v)) (F.within v (omega (arith, general-vertices D))));
}

-- So no feasible subgraph weighs more than half of what an optimal one of the doubled graph does.
pub twice_weight : {g : Graph} {bound : List ℤ} {x y : List ℕ} → Doublable g → length bound ≡ vertices g → Optimal (doubled g) (doubled_bounds bound) x →
    Feasible g bound y → half_points (weight_of g y) ≤ℤ weight_of (doubled g) x
twice_weight {g} {bound} {x} {y} D bounds O F =
    subst (λ z. z ≤ℤ weight_of (doubled g) x) (weight_halves y D F.long) (O.most (y ++ y) (twice_feasible D bounds F))
