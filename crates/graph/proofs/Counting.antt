-- Laws of the degrees, counted edge by edge.
use Prim.Native.Nat.{ℕ, zero, suc, ◌+◌, ◌*◌, ◌≤◌, ◌<◌}
use mathlib.Core.Path.{◌≡◌, sym, ap, ◌∙◌}
use mathlib.Core.List.{List}
use native.Mathlib.Omega.{arith}
use native.Mathlib.Decide.{ℕ_discrete}
use native.Mathlib.Nat.{mul-add, mul-one, mul-zero, mul-le-mul_left}
use lib.IntN.{ℤ, pos}
use lib.ListN.{length, get_or, set, length-set}
use lib.Signed.{le_z}
use lib.Seq.{get_or-set_same, get_or-set_other}
use Rattle.integers.specs.Sum.{sum, is}
use Rattle.integers.proofs.Sum.{is_same, is-other, is_le, sum-next}
use Rattle.graph.specs.Refusal.{lowest}
use Rattle.graph.specs.Graph.{Graph, first_end, second_end, bound_at}
use Rattle.graph.specs.Subgraph.{mark_at, ends_at, degree}
use Rattle.graph.proofs.Passing.{lowest-cong}
use Rattle.graph.specs.Degrees.{Grown}

-- The degrees' test may be made on the counted degrees.
pub counted_over : (g : Graph) (bound : List ℤ) (x d : List ℕ) (n : ℕ) → n ≤ 128 → ((v : ℕ) → v < 128 → get_or d v 0 ≡ degree g x v) →
    lowest n (λ v. le_z (pos (get_or d v 0)) (bound_at bound v)) ≡ lowest n (λ v. le_z (pos (degree g x v)) (bound_at bound v))
counted_over g bound x d n few is =
    lowest-cong n (λ v. le_z (pos (get_or d v 0)) (bound_at bound v)) (λ v. le_z (pos (degree g x v)) (bound_at bound v))
    (λ v l. ap (λ k. le_z (pos k) (bound_at bound v)) (is v (omega arith)))

-- One store: the number at i grows by m.
pub add_at : (d : List ℕ) (i m v : ℕ) → i < length d → get_or (set d i (get_or d i 0 + m)) v 0 ≡ get_or d v 0 + m * is i v
add_at d i m v l = elim (ℕ_discrete i v) [
  | yes e ↦
      ap (λ k. get_or (set d i (get_or d i 0 + m)) k 0) (sym e)
      ∙ get_or-set_same d i (get_or d i 0 + m) 0 l
      ∙ omega (arith, ap (λ k. get_or d k 0) e, ap (λ k. m * is i k) (sym e), ap (λ k. m * k) (is_same i), mul-one m)
  | no e ↦
      get_or-set_other d i v (get_or d i 0 + m) 0 (λ s. e (sym s))
      ∙ omega (arith, ap (λ k. m * k) (is-other i v e), mul-zero m)
]

pub add-at_most : (d : List ℕ) (i m v : ℕ) → i < length d → get_or (set d i (get_or d i 0 + m)) v 0 ≤ get_or d v 0 + m
add-at_most d i m v l = omega (arith, add_at d i m v l, mul-le-mul_left m (is_le i v), mul-one m)

-- Two stores, one for each end.
pub grown : (d : List ℕ) (i j m : ℕ) → length d ≡ 128 → i < 128 → j < 128 →
    Grown d (set (set d i (get_or d i 0 + m)) j (get_or (set d i (get_or d i 0 + m)) j 0 + m)) i j m
grown d i j m l p q = record {
  each = λ v b.
      add_at (set d i (get_or d i 0 + m)) j m v (omega (arith, length-set d i (get_or d i 0 + m)))
      ∙ omega (arith, add_at d i m v (omega arith), mul-add m (is i v) (is j v));
}

-- After the first e edges, each degree is counted so far.
pub record Counted (g : Graph) (x : List ℕ) (d : List ℕ) (e : ℕ) : Type 0 where
  pub within : e ≤ g.edges
  pub long : length d ≡ 128
  pub each : (v : ℕ) → v < 128 → get_or d v 0 ≡ sum e (λ k. mark_at x k * ends_at g v k)

module _ {g : Graph} {x d : List ℕ} where
  pub counted_none : length d ≡ 128 → ((v : ℕ) → v < 128 → get_or d v 0 ≡ 0) → Counted g x d 0
  counted_none l z = record { within = omega arith; long = l; each = z }

  module _ {e : ℕ} (C : Counted g x d e) where
    -- No degree is over twice the number of edges.
    pub counted_small : (v : ℕ) → v < 128 → ((k : ℕ) → k < g.edges → mark_at x k ≤ 1) → get_or d v 0 ≤ 2 * e
    counted_small v b marks = omega (arith, C.each v b, small e C.within)
      where
        one : (m a b : ℕ) → m ≤ 1 → a ≤ 1 → b ≤ 1 → m * (a + b) ≤ 2
        one zero a b p q r = omega arith
        one (suc zero) a b p q r = omega arith
        one (suc (suc m)) a b p q r = absurd (omega arith)

        small : (n : ℕ) → n ≤ g.edges → sum n (λ k. mark_at x k * ends_at g v k) ≤ 2 * n
        small zero l = omega arith
        small (suc n) l =
            omega (
              arith,
              small n (omega arith),
              one (mark_at x n) (is (first_end g n) v) (is (second_end g n) v) (marks n (omega arith)) (is_le (first_end g n) v)
                  (is_le (second_end g n) v),
            )

    -- One more edge.
    pub counted_more : {new : List ℕ} {i j m : ℕ} → e < g.edges → length new ≡ length d → mark_at x e ≡ m → first_end g e ≡ i → second_end g e ≡ j →
        Grown d new i j m → Counted g x new (e + 1)
    counted_more {new} {i} {j} {m} l k p q r G = record {
      within = omega arith;
      long = k ∙ C.long;
      each = λ v b.
          G.each v b
          ∙ omega (
            arith,
            C.each v b,
            sum-next e (λ k. mark_at x k * ends_at g v k),
            ap (λ k. k * ends_at g v e) p,
            ap (λ k. m * (is k v + is (second_end g e) v)) q,
            ap (λ k. m * (is i v + is k v)) r,
          );
    }

    -- After all edges.
    pub counted_all : g.edges ≤ e → (v : ℕ) → v < 128 → get_or d v 0 ≡ degree g x v
    counted_all l v b =
        let s : e ≡ g.edges = omega (arith, C.within) in
        C.each v b ∙ ap (λ n. sum n (λ k. mark_at x k * ends_at g v k)) s
