-- Weak duality over functions: for any weights, bounds, capacities and prices the gap is the sum of the four slacks, and what each slack needs to be
-- at least 0.
use Prim.Native.Nat.{ℕ, zero, suc, ◌+◌, ◌*◌, ◌-◌, ◌≤◌, ◌<◌}
use mathlib.Core.Path.{◌≡◌, refl, sym, ap, ap₂, ◌∙◌, subst}
use mathlib.Core.Bool.{Bool, true, false, ◌&&◌, ◌||◌}
use native.Mathlib.Omega.{arith}
use native.Mathlib.Nat.{mul-add, mul_assoc, add-mul, mul_left_comm, mul-le-mul_left}
use lib.IntN.{ℤ, pos, ◌+ℤ◌, ◌-ℤ◌, ◌*ℤ◌, *ℤ_comm, -ℤ-+ℤ_cancel}
use lib.Signed.{◌≤ℤ◌}
use Rattle.integers.specs.Integer.{up, dn}
use Rattle.integers.specs.Sum.{sum, sumℤ, is}
use Rattle.integers.proofs.Order.{up-add, up-diff, order, nonneg, times_nonneg, zero_times, one-times}
use Rattle.integers.proofs.Diff.{diff_self, diff_add, diff_sub, diff_times, diff_eq, times_add}
use Rattle.integers.proofs.Sum.{sum_mono, sum-add, sum-cong, sum-scale, sumℤ-cong, sumℤ-add, sumℤ-diff, sumℤ-scale, sumℤ-swap, sumℤ-at, sumℤ-none}
use Rattle.integers.proofs.Sum.{sumℤ-nonneg, sumℤ-pos}
use Rattle.dual.specs.Sets.{one}

-- ---- products

pub times_diff : (c x y : ℤ) → c *ℤ (x -ℤ y) ≡ c *ℤ x -ℤ c *ℤ y
times_diff c x y =
    let e : c *ℤ x ≡ c *ℤ (x -ℤ y) +ℤ c *ℤ y = ap (λ z. c *ℤ z) (sym (-ℤ-+ℤ_cancel x y)) ∙ times_add c (x -ℤ y) y in
    omega (order, ap up e, ap dn e, up-add (c *ℤ (x -ℤ y)) (c *ℤ y), up-diff (c *ℤ x) (c *ℤ y))

times_times : (k j : ℕ) (z : ℤ) → pos (k * j) *ℤ z ≡ pos k *ℤ (pos j *ℤ z)
times_times k j z =
    diff_eq (diff_times (k * j) (diff_self z)) (diff_times k (diff_times j (diff_self z))) (omega (arith, mul_assoc k j (up z), mul_assoc k j (dn z)))

add_times : (k j : ℕ) (z : ℤ) → pos (k + j) *ℤ z ≡ pos k *ℤ z +ℤ pos j *ℤ z
add_times k j z =
    diff_eq
    (diff_times (k + j) (diff_self z))
    (diff_add (diff_times k (diff_self z)) (diff_times j (diff_self z)))
    (omega (arith, add-mul k j (up z), add-mul k j (dn z)))

both_nonneg : {x y : ℤ} → pos 0 ≤ℤ x → pos 0 ≤ℤ y → pos 0 ≤ℤ (x *ℤ y)
both_nonneg {x} {y} h k = subst (λ (z : ℤ). pos 0 ≤ℤ (z *ℤ y)) (sym (nonneg h)) (times_nonneg (up x) k)

diff_nonneg : {x y : ℤ} → x ≤ℤ y → pos 0 ≤ℤ (y -ℤ x)
diff_nonneg {x} {y} h = omega (order, up-diff y x)

-- ---- double counting

-- Item v counts edge e c v e times. What the items' prices times their counts of the chosen edges come to is counted by items and by edges.
pub counted_by_items : (n m : ℕ) (c : ℕ → ℕ → ℕ) (x : ℕ → ℕ) (p : ℕ → ℤ) →
    sumℤ n (λ v. p v *ℤ pos (sum m (λ e. x e * c v e))) ≡ sumℤ m (λ e. pos (x e) *ℤ sumℤ n (λ v. pos (c v e) *ℤ p v))
counted_by_items n m c x p =
    sumℤ-cong n _ _ (λ v l. ap (λ z. p v *ℤ z) (sym (sumℤ-pos m (λ e. x e * c v e))) ∙ sym (sumℤ-scale m (p v) (λ e. pos (x e * c v e))))
    ∙ sumℤ-swap n m (λ v e. p v *ℤ pos (x e * c v e))
    ∙ sumℤ-cong m _ _ (λ e l.
    sumℤ-cong n _ _ (λ v k. *ℤ_comm (p v) (pos (x e * c v e)) ∙ times_times (x e) (c v e) (p v)) ∙ sumℤ-scale n (pos (x e)) (λ v. pos (c v e) *ℤ p v))

-- The slack of items whose limits are b: their limits at their prices, less what is counted.
pub slack-of_items : (n m : ℕ) (c : ℕ → ℕ → ℕ) (x : ℕ → ℕ) (p b : ℕ → ℤ) →
    sumℤ n (λ v. p v *ℤ (b v -ℤ pos (sum m (λ e. x e * c v e))))
    ≡ sumℤ n (λ v. b v *ℤ p v) -ℤ sumℤ m (λ e. pos (x e) *ℤ sumℤ n (λ v. pos (c v e) *ℤ p v))
slack-of_items n m c x p b =
    sumℤ-cong n _ _ (λ v l. times_diff (p v) (b v) (pos (sum m (λ e. x e * c v e))))
    ∙ sumℤ-diff n (λ v. p v *ℤ b v) (λ v. p v *ℤ pos (sum m (λ e. x e * c v e)))
    ∙ ap₂ ◌-ℤ◌ (sumℤ-cong n _ _ (λ v l. *ℤ_comm (p v) (b v))) (counted_by_items n m c x p)

-- How often vertex v is an end of edge e.
abbrev pub end_count : (ℕ → ℕ) → (ℕ → ℕ) → ℕ → ℕ → ℕ
end_count first second v e = is (first e) v + is (second e) v

module _ (n m : ℕ) (first second : ℕ → ℕ) (first_in : (e : ℕ) → e < m → first e < n) (second_in : (e : ℕ) → e < m → second e < n) where
  -- An edge is counted by its two ends.
  at_ends : (p : ℕ → ℤ) (e : ℕ) → e < m → sumℤ n (λ v. pos (end_count first second v e) *ℤ p v) ≡ p (first e) +ℤ p (second e)
  at_ends p e l =
      sumℤ-cong n _ _ (λ v k. add_times (is (first e) v) (is (second e) v) (p v))
      ∙ sumℤ-add n (λ v. pos (is (first e) v) *ℤ p v) (λ v. pos (is (second e) v) *ℤ p v)
      ∙ ap₂ ◌+ℤ◌ (sumℤ-at n (first e) p (first_in e l)) (sumℤ-at n (second e) p (second_in e l))

  by_ends : (x : ℕ → ℕ) (p : ℕ → ℤ) →
      sumℤ m (λ e. pos (x e) *ℤ sumℤ n (λ v. pos (end_count first second v e) *ℤ p v)) ≡ sumℤ m (λ e. pos (x e) *ℤ (p (first e) +ℤ p (second e)))
  by_ends x p = sumℤ-cong m _ _ (λ e l. ap (λ z. pos (x e) *ℤ z) (at_ends p e l))

  -- The handshake: prices times degrees come to the prices of the chosen edges' ends.
  pub handshakeℤ : (x : ℕ → ℕ) (p : ℕ → ℤ) →
      sumℤ n (λ v. p v *ℤ pos (sum m (λ e. x e * end_count first second v e))) ≡ sumℤ m (λ e. pos (x e) *ℤ (p (first e) +ℤ p (second e)))
  handshakeℤ x p = counted_by_items n m (end_count first second) x p ∙ by_ends x p

  pub handshake : (x f : ℕ → ℕ) →
      sum n (λ v. f v * sum m (λ e. x e * end_count first second v e)) ≡ sum m (λ e. x e * (f (first e) + f (second e)))
  handshake x f =
      ap up
      (sym (sumℤ-pos n (λ v. f v * sum m (λ e. x e * end_count first second v e)))
      ∙ handshakeℤ x (λ v. pos (f v))
      ∙ sumℤ-pos m (λ e. x e * (f (first e) + f (second e))))

-- ---- the gap and its slacks

-- A graph with bounds and prices, as functions. Weights, bounds, capacities and prices may be any integers, and set s covers edge e covers s e times.
pub record Program : Type 0 where
  pub vertices : ℕ
  pub edges : ℕ
  pub sets : ℕ
  pub first : ℕ → ℕ
  pub second : ℕ → ℕ
  pub weight : ℕ → ℤ
  pub bound : ℕ → ℤ
  pub capacity : ℕ → ℤ
  pub covers : ℕ → ℕ → ℕ
  pub vertex_price : ℕ → ℤ
  pub set_price : ℕ → ℤ
  pub edge_price : ℕ → ℤ

abbrev pub degree_in : Program → (ℕ → ℕ) → ℕ → ℕ
degree_in D x v = sum D.edges (λ e. x e * end_count D.first D.second v e)

abbrev pub chosen_covered_in : Program → (ℕ → ℕ) → ℕ → ℕ
chosen_covered_in D x s = sum D.edges (λ e. x e * D.covers s e)

abbrev pub weight_of_in : Program → (ℕ → ℕ) → ℤ
weight_of_in D x = sumℤ D.edges (λ e. pos (x e) *ℤ D.weight e)

abbrev pub cover_of_in : Program → ℕ → ℤ
cover_of_in D e =
    D.vertex_price (D.first e) +ℤ D.vertex_price (D.second e) +ℤ D.edge_price e
    +ℤ sumℤ D.sets (λ s. pos (D.covers s e) *ℤ D.set_price s)

abbrev pay_in : Program → ℕ → ℤ
pay_in D v = D.bound v *ℤ D.vertex_price v

abbrev pub total_of_in : Program → ℤ
total_of_in D =
    sumℤ D.vertices (pay_in D) +ℤ sumℤ D.sets (λ s. D.capacity s *ℤ D.set_price s) +ℤ sumℤ D.edges D.edge_price

abbrev vertex_slack_at_in : Program → (ℕ → ℕ) → ℕ → ℤ
vertex_slack_at_in D x v = D.vertex_price v *ℤ (D.bound v -ℤ pos (degree_in D x v))

abbrev pub vertex_slack_in : Program → (ℕ → ℕ) → ℤ
vertex_slack_in D x = sumℤ D.vertices (vertex_slack_at_in D x)

abbrev pub set_slack_in : Program → (ℕ → ℕ) → ℤ
set_slack_in D x = sumℤ D.sets (λ s. D.set_price s *ℤ (D.capacity s -ℤ pos (chosen_covered_in D x s)))

abbrev pub edge_slack_in : Program → (ℕ → ℕ) → ℤ
edge_slack_in D x = sumℤ D.edges (λ e. pos (1 - x e) *ℤ D.edge_price e)

abbrev pub cover_slack_in : Program → (ℕ → ℕ) → ℤ
cover_slack_in D x = sumℤ D.edges (λ e. pos (x e) *ℤ (cover_of_in D e -ℤ D.weight e))

-- An edge that is not chosen, or chosen.
unchosen : (k : ℕ) (z : ℤ) → k ≤ 1 → pos (1 - k) *ℤ z ≡ z -ℤ pos k *ℤ z
unchosen zero z l = omega (order, ap up (one-times z), ap dn (one-times z), ap up (zero_times z), ap dn (zero_times z), up-diff z (pos 0 *ℤ z))
unchosen (suc zero) z l = omega (order, ap up (one-times z), ap dn (one-times z), ap up (zero_times z), ap dn (zero_times z), up-diff z (pos 1 *ℤ z))
unchosen (suc (suc k)) z l = absurd (omega arith)

-- What the prices of ends, of covering sets and of the edges themselves come to over the chosen edges.
abbrev ends_paid : Program → (ℕ → ℕ) → ℤ
ends_paid D x = sumℤ D.edges (λ e. pos (x e) *ℤ (D.vertex_price (D.first e) +ℤ D.vertex_price (D.second e)))

abbrev sets_paid : Program → (ℕ → ℕ) → ℤ
sets_paid D x = sumℤ D.edges (λ e. pos (x e) *ℤ sumℤ D.sets (λ s. pos (D.covers s e) *ℤ D.set_price s))

abbrev edges_paid : Program → (ℕ → ℕ) → ℤ
edges_paid D x = sumℤ D.edges (λ e. pos (x e) *ℤ D.edge_price e)

-- The gap is the sum of the four slacks.
module _ (D : Program) (first_in : (e : ℕ) → e < D.edges → D.first e < D.vertices) (second_in : (e : ℕ) → e < D.edges → D.second e < D.vertices)
    (x : ℕ → ℕ) (marks : (e : ℕ) → e < D.edges → x e ≤ 1) where
  of-vertices : vertex_slack_in D x ≡ sumℤ D.vertices (pay_in D) -ℤ ends_paid D x
  of-vertices =
      slack-of_items D.vertices D.edges (end_count D.first D.second) x D.vertex_price D.bound
      ∙ ap (λ z. sumℤ D.vertices (pay_in D) -ℤ z)
      (by_ends D.vertices D.edges D.first D.second first_in second_in x D.vertex_price)

  of-edges : edge_slack_in D x ≡ sumℤ D.edges D.edge_price -ℤ edges_paid D x
  of-edges =
      sumℤ-cong D.edges _ _ (λ e l. unchosen (x e) (D.edge_price e) (marks e l))
      ∙ sumℤ-diff D.edges D.edge_price (λ e. pos (x e) *ℤ D.edge_price e)

  of-cover : cover_slack_in D x ≡ (ends_paid D x +ℤ edges_paid D x +ℤ sets_paid D x) -ℤ weight_of_in D x
  of-cover =
      sumℤ-cong D.edges _ _ (λ e l. times_diff (pos (x e)) (cover_of_in D e) (D.weight e) ∙ ap (λ z. z -ℤ pos (x e) *ℤ D.weight e) (parts e))
      ∙ sumℤ-diff D.edges _ _
      ∙ ap (λ z. z -ℤ weight_of_in D x) (sumℤ-add D.edges _ _ ∙ ap (λ z. z +ℤ sets_paid D x) (sumℤ-add D.edges _ _))
    where
      parts : (e : ℕ) → pos (x e) *ℤ cover_of_in D e
          ≡ pos (x e) *ℤ (D.vertex_price (D.first e) +ℤ D.vertex_price (D.second e)) +ℤ pos (x e) *ℤ D.edge_price e
          +ℤ pos (x e) *ℤ sumℤ D.sets (λ s. pos (D.covers s e) *ℤ D.set_price s)
      parts e =
          times_add (pos (x e)) (D.vertex_price (D.first e) +ℤ D.vertex_price (D.second e) +ℤ D.edge_price e)
          (sumℤ D.sets (λ s. pos (D.covers s e) *ℤ D.set_price s))
          ∙ ap (λ z. z +ℤ pos (x e) *ℤ sumℤ D.sets (λ s. pos (D.covers s e) *ℤ D.set_price s))
          (times_add (pos (x e)) (D.vertex_price (D.first e) +ℤ D.vertex_price (D.second e)) (D.edge_price e))

  pub slacks_add : total_of_in D -ℤ weight_of_in D x ≡ vertex_slack_in D x +ℤ set_slack_in D x +ℤ edge_slack_in D x +ℤ cover_slack_in D x
  slacks_add =
      cancel
      (sumℤ D.vertices (pay_in D))
      (sumℤ D.sets (λ s. D.capacity s *ℤ D.set_price s))
      (sumℤ D.edges D.edge_price)
      (ends_paid D x)
      (sets_paid D x)
      (edges_paid D x)
      (weight_of_in D x)
      ∙ sym (ap₂ ◌+ℤ◌ (ap₂ ◌+ℤ◌ (ap₂ ◌+ℤ◌ of-vertices (slack-of_items D.sets D.edges D.covers x D.set_price D.capacity)) of-edges) of-cover)
    where
      cancel : (a b c h s f w : ℤ) → (a +ℤ b +ℤ c) -ℤ w ≡ (a -ℤ h) +ℤ (b -ℤ s) +ℤ (c -ℤ f) +ℤ ((h +ℤ f +ℤ s) -ℤ w)
      cancel a b c h s f w =
          diff_eq
          (diff_sub (diff_add (diff_add (diff_self a) (diff_self b)) (diff_self c)) (diff_self w))
          (diff_add
          (diff_add (diff_add (diff_sub (diff_self a) (diff_self h)) (diff_sub (diff_self b) (diff_self s))) (diff_sub (diff_self c) (diff_self f)))
          (diff_sub (diff_add (diff_add (diff_self h) (diff_self f)) (diff_self s)) (diff_self w)))
          (omega arith)

  -- Complementary slackness: where no item has slack, there is no gap.
  pub complementary : ((v : ℕ) → v < D.vertices → vertex_slack_at_in D x v ≡ pos 0) →
      ((s : ℕ) → s < D.sets → D.set_price s *ℤ (D.capacity s -ℤ pos (chosen_covered_in D x s)) ≡ pos 0) →
      ((e : ℕ) → e < D.edges → pos (1 - x e) *ℤ D.edge_price e ≡ pos 0) →
      ((e : ℕ) → e < D.edges → pos (x e) *ℤ (cover_of_in D e -ℤ D.weight e) ≡ pos 0) → total_of_in D -ℤ weight_of_in D x ≡ pos 0
  complementary v s e c =
      slacks_add
      ∙ ap₂ ◌+ℤ◌
      (ap₂ ◌+ℤ◌ (ap₂ ◌+ℤ◌ (sumℤ-none D.vertices _ v) (sumℤ-none D.sets _ s)) (sumℤ-none D.edges _ e))
      (sumℤ-none D.edges _ c)

-- ---- each slack is at least 0

pub vertex_slack-nonneg : (D : Program) (x : ℕ → ℕ) →
    ((v : ℕ) → v < D.vertices → pos 0 ≤ℤ D.vertex_price v) → ((v : ℕ) → v < D.vertices → pos (degree_in D x v) ≤ℤ D.bound v) → pos 0 ≤ℤ vertex_slack_in D x
vertex_slack-nonneg D x prices within = sumℤ-nonneg D.vertices _ (λ v l. both_nonneg (prices v l) (diff_nonneg (within v l)))

pub set_slack-nonneg : (D : Program) (x : ℕ → ℕ) →
    ((s : ℕ) → s < D.sets → pos 0 ≤ℤ D.set_price s) → ((s : ℕ) → s < D.sets → pos (chosen_covered_in D x s) ≤ℤ D.capacity s) → pos 0 ≤ℤ set_slack_in D x
set_slack-nonneg D x prices within = sumℤ-nonneg D.sets _ (λ s l. both_nonneg (prices s l) (diff_nonneg (within s l)))

pub edge_slack-nonneg : (D : Program) (x : ℕ → ℕ) → ((e : ℕ) → e < D.edges → pos 0 ≤ℤ D.edge_price e) → pos 0 ≤ℤ edge_slack_in D x
edge_slack-nonneg D x prices = sumℤ-nonneg D.edges _ (λ e l. times_nonneg (1 - x e) (prices e l))

pub cover_slack-nonneg : (D : Program) (x : ℕ → ℕ) → ((e : ℕ) → e < D.edges → D.weight e ≤ℤ cover_of_in D e) → pos 0 ≤ℤ cover_slack_in D x
cover_slack-nonneg D x covering = sumℤ-nonneg D.edges _ (λ e l. times_nonneg (x e) (diff_nonneg (covering e l)))

-- ---- weak duality

-- The marks x keep to the bounds and capacities.
pub record Primal (D : Program) (x : ℕ → ℕ) : Type 0 where
  pub first_in : (e : ℕ) → e < D.edges → D.first e < D.vertices
  pub second_in : (e : ℕ) → e < D.edges → D.second e < D.vertices
  pub marks : (e : ℕ) → e < D.edges → x e ≤ 1
  pub degrees : (v : ℕ) → v < D.vertices → pos (degree_in D x v) ≤ℤ D.bound v
  pub sets : (s : ℕ) → s < D.sets → pos (chosen_covered_in D x s) ≤ℤ D.capacity s

-- The prices are not below 0 and cover every edge.
pub record Dual (D : Program) : Type 0 where
  pub vertex_prices : (v : ℕ) → v < D.vertices → pos 0 ≤ℤ D.vertex_price v
  pub set_prices : (s : ℕ) → s < D.sets → pos 0 ≤ℤ D.set_price s
  pub edge_prices : (e : ℕ) → e < D.edges → pos 0 ≤ℤ D.edge_price e
  pub covering : (e : ℕ) → e < D.edges → D.weight e ≤ℤ cover_of_in D e

-- Then the weight is at most the total.
pub weight_total : {D : Program} {x : ℕ → ℕ} → Primal D x → Dual D → weight_of_in D x ≤ℤ total_of_in D
weight_total {D} {x} p d =
    go
    (slacks_add D p.first_in p.second_in x p.marks)
    (vertex_slack-nonneg D x d.vertex_prices p.degrees)
    (set_slack-nonneg D x d.set_prices p.sets)
    (edge_slack-nonneg D x d.edge_prices)
    (cover_slack-nonneg D x d.covering)
  where
    go : {t w a b c e : ℤ} → t -ℤ w ≡ a +ℤ b +ℤ c +ℤ e → pos 0 ≤ℤ a → pos 0 ≤ℤ b → pos 0 ≤ℤ c → pos 0 ≤ℤ e → w ≤ℤ t
    go {t} {w} {a} {b} {c} {e} h i j k l =
        omega (order, ap up h, ap dn h, up-diff t w, up-add a b, up-add (a +ℤ b) c, up-add (a +ℤ b +ℤ c) e)

-- ---- the capacity of an odd set

-- An edge that a set marks or has inside, twice, is at most its mark and its ends inside.
two_cover : (k a b : Bool) → (k ≡ true → one a + one b ≡ 1) → 2 * one (k || a && b) ≤ one k + (one a + one b)
two_cover true a b h = omega (arith, h refl)
two_cover false true true h = omega arith
two_cover false true false h = omega arith
two_cover false false b h = omega arith

at_most : (k j : ℕ) → k ≤ 1 → k * j ≤ j
at_most zero j h = omega arith
at_most (suc zero) j h = omega arith
at_most (suc (suc k)) j h = absurd (omega arith)

-- A set marks edges and has vertices inside, and a marked edge has one end inside. Twice the chosen edges that it covers are at most its load: the
-- bounds of its vertices and the number of its marked edges.
module _ (n m : ℕ) (first second : ℕ → ℕ) (first_in : (e : ℕ) → e < m → first e < n) (second_in : (e : ℕ) → e < m → second e < n)
    (x : ℕ → ℕ) (marks : (e : ℕ) → e < m → x e ≤ 1) (bound : ℕ → ℕ) (within : (v : ℕ) → v < n → sum m (λ e. x e * end_count first second v e) ≤ bound v)
    (inside marked : ℕ → Bool) (one_end : (e : ℕ) → e < m → marked e ≡ true → one (inside (first e)) + one (inside (second e)) ≡ 1) where
  abbrev ends_counted : ℕ → ℕ
  ends_counted e = one (inside (first e)) + one (inside (second e))

  abbrev covering : ℕ → ℕ
  covering e = one (marked e || inside (first e) && inside (second e))

  twice : 2 * sum m (λ e. x e * covering e) ≤ sum m (λ e. x e * (one (marked e) + ends_counted e))
  twice =
      subst (λ k. k ≤ sum m (λ e. x e * (one (marked e) + ends_counted e))) (sum-scale m 2 (λ e. x e * covering e))
      (sum_mono m _ _ (λ e l.
      subst (λ k. k ≤ x e * (one (marked e) + ends_counted e)) (mul_left_comm (x e) 2 (covering e))
      (mul-le-mul_left (x e) (two_cover (marked e) (inside (first e)) (inside (second e)) (one_end e l)))))

  split : sum m (λ e. x e * (one (marked e) + ends_counted e)) ≡ sum m (λ e. x e * one (marked e)) + sum m (λ e. x e * ends_counted e)
  split = sum-cong m _ _ (λ e l. mul-add (x e) (one (marked e)) (ends_counted e)) ∙ sum-add m (λ e. x e * one (marked e)) (λ e. x e * ends_counted e)

  pub covered-load : 2 * sum m (λ e. x e * covering e) ≤ sum n (λ v. one (inside v) * bound v) + sum m (λ e. one (marked e))
  covered-load =
      omega (
        arith,
        twice,
        split,
        sum_mono m (λ e. x e * one (marked e)) (λ e. one (marked e)) (λ e l. at_most (x e) (one (marked e)) (marks e l)),
        handshake n m first second first_in second_in x (λ v. one (inside v)),
        sum_mono n (λ v. one (inside v) * sum m (λ e. x e * end_count first second v e)) (λ v. one (inside v) * bound v)
            (λ v l. mul-le-mul_left (one (inside v)) (within v l)),
      )
