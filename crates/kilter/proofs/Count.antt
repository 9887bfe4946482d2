-- The count over a set of vertices: it is even, so that no near vertex of the set has more edges in one of two subgraphs than in the other.
use Prim.Native.Nat.{ℕ, ◌+◌, ◌*◌, ◌≤◌, ◌<◌}
use mathlib.Core.Path.{◌≡◌, refl, sym, ap, ap₂, ◌∙◌}
use mathlib.Core.Bool.{Bool, true, false, not, ◌&&◌, true≢false, false≢true}
use native.Mathlib.Omega.{arith}
use native.Mathlib.Nat.{add-zero, zero-add, one-mul, zero-mul}
use native.Mathlib.Decide.{ℕ_discrete}
use lib.Dec.{ltb}
use borrow.Author.Tests.{ltb-true, ltb-false, lt-ltb, le-ltb}
use Rattle.integers.specs.Sum.{sum, is}
use Rattle.integers.proofs.Sum.{sum_mono, sum-cong, sum-add, sum-at, is_same, is-other}
use Rattle.graph.proofs.Ranges.{both}
use Rattle.dual.specs.Sets.{one}
use Rattle.duality.proofs.Core.{handshake}
use Rattle.kilter.specs.Count.{NearFar, degree_by, Cut, Closed, Choice, Shut}

-- Where one term is less, and none is more, the sum is less.
sum_less : (n k : ℕ) (f g : ℕ → ℕ) → k < n → f k < g k → ((i : ℕ) → i < n → f i ≤ g i) → sum n f < sum n g
sum_less n k f g l less le =
    omega (
      arith,
      sum_mono n (λ i. f i + is k i) g (λ i b. elim (ℕ_discrete k i) [
        | yes e ↦ omega (arith, ap f e, ap g e, ap (λ j. is j i) e, is_same i)
        | no h ↦ omega (arith, le i b, is-other k i h)
      ]),
      sum-add n f (λ i. is k i),
      sum-cong n (λ i. 1 * is k i) (λ i. is k i) (λ i b. omega arith),
      sum-at n k (λ i. 1) l,
    )

not_both : (s : Bool) {t : Bool} → t ≡ false → one (s && t) ≡ 0
not_both true e = ap one e
not_both false e = refl

just_first : (s : Bool) {t : Bool} → t ≡ true → one (s && t) ≡ one s
just_first true e = ap one e
just_first false e = refl

not-true : (t : Bool) → not t ≡ true → t ≡ false
not-true true e = absurd (false≢true e)
not-true false e = refl

-- An edge in two subgraphs, by the ends that it has in the set.
edge_even : (s t : Bool) (a b : ℕ) → (s ≡ true → t ≡ false → b ≤ a) → (s ≡ false → t ≡ true → a ≤ b) → b * one s + a * one t ≤ a * one s + b * one t
edge_even true true a b h k = omega arith
edge_even true false a b h k = omega (arith, h refl refl)
edge_even false true a b h k = omega (arith, k refl refl)
edge_even false false a b h k = omega arith

-- A vertex of one side, in the set or not.
vertex_even : (s : Bool) (a b : ℕ) → (s ≡ true → a ≤ b) → one s * a ≤ one s * b
vertex_even true a b h = omega (arith, h refl)
vertex_even false a b h = omega arith

module _ {rows n m : ℕ} {first second : ℕ → ℕ} {S : ℕ → Bool} {a b : ℕ → ℕ} (sides : NearFar rows n m first second) (cut : Cut rows n m first second S a b) where
  -- The near vertices of the set, and the far ones.
  abbrev N : ℕ → ℕ
  N v = one (S v && ltb v rows)

  abbrev F : ℕ → ℕ
  F v = one (S v && not (ltb v rows))

  abbrev degree : (ℕ → ℕ) → ℕ → ℕ
  degree z v = degree_by m first second z v

  -- Their degrees, counted by edges.
  by_near : (z : ℕ → ℕ) → sum n (λ v. N v * degree z v) ≡ sum m (λ e. z e * one (S (first e)))
  by_near z =
      handshake n m first second (λ e l. omega (arith, sides.near e l, sides.rows_in)) sides.inside z N
      ∙ sum-cong m _ _ (λ e l.
      ap (λ k. z e * k)
      (ap₂ ◌+◌ (just_first (S (first e)) (lt-ltb _ _ (sides.near e l))) (not_both (S (second e)) (le-ltb _ _ (sides.far e l))) ∙ add-zero (one (S (first e)))))

  by_far : (z : ℕ → ℕ) → sum n (λ v. F v * degree z v) ≡ sum m (λ e. z e * one (S (second e)))
  by_far z =
      handshake n m first second (λ e l. omega (arith, sides.near e l, sides.rows_in)) sides.inside z F
      ∙ sum-cong m _ _ (λ e l.
      ap (λ k. z e * k)
      (ap₂ ◌+◌ (not_both (S (first e)) (ap not (lt-ltb _ _ (sides.near e l)))) (just_first (S (second e)) (ap not (le-ltb _ _ (sides.far e l)))) ∙ zero-add (one (S (second e)))))

  -- What the set has of a with what it lacks of b, and the other way round: by vertices, and by edges.
  abbrev less : ℕ → ℕ
  less v = N v * degree a v + F v * degree b v

  abbrev more : ℕ → ℕ
  more v = N v * degree b v + F v * degree a v

  abbrev fewer : ℕ → ℕ
  fewer e = b e * one (S (first e)) + a e * one (S (second e))

  abbrev many : ℕ → ℕ
  many e = a e * one (S (first e)) + b e * one (S (second e))

  less_many : sum n less ≡ sum m many
  less_many = sum-add n _ _ ∙ ap₂ ◌+◌ (by_near a) (by_far b) ∙ sym (sum-add m _ _)

  more_fewer : sum n more ≡ sum m fewer
  more_fewer = sum-add n _ _ ∙ ap₂ ◌+◌ (by_near b) (by_far a) ∙ sym (sum-add m _ _)

  edges : (e : ℕ) → e < m → fewer e ≤ many e
  edges e l = edge_even (S (first e)) (S (second e)) (a e) (b e) (cut.outward e l) (cut.inward e l)

  near_even : (v : ℕ) → v < n → N v * degree a v ≤ N v * degree b v
  near_even v l = vertex_even (S v && ltb v rows) (degree a v) (degree b v) (λ e. cut.near v (ltb-true v rows (both (S v) (ltb v rows) e).1) (both (S v) (ltb v rows) e).0)

  far-even : (v : ℕ) → v < n → F v * degree b v ≤ F v * degree a v
  far-even v l = vertex_even (S v && not (ltb v rows)) (degree b v) (degree a v)
      (λ e. cut.far v (ltb-false v rows (not-true (ltb v rows) (both (S v) (not (ltb v rows)) e).1)) l (both (S v) (not (ltb v rows)) e).0)

  vertices : (v : ℕ) → v < n → less v ≤ more v
  vertices v l = omega (arith, near_even v l, far-even v l)

  even_edges : sum m fewer ≤ sum m many
  even_edges = sum_mono m _ _ edges

  -- So none of the set's near vertices has fewer edges in a.
  pub no_less : (v : ℕ) → v < rows → S v ≡ true → degree a v < degree b v → ⊥
  no_less v l s h =
      omega (
        arith,
        even_edges,
        less_many,
        more_fewer,
        sum_less n v less more (omega (arith, sides.rows_in)) (omega (arith, one-near, no_far)) vertices,
      )
    where
      here : N v ≡ 1
      here = just_first (S v) (lt-ltb v rows l) ∙ ap one s

      gone : F v ≡ 0
      gone = not_both (S v) (ap not (lt-ltb v rows l))

      one-near : (N v * degree a v ≡ degree a v) × (N v * degree b v ≡ degree b v)
      one-near = (ap (λ k. k * degree a v) here ∙ one-mul (degree a v), ap (λ k. k * degree b v) here ∙ one-mul (degree b v))

      no_far : (F v * degree a v ≡ 0) × (F v * degree b v ≡ 0)
      no_far = (ap (λ k. k * degree a v) gone ∙ zero-mul (degree a v), ap (λ k. k * degree b v) gone ∙ zero-mul (degree b v))

-- ---- what a closed set says of every choice

module _ {rows n m : ℕ} {first second : ℕ → ℕ} {S : ℕ → Bool} {least most x y : ℕ → ℕ} (sides : NearFar rows n m first second)
    (marks : (e : ℕ) → e < m → x e ≤ 1) (closed : Closed m first second x S) (choice : Choice n m first second least most y)
    (shut : Shut rows n m first second least most x S) where
  -- Of the edges that leave the set by their far end x has all, and of those that leave by their near end none.
  cut : Cut rows n m first second S x y
  cut = record {
    outward = λ e l s t. elim (ℕ_discrete (x e) 0) [
      | yes z ↦ absurd (true≢false (sym (closed.out e l z s) ∙ t))
      | no z ↦ omega (arith, z, choice.marks e l)
    ];
    inward = λ e l s t. elim (ℕ_discrete (x e) 0) [
      | yes z ↦ omega (arith, z)
      | no z ↦ absurd (true≢false (sym (closed.back e l (omega (arith, z, marks e l)) t) ∙ s))
    ];
    near = λ v l s. omega (arith, shut.near v l s, choice.floor v (omega (arith, sides.rows_in)));
    far = λ v a l s. omega (arith, shut.far v a l s, choice.within v l);
  }

  -- There is no choice at all where a near vertex of the set is under its least.
  pub no_choice : (v : ℕ) → v < rows → S v ≡ true → degree_by m first second x v < least v → ⊥
  no_choice v l s h = no_less sides cut v l s (omega (arith, choice.floor v (omega (arith, sides.rows_in))))
