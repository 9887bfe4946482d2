-- Trying every subgraph finds the largest weight of a feasible one.
use Rattle.std.specs.Prelude.{Option, None, Some}
use Prim.Native.Nat.{ℕ, zero, suc, ◌≤◌, ◌<◌}
use mathlib.Core.Path.{◌≡◌, refl, sym, ap, ◌∙◌, subst}
use mathlib.Core.Logic.{◌⊎◌, inl, inr}
use mathlib.Core.Bool.{Bool, true, false, cond, ◌&&◌}
use mathlib.Core.List.Memᴰ
use mathlib.Core.List.{List, [], ◌∷◌, ◌++◌, map, Memᴰ}
use native.Mathlib.Omega.{arith}
use lib.Dec.{leb, eqb}
use borrow.Author.Tests.{leb-true, le-leb, eqb-true, eq-eqb}
use lib.IntN.{ℤ, pos}
use lib.ListN.{length}
use lib.Signed.{le_z, ◌≤ℤ◌, ≤ℤ_refl}
use Rattle.integers.proofs.Order.{≤ℤ-trans, le_z_true, le_z_false, le-le_z, order}
use Rattle.graph.specs.Graph.{Graph, vertices, bound_at, every}
use Rattle.graph.specs.Subgraph.{mark_at, degree, weight_of, Feasible, Optimal}
use Rattle.graph.proofs.Passing.{zero_one, every_true, true_every}
use Rattle.graph.proofs.Ranges.{both, ◌also◌}

-- Every list of m marks.
abbrev pub subgraphs : ℕ → List (List ℕ)
subgraphs zero = [] ∷ []
subgraphs (suc m) = map (λ x. 0 ∷ x) (subgraphs m) ++ map (λ x. 1 ∷ x) (subgraphs m)

-- The test whether a subgraph is feasible.
abbrev pub is_feasible : Graph → List ℤ → List ℕ → Bool
is_feasible g bound x =
    eqb (length x) g.edges && every g.edges (λ e. leb (mark_at x e) 1)
    && every (vertices g) (λ v. le_z (pos (degree g x v)) (bound_at bound v))

abbrev pub larger : ℤ → Option ℤ → ℤ
larger w None = w
larger w (Some v) = cond (le_z w v) v w

-- The largest weight of the feasible ones among xs, if there is one.
abbrev pub best_of : Graph → List ℤ → List (List ℕ) → Option ℤ
best_of g bound [] = None
best_of g bound (x ∷ xs) = cond (is_feasible g bound x) (Some (larger (weight_of g x) (best_of g bound xs))) (best_of g bound xs)

abbrev pub best : Graph → List ℤ → Option ℤ
best g bound = best_of g bound (subgraphs g.edges)

-- The test of feasibility means what it should.
module _ (g : Graph) (bound : List ℤ) (x : List ℕ) where
  abbrev long_enough : Bool
  long_enough = eqb (length x) g.edges

  abbrev marks_right : ℕ → Bool
  marks_right e = leb (mark_at x e) 1

  abbrev within_bounds : ℕ → Bool
  within_bounds v = le_z (pos (degree g x v)) (bound_at bound v)

  pub feasible_yes : is_feasible g bound x ≡ true → Feasible g bound x
  feasible_yes e =
      let a = both (long_enough && every g.edges marks_right) (every (vertices g) within_bounds) e in
      let b = both long_enough (every g.edges marks_right) a.0 in
      record {
        long = eqb-true (length x) g.edges b.0;
        marks = λ k l. leb-true (mark_at x k) 1 (every_true g.edges marks_right b.1 k l);
        within = λ v l. le_z_true (pos (degree g x v)) (bound_at bound v) (every_true (vertices g) within_bounds a.1 v l);
      }

  pub yes_feasible : Feasible g bound x → is_feasible g bound x ≡ true
  yes_feasible f =
      eq-eqb (length x) g.edges f.long
      also true_every g.edges marks_right (λ k l. le-leb (mark_at x k) 1 (f.marks k l))
      also true_every (vertices g) within_bounds (λ v l. le-le_z (f.within v l))

-- Every list of m marks is among those tried.
mapped : (k : ℕ) {x : List ℕ} (xs : List (List ℕ)) → Memᴰ x xs → Memᴰ (k ∷ x) (map (λ y. k ∷ y) xs)
mapped k [] m = absurd (Memᴰ.not-nil m)
mapped k {x} (y ∷ xs) m = go (Memᴰ.cases_cons m) (mapped k xs)
  where
    go : (x ≡ y) ⊎ Memᴰ x xs → (Memᴰ x xs → Memᴰ (k ∷ x) (map (λ y. k ∷ y) xs)) → Memᴰ (k ∷ x) ((k ∷ y) ∷ map (λ y. k ∷ y) xs)
    go (inl e) ih = Memᴰ.head (ap (λ z. k ∷ z) e)
    go (inr n) ih = Memᴰ.tail (ih n)

tried : (m : ℕ) (x : List ℕ) → length x ≡ m → ((e : ℕ) → e < m → mark_at x e ≤ 1) → Memᴰ x (subgraphs m)
tried zero [] l h = Memᴰ.head refl
tried zero (k ∷ x) l h = absurd (omega arith)
tried (suc m) [] l h = absurd (omega arith)
tried (suc m) (zero ∷ x) l h =
    Memᴰ.append_left (map (λ y. 1 ∷ y) (subgraphs m)) (mapped 0 (subgraphs m) (tried m x (omega arith) (λ e b. h (suc e) (omega arith))))
tried (suc m) (suc zero ∷ x) l h =
    Memᴰ.append_right (map (λ y. 0 ∷ y) (subgraphs m)) (mapped 1 (subgraphs m) (tried m x (omega arith) (λ e b. h (suc e) (omega arith))))
tried (suc m) (suc (suc k) ∷ x) l h = absurd (omega (arith, h 0 (omega arith)))

-- What was found among xs: a feasible subgraph of that weight, and none of more.
record Found (g : Graph) (bound : List ℤ) (xs : List (List ℕ)) (w : ℤ) : Type 0 where
  which : List ℕ
  feasible : is_feasible g bound which ≡ true
  weighs : weight_of g which ≡ w
  most : (y : List ℕ) → Memᴰ y xs → is_feasible g bound y ≡ true → weight_of g y ≤ℤ w

larger_left : (w : ℤ) (o : Option ℤ) → w ≤ℤ larger w o
larger_left w None = ≤ℤ_refl w
larger_left w (Some v) = go (le_z w v) refl
  where
    go : (b : Bool) → le_z w v ≡ b → w ≤ℤ cond b v w
    go true e = le_z_true w v e
    go false e = ≤ℤ_refl w

larger_right : (w v : ℤ) → v ≤ℤ larger w (Some v)
larger_right w v = go (le_z w v) refl
  where
    go : (b : Bool) → le_z w v ≡ b → v ≤ℤ cond b v w
    go true e = ≤ℤ_refl v
    go false e = let l = le_z_false w v e in omega order

larger_one : (w v : ℤ) → (larger w (Some v) ≡ w) ⊎ (larger w (Some v) ≡ v)
larger_one w v = go (le_z w v)
  where
    go : (b : Bool) → (cond b v w ≡ w) ⊎ (cond b v w ≡ v)
    go true = inr refl
    go false = inl refl

module _ (g : Graph) (bound : List ℤ) where
  -- Nothing was found where none of xs is feasible.
  none_found : (xs : List (List ℕ)) → best_of g bound xs ≡ None → (y : List ℕ) → Memᴰ y xs → is_feasible g bound y ≡ true → ⊥
  none_found [] e y m f = Memᴰ.not-nil m
  none_found (x ∷ xs) e y m f = go (is_feasible g bound x) refl e (Memᴰ.cases_cons m) (none_found xs)
    where
      go : (b : Bool) → is_feasible g bound x ≡ b → cond b (Some (larger (weight_of g x) (best_of g bound xs))) (best_of g bound xs) ≡ None →
          (y ≡ x) ⊎ Memᴰ y xs
          → (best_of g bound xs ≡ None → (y : List ℕ) → Memᴰ y xs → is_feasible g bound y ≡ true → ⊥) → ⊥
      go true p q c ih = zero_one (cc)
      go false p q (inl c) ih = zero_one (let r : is_feasible g bound y ≡ false = ap (is_feasible g bound) c ∙ p in cc)
      go false p q (inr c) ih = ih q y c f

  -- The first of xs is not feasible; it is, and nothing else was found; it is, and something was.
  found-later : (x : List ℕ) (xs : List (List ℕ)) (w : ℤ) → is_feasible g bound x ≡ false → Found g bound xs w → Found g bound (x ∷ xs) w
  found-later x xs w p F = record {
    which = F.which;
    feasible = F.feasible;
    weighs = F.weighs;
    most = λ y m f. go y (Memᴰ.cases_cons m) f;
  }
    where
      go : (y : List ℕ) → (y ≡ x) ⊎ Memᴰ y xs → is_feasible g bound y ≡ true → weight_of g y ≤ℤ w
      go y (inl c) f = zero_one (let r : is_feasible g bound y ≡ false = ap (is_feasible g bound) c ∙ p in cc)
      go y (inr c) f = F.most y c f

  found_first : (x : List ℕ) (xs : List (List ℕ)) → is_feasible g bound x ≡ true → best_of g bound xs ≡ None → Found g bound (x ∷ xs) (weight_of g x)
  found_first x xs p q = record { which = x; feasible = p; weighs = refl; most = λ y m f. go y (Memᴰ.cases_cons m) f }
    where
      go : (y : List ℕ) → (y ≡ x) ⊎ Memᴰ y xs → is_feasible g bound y ≡ true → weight_of g y ≤ℤ weight_of g x
      go y (inl c) f = rw c (≤ℤ_refl (weight_of g x))
      go y (inr c) f = absurd (none_found xs q y c f)

  found-both : (x : List ℕ) (xs : List (List ℕ)) (v : ℤ) → is_feasible g bound x ≡ true → Found g bound xs v →
      Found g bound (x ∷ xs) (larger (weight_of g x) (Some v))
  found-both x xs v p F = go (larger_one (weight_of g x) v)
    where
      most : (y : List ℕ) → (y ≡ x) ⊎ Memᴰ y xs → is_feasible g bound y ≡ true → weight_of g y ≤ℤ larger (weight_of g x) (Some v)
      most y (inl c) f = rw c (larger_left (weight_of g x) (Some v))
      most y (inr c) f = ≤ℤ-trans (F.most y c f) (larger_right (weight_of g x) v)

      go : (larger (weight_of g x) (Some v) ≡ weight_of g x) ⊎ (larger (weight_of g x) (Some v) ≡ v) → Found g bound (x ∷ xs) (larger (weight_of g x) (Some v))
      go (inl e) = record { which = x; feasible = p; weighs = sym e; most = λ y m f. most y (Memᴰ.cases_cons m) f }
      go (inr e) = record { which = F.which; feasible = F.feasible; weighs = F.weighs ∙ sym e; most = λ y m f. most y (Memᴰ.cases_cons m) f }

  found-best : (xs : List (List ℕ)) (w : ℤ) → best_of g bound xs ≡ Some w → Found g bound xs w
  found-best [] w e = zero_one (cc)
  found-best (x ∷ xs) w e = go (is_feasible g bound x) (best_of g bound xs) refl refl e (found-best xs)
    where
      go : (b : Bool) (o : Option ℤ) → is_feasible g bound x ≡ b → best_of g bound xs ≡ o → cond b (Some (larger (weight_of g x) o)) o ≡ Some w
          → ((v : ℤ) → best_of g bound xs ≡ Some v → Found g bound xs v) → Found g bound (x ∷ xs) w
      go false o p q h ih = found-later x xs w p (ih w (q ∙ h))
      go true None p q h ih = let s : weight_of g x ≡ w = cc in subst (Found g bound (x ∷ xs)) s (found_first x xs p q)
      go true (Some v) p q h ih = let s : larger (weight_of g x) (Some v) ≡ w = cc in subst (Found g bound (x ∷ xs)) s (found-both x xs v p (ih v q))

  -- The weight that trying finds is that of an optimal subgraph.
  pub best_optimal : (w : ℤ) → best g bound ≡ Some w → (x : List ℕ) × Optimal g bound x × (weight_of g x ≡ w)
  best_optimal w e =
      let F = found-best (subgraphs g.edges) w e in
      (F.which, record { feasible = feasible_yes g bound F.which F.feasible; most = λ y f. rw F.weighs (all_less F y f) }, F.weighs)
    where
      all_less : Found g bound (subgraphs g.edges) w → (y : List ℕ) → Feasible g bound y → weight_of g y ≤ℤ w
      all_less F y f = F.most y (tried g.edges y f.long f.marks) (yes_feasible g bound y f)

  -- A feasible subgraph of that weight is optimal.
  pub weighs_best : (x : List ℕ) → is_feasible g bound x ≡ true → best g bound ≡ Some (weight_of g x) → Optimal g bound x
  weighs_best x p e =
      let F = found-best (subgraphs g.edges) (weight_of g x) e in
      record { feasible = feasible_yes g bound x p; most = λ y f. F.most y (tried g.edges y f.long f.marks) (yes_feasible g bound y f) }

  -- Where one subgraph is feasible, one is optimal.
  pub some_optimal : (x : List ℕ) → Feasible g bound x → (y : List ℕ) × Optimal g bound y
  some_optimal x f = go (best g bound) refl
    where
      go : (o : Option ℤ) → best g bound ≡ o → (y : List ℕ) × Optimal g bound y
      go None e = absurd (none_found (subgraphs g.edges) e x (tried g.edges x f.long f.marks) (yes_feasible g bound x f))
      go (Some w) e = let b = best_optimal w e in (b.0, b.1)
