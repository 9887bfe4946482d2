-- The laws of finite sums in any commutative monoid, from which those of naturals and of integers are taken.
use mathlib.Core.Path.{◌≡◌, refl, sym, ap, ap₂, ◌∙◌}
use mathlib.Core.Logic.{◌≢◌}
use Prim.Native.Nat.{ℕ, zero, suc, ◌+◌, ◌<◌}
use native.Mathlib.Omega.{arith}
use native.Mathlib.Nat.{add-zero, add-suc}
use native.Mathlib.Numerals.{add-one}
use native.Mathlib.Decide.{ℕ_discrete}

-- a commutative monoid, and its sum of f 0 .. f (n - 1)
pub record Summing (A : Type 0) : Type 0 where
  pub plus : A → A → A
  pub none : A
  pub assoc : (a b c : A) → plus (plus a b) c ≡ plus a (plus b c)
  pub comm : (a b : A) → plus a b ≡ plus b a
  pub idr : (a : A) → plus a none ≡ a
  pub total : ℕ → (ℕ → A) → A
  pub start : (f : ℕ → A) → total 0 f ≡ none
  pub step : (n : ℕ) (f : ℕ → A) → total (suc n) f ≡ plus (total n f) (f n)

-- what relates the terms of two sums, and is kept by adding, relates the sums
module _ {A B : Type 0} (S : Summing A) (T : Summing B) (R : A → B → Type 0) where
  pub related : R S.none T.none → ((a c : A) (b d : B) → R a b → R c d → R (S.plus a c) (T.plus b d)) → (n : ℕ) (f : ℕ → A) (g : ℕ → B) →
      ((i : ℕ) → i < n → R (f i) (g i)) → R (S.total n f) (T.total n g)
  related base both zero f g h = rw (S.start f, T.start g) base
  related base both (suc n) f g h =
      rw (S.step n f, T.step n g) (both _ _ _ _ (related base both n f g (λ i l. h i (omega arith))) (h n (omega arith)))

-- a map that keeps sums of two keeps every sum
pub image : {A B : Type 0} (S : Summing A) (T : Summing B) (h : A → B) → h S.none ≡ T.none → ((a b : A) → h (S.plus a b) ≡ T.plus (h a) (h b)) →
    (n : ℕ) (f : ℕ → A) → T.total n (λ i. h (f i)) ≡ h (S.total n f)
image S T h base both n f =
    sym (related S T (λ a b. h a ≡ b) base (λ a c b d p q. both a c ∙ ap₂ T.plus p q) n f (λ i. h (f i)) (λ i l. refl))

module _ {A : Type 0} (S : Summing A) where
  pub next : (n : ℕ) (f : ℕ → A) → S.total (n + 1) f ≡ S.plus (S.total n f) (f n)
  next n f = ap (λ k. S.total k f) (add-one n) ∙ S.step n f

  pub cong : (n : ℕ) (f g : ℕ → A) → ((i : ℕ) → i < n → f i ≡ g i) → S.total n f ≡ S.total n g
  cong = related S S ◌≡◌ refl (λ a c b d p q. ap₂ S.plus p q)

  idl : (a : A) → S.plus S.none a ≡ a
  idl a = S.comm S.none a ∙ S.idr a

  pub zeros : (n : ℕ) → S.total n (λ i. S.none) ≡ S.none
  zeros zero = S.start (λ i. S.none)
  zeros (suc n) = S.step n (λ i. S.none) ∙ S.idr _ ∙ zeros n

  pub nothing : (n : ℕ) (f : ℕ → A) → ((i : ℕ) → i < n → f i ≡ S.none) → S.total n f ≡ S.none
  nothing n f h = cong n f (λ i. S.none) h ∙ zeros n

  -- b and c change places
  cross : (a b c d : A) → S.plus (S.plus a b) (S.plus c d) ≡ S.plus (S.plus a c) (S.plus b d)
  cross a b c d =
      S.assoc a b (S.plus c d)
      ∙ ap (S.plus a) (sym (S.assoc b c d) ∙ ap (λ x. S.plus x d) (S.comm b c) ∙ S.assoc c b d)
      ∙ sym (S.assoc a c (S.plus b d))

  pub add : (n : ℕ) (f g : ℕ → A) → S.total n (λ i. S.plus (f i) (g i)) ≡ S.plus (S.total n f) (S.total n g)
  add zero f g = S.start _ ∙ sym (ap₂ S.plus (S.start f) (S.start g) ∙ S.idr S.none)
  add (suc n) f g =
      S.step n (λ i. S.plus (f i) (g i))
      ∙ ap (λ x. S.plus x (S.plus (f n) (g n))) (add n f g)
      ∙ cross (S.total n f) (S.total n g) (f n) (g n)
      ∙ sym (ap₂ S.plus (S.step n f) (S.step n g))

  pub exchange : (n m : ℕ) (f : ℕ → ℕ → A) → S.total n (λ i. S.total m (λ j. f i j)) ≡ S.total m (λ j. S.total n (λ i. f i j))
  exchange zero m f = S.start _ ∙ sym (nothing m (λ j. S.total 0 (λ i. f i j)) (λ j l. S.start (λ i. f i j)))
  exchange (suc n) m f =
      S.step n (λ i. S.total m (λ j. f i j))
      ∙ ap (λ x. S.plus x (S.total m (λ j. f n j))) (exchange n m f)
      ∙ sym (add m (λ j. S.total n (λ i. f i j)) (λ j. f n j))
      ∙ cong m (λ j. S.plus (S.total n (λ i. f i j)) (f n j)) (λ j. S.total (suc n) (λ i. f i j)) (λ j l. sym (S.step n (λ i. f i j)))

  pub split : (n k : ℕ) (f : ℕ → A) → S.total (n + k) f ≡ S.plus (S.total n f) (S.total k (λ i. f (n + i)))
  split n zero f =
      ap (λ m. S.total m f) (add-zero n) ∙ sym (ap (S.plus (S.total n f)) (S.start (λ i. f (n + i))) ∙ S.idr (S.total n f))
  split n (suc k) f =
      ap (λ m. S.total m f) (add-suc n k)
      ∙ S.step (n + k) f
      ∙ ap (λ x. S.plus x (f (n + k))) (split n k f)
      ∙ S.assoc (S.total n f) (S.total k (λ i. f (n + i))) (f (n + k))
      ∙ sym (ap (S.plus (S.total n f)) (S.step k (λ i. f (n + i))))

  -- the last two of three change places
  turn : (a b c : A) → S.plus (S.plus a b) c ≡ S.plus (S.plus a c) b
  turn a b c = S.assoc a b c ∙ ap (S.plus a) (S.comm b c) ∙ sym (S.assoc a c b)

  pub change : (n k : ℕ) (f g : ℕ → A) → k < n → ((i : ℕ) → i < n → i ≢ k → f i ≡ g i) → S.plus (S.total n f) (g k) ≡ S.plus (S.total n g) (f k)
  change zero k f g l h = absurd (omega arith)
  change (suc n) k f g l h = elim (ℕ_discrete k n) [
    | yes e ↦ rw e (
        ap (λ x. S.plus x (g n)) (S.step n f ∙ ap (λ x. S.plus x (f n)) (cong n f g (λ i b. h i (omega arith) (omega (arith, e)))))
        ∙ turn (S.total n g) (f n) (g n)
        ∙ ap (λ x. S.plus x (f n)) (sym (S.step n g)))
    | no e ↦
        ap (λ x. S.plus x (g k)) (S.step n f)
        ∙ turn (S.total n f) (f n) (g k)
        ∙ ap₂ S.plus (change n k f g (omega (arith, e)) (λ i b. h i (omega arith))) (h n (omega arith) (λ q. e (sym q)))
        ∙ turn (S.total n g) (f k) (g n)
        ∙ ap (λ x. S.plus x (f k)) (sym (S.step n g))
  ]

  pub alone : (n k : ℕ) (f : ℕ → A) → k < n → ((i : ℕ) → i < n → i ≢ k → f i ≡ S.none) → S.total n f ≡ f k
  alone n k f l h =
      sym (S.idr (S.total n f))
      ∙ change n k f (λ i. S.none) l h
      ∙ ap (λ x. S.plus x (f k)) (zeros n)
      ∙ idl (f k)
