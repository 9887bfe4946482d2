-- The laws of finite sums of naturals and of integers.
use mathlib.Core.Path.{◌≡◌, refl, sym, ap, ◌∙◌}
use mathlib.Core.Logic.{◌≢◌}
use mathlib.Core.Bool.{Bool, true, false, cond}
use Prim.Native.Nat.{ℕ, zero, suc, ◌+◌, ◌*◌, ◌≤◌, ◌<◌}
use native.Mathlib.Omega.{arith}
use native.Mathlib.Nat.{add-zero, add_comm, add_assoc, mul-zero, mul-one, mul-add}
use lib.Dec.{eqb}
use lib.IntN.{ℤ, pos, neg_ℤ, ◌+ℤ◌, ◌-ℤ◌, ◌*ℤ◌, +ℤ_idr, +ℤ_comm, +ℤ_assoc, *ℤ-zero, neg_ℤ-+ℤ}
use lib.Signed.{◌≤ℤ◌, ≤ℤ_refl}
use borrow.Author.Tests.{eq-eqb, ne_eqb}
use Rattle.integers.specs.Sum.{sum, sumℤ, is}
use Rattle.integers.proofs.Order.{zero_times, one-times, add-le}
use Rattle.integers.proofs.Diff.{times_add}
use Rattle.integers.proofs.Total as total
use Rattle.integers.proofs.Total.{Summing, related, image}

-- ---- the indicator

pub is_same : (k : ℕ) → is k k ≡ 1
is_same k = rw (eq-eqb k k refl)

pub is-other : (i k : ℕ) → i ≢ k → is i k ≡ 0
is-other i k h = rw (ne_eqb i k h)

pub is_le : (i k : ℕ) → is i k ≤ 1
is_le i k = go (eqb i k)
  where
    go : (b : Bool) → cond b 1 0 ≤ 1
    go true = omega arith
    go false = omega arith

-- ---- the naturals

abbrev natural_sums : Summing ℕ
natural_sums = record {
  plus = ◌+◌;
  none = 0;
  assoc = add_assoc;
  comm = add_comm;
  idr = add-zero;
  total = sum;
  start = λ f. refl;
  step = λ n f. refl;
}

pub sum-next : (n : ℕ) (f : ℕ → ℕ) → sum (n + 1) f ≡ sum n f + f n
sum-next = total.next natural_sums

pub sum-cong : (n : ℕ) (f g : ℕ → ℕ) → ((i : ℕ) → i < n → f i ≡ g i) → sum n f ≡ sum n g
sum-cong = total.cong natural_sums

pub sum_mono : (n : ℕ) (f g : ℕ → ℕ) → ((i : ℕ) → i < n → f i ≤ g i) → sum n f ≤ sum n g
sum_mono = related natural_sums natural_sums ◌≤◌ (omega arith) (λ a c b d h k. omega arith)

pub sum-add : (n : ℕ) (f g : ℕ → ℕ) → sum n (λ i. f i + g i) ≡ sum n f + sum n g
sum-add = total.add natural_sums

pub sum-scale : (n k : ℕ) (f : ℕ → ℕ) → sum n (λ i. k * f i) ≡ k * sum n f
sum-scale n k f = image natural_sums natural_sums (λ a. k * a) (mul-zero k) (mul-add k) n f

pub sum-split : (n k : ℕ) (f : ℕ → ℕ) → sum (n + k) f ≡ sum n f + sum k (λ i. f (n + i))
sum-split = total.split natural_sums

pub sum-none : (n : ℕ) (f : ℕ → ℕ) → ((i : ℕ) → i < n → f i ≡ 0) → sum n f ≡ 0
sum-none = total.nothing natural_sums

pub sum-change : (n k : ℕ) (f g : ℕ → ℕ) → k < n → ((i : ℕ) → i < n → i ≢ k → f i ≡ g i) → sum n f + g k ≡ sum n g + f k
sum-change = total.change natural_sums

pub sum-alone : (n k : ℕ) (f : ℕ → ℕ) → k < n → ((i : ℕ) → i < n → i ≢ k → f i ≡ 0) → sum n f ≡ f k
sum-alone = total.alone natural_sums

pub sum-at : (n k : ℕ) (f : ℕ → ℕ) → k < n → sum n (λ i. f i * is k i) ≡ f k
sum-at n k f l =
    sum-alone n k (λ i. f i * is k i) l (λ i b e. ap (λ a. f i * a) (is-other k i (λ q. e (sym q))) ∙ mul-zero (f i))
    ∙ ap (λ a. f k * a) (is_same k)
    ∙ mul-one (f k)

pub sum-const : (n k : ℕ) → sum n (λ i. k) ≡ n * k
sum-const zero k = omega arith
sum-const (suc n) k = omega (arith, sum-const n k)

pub sum-term : (n k : ℕ) (f : ℕ → ℕ) → k < n → f k ≤ sum n f
sum-term n k f l = omega (arith, sum-at n k f l, sum_mono n (λ i. f i * is k i) f (λ i b. go (f i) (eqb k i)))
  where
    go : (a : ℕ) (b : Bool) → a * cond b 1 0 ≤ a
    go a true = omega arith
    go a false = omega arith

-- ---- the integers

abbrev integer_sums : Summing ℤ
integer_sums = record {
  plus = ◌+ℤ◌;
  none = pos 0;
  assoc = +ℤ_assoc;
  comm = +ℤ_comm;
  idr = +ℤ_idr;
  total = sumℤ;
  start = λ f. refl;
  step = λ n f. refl;
}

pub sumℤ-next : (n : ℕ) (f : ℕ → ℤ) → sumℤ (n + 1) f ≡ sumℤ n f +ℤ f n
sumℤ-next = total.next integer_sums

pub sumℤ-cong : (n : ℕ) (f g : ℕ → ℤ) → ((i : ℕ) → i < n → f i ≡ g i) → sumℤ n f ≡ sumℤ n g
sumℤ-cong = total.cong integer_sums

pub sumℤ-add : (n : ℕ) (f g : ℕ → ℤ) → sumℤ n (λ i. f i +ℤ g i) ≡ sumℤ n f +ℤ sumℤ n g
sumℤ-add = total.add integer_sums

pub sumℤ-neg : (n : ℕ) (f : ℕ → ℤ) → sumℤ n (λ i. neg_ℤ (f i)) ≡ neg_ℤ (sumℤ n f)
sumℤ-neg = image integer_sums integer_sums neg_ℤ refl neg_ℤ-+ℤ

pub sumℤ-diff : (n : ℕ) (f g : ℕ → ℤ) → sumℤ n (λ i. f i -ℤ g i) ≡ sumℤ n f -ℤ sumℤ n g
sumℤ-diff n f g = sumℤ-add n f (λ i. neg_ℤ (g i)) ∙ ap (λ z. sumℤ n f +ℤ z) (sumℤ-neg n g)

pub sumℤ-scale : (n : ℕ) (c : ℤ) (f : ℕ → ℤ) → sumℤ n (λ i. c *ℤ f i) ≡ c *ℤ sumℤ n f
sumℤ-scale n c f = image integer_sums integer_sums (λ z. c *ℤ z) (*ℤ-zero c) (times_add c) n f

pub sumℤ-split : (n k : ℕ) (f : ℕ → ℤ) → sumℤ (n + k) f ≡ sumℤ n f +ℤ sumℤ k (λ i. f (n + i))
sumℤ-split = total.split integer_sums

pub sumℤ-swap : (n m : ℕ) (f : ℕ → ℕ → ℤ) → sumℤ n (λ i. sumℤ m (λ j. f i j)) ≡ sumℤ m (λ j. sumℤ n (λ i. f i j))
sumℤ-swap = total.exchange integer_sums

pub sumℤ-none : (n : ℕ) (f : ℕ → ℤ) → ((i : ℕ) → i < n → f i ≡ pos 0) → sumℤ n f ≡ pos 0
sumℤ-none = total.nothing integer_sums

pub sumℤ-alone : (n k : ℕ) (f : ℕ → ℤ) → k < n → ((i : ℕ) → i < n → i ≢ k → f i ≡ pos 0) → sumℤ n f ≡ f k
sumℤ-alone = total.alone integer_sums

pub sumℤ-at : (n k : ℕ) (f : ℕ → ℤ) → k < n → sumℤ n (λ i. pos (is k i) *ℤ f i) ≡ f k
sumℤ-at n k f l =
    sumℤ-alone n k (λ i. pos (is k i) *ℤ f i) l (λ i b e. ap (λ a. pos a *ℤ f i) (is-other k i (λ q. e (sym q))) ∙ zero_times (f i))
    ∙ ap (λ a. pos a *ℤ f k) (is_same k)
    ∙ one-times (f k)

pub sumℤ-nonneg : (n : ℕ) (f : ℕ → ℤ) → ((i : ℕ) → i < n → pos 0 ≤ℤ f i) → pos 0 ≤ℤ sumℤ n f
sumℤ-nonneg n f = related integer_sums integer_sums (λ a b. pos 0 ≤ℤ b) (≤ℤ_refl (pos 0)) (λ a c b d h k. add-le h k) n f f

-- ---- the two sums joined

pub sumℤ-pos : (n : ℕ) (f : ℕ → ℕ) → sumℤ n (λ i. pos (f i)) ≡ pos (sum n f)
sumℤ-pos = image natural_sums integer_sums pos refl (λ a b. refl)
