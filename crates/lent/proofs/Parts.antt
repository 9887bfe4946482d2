-- The first numbers of an array, lent and come back.
use Prim.Native.Nat.{ℕ, zero, suc, ◌-◌, ◌≤◌}
use mathlib.Core.Path.{◌≡◌, sym, ap, ◌∙◌}
use mathlib.Core.List.{List, ◌++◌}
use native.Mathlib.Omega.{arith}
use lib.ListN.{length, take, drop, replicate, length-replicate}
use lib.Seq.{length-take-le, length_front, take_at}

-- The first n numbers of an array.
pub first_long : {N : Type 0} (n : ℕ) (xs : List N) → n ≤ length xs → n ≡ length (take n xs)
first_long n xs fits = sym (length-take-le n xs fits)

-- They were lent and came back as `part`: the array has room for them as before, and they are the part.
pub record PartBack {N : Type 0} (n : ℕ) (xs part : List N) : Type 0 where
  pub room : n ≤ length (part ++ drop n xs)
  pub same : take n (part ++ drop n xs) ≡ part
  pub long : n ≡ length (take n (part ++ drop n xs))

pub came_back : {N : Type 0} (n : ℕ) (xs : List N) {part : List N} → n ≤ length xs → length part ≡ length (take n xs) → PartBack n xs part
came_back n xs {part} fits kept =
    let e = take_at part (drop n xs) n (kept ∙ sym (first_long n xs fits)) in
    record { room = omega (arith, length_front xs part n kept); same = e; long = first_long n xs fits ∙ sym (ap length e ∙ kept) }

-- The first k numbers of an array of zeros.
pub zeros-lent : {N : Type 0} (z : N) (n : ℕ) {k : ℕ} → k ≤ n → k ≡ length (take k (replicate n z))
zeros-lent z n {k} room = first_long k (replicate n z) (omega (arith, length-replicate n z))

-- What is left of an array of zeros after the first k.
pub drop-zeros : {N : Type 0} (z : N) (k n : ℕ) → drop k (replicate n z) ≡ replicate (n - k) z
drop-zeros z zero n = let e : n ≡ n - 0 = omega arith in ap (λ (j : ℕ). replicate j z) e
drop-zeros z (suc k) zero = let e : 0 ≡ 0 - suc k = omega arith in ap (λ (j : ℕ). replicate j z) e
drop-zeros z (suc k) (suc n) = let e : n - k ≡ suc n - suc k = omega arith in drop-zeros z k n ∙ ap (λ (j : ℕ). replicate j z) e
