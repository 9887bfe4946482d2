-- Finite sums of naturals and of integers.
use Rattle.std.specs.Prelude.{cond, ℕ, zero, suc, ◌+◌, eqb, ℤ, pos, ◌+ℤ◌}

-- The sum of the naturals f 0 .. f (n - 1).
abbrev pub sum : ℕ → (ℕ → ℕ) → ℕ
sum zero f = 0
sum (suc n) f = sum n f + f n

-- The sum of the integers f 0 .. f (n - 1).
abbrev pub sumℤ : ℕ → (ℕ → ℤ) → ℤ
sumℤ zero f = pos 0
sumℤ (suc n) f = sumℤ n f +ℤ f n

-- 1 where i is k, else 0.
abbrev pub is : ℕ → ℕ → ℕ
is i k = cond (eqb i k) 1 0
