-- What `put_number` writes.
use mathlib.Core.Path.{sym}
use mathlib.Core.List.{List}
use Prim.Native.Nat.{ℕ, ◌+◌, ◌/◌, ◌%◌, ◌^◌, ◌≤◌, ◌<◌}
use native.Mathlib.Nat.{lt_of_lt_of_le}
use native.Mathlib.Omega.{arith}
use lib.Dec.{lit≤}
use lib.ListN.{length, set}
use Rattle.layout.specs.Text.{decimal}
use Rattle.readback.proofs.Digits.{tenth, decimal-short, decimal-long, decimal-few}
use Rattle.digits.specs.Puts.{Puts}
use Rattle.digits.proofs.Over.{puts_none, puts_byte, puts_same}

-- A number below 2 ^ 32 has at most 10 digits.
pub ten_digits : (n : ℕ) → n < 2 ^ 32 → length (decimal n) ≤ 10
ten_digits n h = decimal-few 9 n (lt_of_lt_of_le h (lit≤ tt))

below_twenty : (n : ℕ) → n < 2 ^ 64 → n < 10 ^ 20
below_twenty n h = lt_of_lt_of_le h (lit≤ tt)

-- One below 2 ^ 64 has at most 20, and its tenth at most 19.
pub twenty_digits : (n : ℕ) → n < 2 ^ 64 → length (decimal n) ≤ 20
twenty_digits n h = decimal-few 19 n (below_twenty n h)

tenth_digits : (n : ℕ) → n < 2 ^ 64 → length (decimal (n / 10)) ≤ 19
tenth_digits n h = decimal-few 18 (n / 10) (tenth 19 n (below_twenty n h))

pub number_short : (d : List ℕ) (n : ℕ) → 20 ≤ length d → n < 10 → Puts d 0 (decimal n) (set d 0 (48 + n)) 1
number_short d n h k = puts_same (puts_byte (puts_none d 0) (48 + n) (omega arith)) (sym (decimal-short n k))

module _ {d after : List ℕ} {n k : ℕ} (p : Puts d 0 (decimal (n / 10)) after k) (small : n < 2 ^ 64) where
  pub number_at : k ≤ 19
  number_at = omega (arith, p.place, tenth_digits n small)

  pub number_long : 20 ≤ length d → 10 ≤ n → Puts d 0 (decimal n) (set after k (48 + n % 10)) (k + 1)
  number_long h t =
      puts_same (puts_byte p (48 + n % 10) (omega (arith, tenth_digits n small))) (sym (decimal-long n t (below_twenty n small)))
