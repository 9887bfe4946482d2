-- Twice each price before k is the sum of the two prices.
use Rattle.std.proofs.Common.{ℕ, ◌+◌, ◌<◌, ◌≡◌, pos, ◌+ℤ◌, length, get_or}
use Rattle.dual.specs.Gap.{half_points}
use Rattle.doubler.proofs.sum_points.Given as goal

abbrev pub invariant-loop-k : goal.invariant-loop-k
invariant-loop-k l = record {
  long : length l.out ≡ length l.initial.out;
  summed : (j : ℕ) → j < l.k → half_points (get_or l.out j (pos 0)) ≡ get_or l.prices j (pos 0) +ℤ get_or l.prices (length l.initial.out + j) (pos 0);
}
