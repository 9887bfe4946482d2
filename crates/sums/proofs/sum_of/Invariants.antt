-- The loop keeps: the total is the sum of the terms before i.
use Rattle.std.proofs.Common.{ℕ, ℤ, ◌≡◌, ◌*◌, ◌<◌, ◌^◌}
use Rattle.integers.specs.Integer.{Within}
use Rattle.integers.proofs.Loops.{Summedℤ}
use Rattle.sums.proofs.sum_of.Given as goal

abbrev pub invariant-loop-i : goal.invariant-loop-i
invariant-loop-i g l =
    Within (2 ^ 48 * l.i) l.total
    × ((f : ℕ → ℤ) (most : ℕ) → ((i : ℕ) (x : ℤ) → i < l.n → goal.F-post g l.term i x → (x ≡ f i) × Within most x) → Summedℤ l.n most f l.i l.total)
