-- The loop keeps: the total is the sum of the terms before i.
use Rattle.std.proofs.Common.{ℕ, ◌≡◌, ◌*◌, ◌<◌, ◌≤◌}
use Rattle.integers.proofs.Loops.{Summed}
use Rattle.sets.proofs.sum_of.Given as goal

abbrev pub invariant-loop-i : goal.invariant-loop-i
invariant-loop-i g l =
    (l.total ≤ 64 * l.i)
    × ((f : ℕ → ℕ) (most : ℕ) → ((i x : ℕ) → i < l.n → goal.F-post g l.term i x → (x ≡ f i) × (x ≤ most)) → Summed l.n most f l.i l.total)
