-- The loop keeps: the table has the numbers of the odd sets before k.
use Rattle.std.proofs.Common.{ℕ, ◌≡◌, ◌<◌, length, get_or}
use Rattle.sets.proofs.table_of.Given as goal

abbrev pub invariant-loop-k : goal.invariant-loop-k
invariant-loop-k g l = (length l.table ≡ 16) × ((j : ℕ) → j < l.k → goal.F-post g l.number j (get_or l.table j 0))
