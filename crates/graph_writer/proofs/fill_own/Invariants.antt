use Rattle.std.proofs.Common.{◌≡◌, ◌<◌, ℕ, length, get_or}
use Rattle.graph_writer.proofs.fill_own.Given as goal

abbrev pub invariant-loop-e : goal.invariant-loop-e
invariant-loop-e l = (length l.order ≡ length l.initial.order) × ((k : ℕ) → k < l.e → get_or l.order k 0 ≡ k)
