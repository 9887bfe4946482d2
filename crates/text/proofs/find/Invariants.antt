use Rattle.std.proofs.Common.{◌≡◌, ℕ, Bool, not}
use Rattle.text.proofs.Scans.{Scan}
use Rattle.text.proofs.find.Given as goal

abbrev pub invariant-loop-i : goal.invariant-loop-i
invariant-loop-i g l = (p : ℕ → Bool) → ((x : ℕ) (b : Bool) → goal.F-post g l.stops x b → p x ≡ not b) → Scan p l.s l.from l.i
