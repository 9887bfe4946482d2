use Rattle.std.proofs.Common.{◌≡◌, ℕ, ◌+◌, ◌-◌, Bool, List, length}
use Rattle.std.specs.Fn.{FnReturnsAt}
use Rattle.lines.proofs.Search.{Came, Same}
use Rattle.lines.proofs.find_line.Given as goal

abbrev pub invariant-loop-line : goal.invariant-loop-line
invariant-loop-line g l = record {
  came : Came l.s l.fn.from l.c;
  same : (skip : List ℕ → Bool) → ((x : List ℕ) (b : Bool) → FnReturnsAt g.F.Fn l.skips x b → b ≡ skip x) → Same skip l.s l.fn.from l.c;
}

abbrev pub decreases-loop-line : goal.decreases-loop-line
decreases-loop-line g l = length l.s + 1 - l.c.at
