-- The prices before v have the level taken off, and are in half points.
use Rattle.std.proofs.Common.{ℕ, ◌-◌, ◌<◌, ◌≡◌, pos, length, get_or}
use Rattle.dual.specs.Gap.{half_points}
use Rattle.method.specs.Method.{level}
use Rattle.method.specs.Tree.{entries}
use Rattle.pricing.proofs.vertex_prices.Given as goal

abbrev pub invariant-loop-v : goal.invariant-loop-v
invariant-loop-v l = record {
  long : length l.vertex_price ≡ length l.initial.vertex_price;
  priced : (k : ℕ) → k < l.v → get_or l.vertex_price k (pos 0) ≡ half_points (pos (entries l.price k - level));
}
