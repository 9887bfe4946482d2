-- What the degrees grow by, edge by edge.
use Rattle.std.specs.Prelude.{ℕ, ◌+◌, ◌*◌, ◌<◌, ◌≡◌, List, get_or}
use Rattle.integers.specs.Sum.{is}
use Rattle.graph.specs.Limits.{most_vertices}

-- One more edge with these ends: the degrees grow at them by the mark.
pub record Grown (old new : List ℕ) (first second mark : ℕ) : Type 0 where
  pub each : (v : ℕ) → v < most_vertices → get_or new v 0 ≡ get_or old v 0 + mark * (is first v + is second v)
