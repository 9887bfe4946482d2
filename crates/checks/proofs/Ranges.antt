-- The ends that have a flag.
use Prim.Native.Nat.{ℕ}
use mathlib.Core.Path.{◌≡◌}
use mathlib.Core.Bool.{true}
use native.Mathlib.Omega.{arith}
use Rattle.graph.specs.declared.Kind.{Kind}
use Rattle.graph.specs.Graph.{sizes_in_range, ends_in_range}
use Rattle.graph.proofs.Ranges.{sizes_hold, ends_hold}
use Rattle.checks.specs.Checks.{Flagged}

-- Ends in range have a flag.
pub ends_flagged : (kind : Kind) (rows columns edges r c : ℕ) → sizes_in_range kind rows columns edges ≡ true →
    ends_in_range kind rows columns r c ≡ true → Flagged r × Flagged c
ends_flagged kind rows columns edges r c s e =
    let S = sizes_hold kind rows columns edges s in
    let E = ends_hold kind rows columns r c e in (
      record { least = E.row.least; greatest = omega (arith, E.row.greatest, S.rows.greatest) },
      record { least = E.column.least; greatest = omega (arith, E.column.greatest, S.columns.greatest) },
    )
