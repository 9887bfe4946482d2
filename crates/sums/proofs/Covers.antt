-- The cover of an edge by its ends.
use Prim.Native.Nat.{ℕ}
use mathlib.Core.Path.{◌≡◌, ap₂, ◌∙◌}
use lib.IntN.{ℤ, pos, ◌+ℤ◌, ◌*ℤ◌}
use Rattle.integers.specs.Sum.{sumℤ}
use Rattle.dual.specs.Sets.{one}
use Rattle.dual.specs.Prices.{Prices, vertex_price, edge_price, set_price}
use Rattle.sets.specs.Words.{covers_by}

-- The cover of edge e, whose ends are f and t, as `cover_of` says.
abbrev pub cover_by : Prices → ℕ → ℕ → ℕ → ℤ
cover_by P e f t =
    vertex_price P f +ℤ vertex_price P t +ℤ edge_price P e
    +ℤ sumℤ P.sets (λ k. pos (one (covers_by P.marks k e f t)) *ℤ set_price P k)

pub cover_at : (P : Prices) (e : ℕ) {f t a b : ℕ} {r : ℤ} → (f ≡ a) × (t ≡ b) → r ≡ cover_by P e f t → r ≡ cover_by P e a b
cover_at P e p h = h ∙ ap₂ (cover_by P e) p.0 p.1
