-- What stands at a position of a lent index, and where two lists differ.
use Rattle.std.specs.Prelude.{ℕ, ◌+◌, ◌<◌, ◌≡◌, Bool, true, List, eqb, get_or, set, Option}
use Rattle.graph.specs.Refusal.{lowest}

-- A number stands in a lent index at the next place of vertex v: after its lent offset and the edges counted there. It is counted then.
abbrev pub StandsNext : List ℕ → List ℕ → List ℕ → ℕ → ℕ → ℕ → Bool → Type 0
StandsNext index count new v from number r =
    r ≡ true → (get_or index (from + (get_or index v 0 + get_or count v 0)) 0 ≡ number) × (new ≡ set count v (get_or count v 0 + 1))

-- The offsets of n vertices begin with 0, and each is the one before it and the edges counted there.
pub record AddsUp (index count : List ℕ) (n : ℕ) : Type 0 where
  pub first : get_or index 0 0 ≡ 0
  pub next : (v : ℕ) → v < n → get_or index (v + 1) 0 ≡ get_or index v 0 + get_or count v 0

-- The lowest of the first n positions at which two lists differ is o, if there is one.
pub record LowestUnequal (xs ys : List ℕ) (n : ℕ) (o : Option ℕ) : Type 0 where
  pub is : o ≡ lowest n (λ k. eqb (get_or xs k 0) (get_or ys k 0))
