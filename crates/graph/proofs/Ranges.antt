-- What the tests of ranges say as orders of numbers.
use Prim.Native.Nat.{ℕ, ◌<◌}
use mathlib.Core.Path.{◌≡◌, refl, ap₂}
use mathlib.Core.Bool.{Bool, true, false, false≢true, ◌&&◌}
use mathlib.Core.List.{List, [], ◌∷◌}
use native.Mathlib.Omega.{arith}
use lib.Dec.{leb, ltb, eqb}
use borrow.Author.Tests.{leb-true, ltb-true, eqb-true}
use Rattle.graph.specs.declared.Kind.{Kind}
use Rattle.graph.specs.declared.Kind.TheVariants.{Bipartite, General}
use Rattle.graph.specs.Graph.{up_to, sizes_in_range, ends_in_range}
use Rattle.graph.specs.Passed.{UpTo, SizesHold, EndsHold}

-- ---- two tests, and a row of them

pub both : (a b : Bool) → a && b ≡ true → (a ≡ true) × (b ≡ true)
both true b e = (refl, e)
both false b e = absurd (false≢true e)

infixl 5 ◌also◌
pub ◌also◌ : {a b : Bool} → a ≡ true → b ≡ true → a && b ≡ true
p also q = ap₂ ◌&&◌ p q

-- A row of tests, written s && t && ..
abbrev pub chain : Bool → List Bool → Bool
chain s [] = s
chain s (t ∷ ts) = chain (s && t) ts

abbrev pub Held : List Bool → Type 0
Held [] = Unit {0}
Held (t ∷ ts) = (t ≡ true) × Held ts

pub held : (s : Bool) (ts : List Bool) → chain s ts ≡ true → (s ≡ true) × Held ts
held s [] e = (e, tt)
held s (t ∷ ts) e = let h = held (s && t) ts e in let w = both s t h.0 in (w.0, (w.1, h.1))

-- ---- ranges

pub up_to-true : (n x : ℕ) → up_to n x ≡ true → UpTo n x
up_to-true n x e =
    let w = both (leb 1 x) (leb x n) e in
    record { least = leb-true 1 x w.0; greatest = leb-true x n w.1 }

-- Sizes in range.
pub sizes_hold : (kind : Kind) (rows columns edges : ℕ) → sizes_in_range kind rows columns edges ≡ true → SizesHold kind rows columns edges
sizes_hold Bipartite rows columns edges e =
    let w = both (up_to 64 rows && up_to 64 columns) (leb edges 1024) e in
    let u = both (up_to 64 rows) (up_to 64 columns) w.0 in
    let r = up_to-true 64 rows u.0 in
    let c = up_to-true 64 columns u.1 in
    record {
      test = e;
      rows = record { least = r.least; greatest = omega arith };
      columns = record { least = c.least; greatest = omega arith };
      order = omega arith;
      few = leb-true edges 1024 w.1;
    }
sizes_hold General rows columns edges e =
    let w = both (up_to 128 rows && eqb columns rows) (leb edges 1024) e in
    let u = both (up_to 128 rows) (eqb columns rows) w.0 in
    let r = up_to-true 128 rows u.0 in
    let s : columns ≡ rows = eqb-true columns rows u.1 in
    record { test = e; rows = r; columns = record { least = omega arith; greatest = omega arith }; order = omega arith; few = leb-true edges 1024 w.1 }

-- Ends in range.
pub ends_hold : (kind : Kind) (rows columns r c : ℕ) → ends_in_range kind rows columns r c ≡ true → EndsHold kind rows columns r c
ends_hold Bipartite rows columns r c e =
    let w = both (up_to rows r) (up_to columns c) e in
    let p = up_to-true rows r w.0 in
    let q = up_to-true columns c w.1 in
    record { test = e; row = p; column = q; in_rows = omega arith; first = omega arith; second = omega arith; apart = λ i. omega arith }
ends_hold General rows columns r c e =
    let w = both (up_to rows r && up_to columns c) (ltb c r) e in
    let u = both (up_to rows r) (up_to columns c) w.0 in
    let p = up_to-true rows r u.0 in
    let q = up_to-true columns c u.1 in
    let l : c < r = ltb-true c r w.1 in
    record { test = e; row = p; column = q; in_rows = omega arith; first = omega arith; second = omega arith; apart = λ i. omega arith }
