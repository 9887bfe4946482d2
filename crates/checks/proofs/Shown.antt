-- What the tests on a graph show on the way.
use Rattle.std.specs.Prelude.{Option, Some, Ok}
use Prim.Native.Nat.{ℕ, ◌^◌, ◌<◌}
use mathlib.Core.Path.{◌≡◌, sym, ◌∙◌}
use mathlib.Core.Bool.{Bool, true}
use mathlib.Core.List.{List, [], ◌∷◌}
use native.Mathlib.Omega.{arith}
use lib.ListN.{length, get_or}
use Rattle.graph.specs.declared.Shape.{Shape}
use Rattle.graph.specs.declared.Fault.TheVariants.{Sizes, Ends}
use Rattle.graph.specs.Refusal.{Outcome, once, each, lowest, passing}
use Rattle.graph.specs.Graph.{shape_in_range, ends_in_range}
use Rattle.graph.proofs.Ranges.{sizes_hold}
use Rattle.graph.proofs.Passing.{lowest-none, lowest-some}
use Rattle.checks.specs.Checks.{Flagged}
use Rattle.checks.proofs.Ranges.{ends_flagged}
use Rattle.checks.proofs.Tests.{once_kept, each_kept}

-- The sizes' test has been made and passed.
module _ (s : Shape) {b : Bool} {r : Outcome (Unit {0})} (says : b ≡ shape_in_range s) (made : r ≡ passing (once Sizes b ∷ []) (Ok tt)) (was : r ≡ Ok tt) where
  sizes : shape_in_range s ≡ true
  sizes = sym says ∙ once_kept was Sizes b made

  -- An edge that is refused is one of 1,024.
  pub among : (n : ℕ) (f : ℕ → Bool) {o : Option ℕ} → n ≡ s.edges → o ≡ lowest n f → (k : ℕ) → o ≡ Some k → k < 2 ^ 40
  among n f l e k i = omega (arith, (sizes_hold s.kind s.rows s.columns s.edges sizes).few, (lowest-some n f k (sym e ∙ i)).among)

  -- After the ends' test each edge has a flag.
  module _ (row column : List ℕ) where
    abbrev in_range : ℕ → Bool
    in_range e = ends_in_range s.kind s.rows s.columns (get_or row e 0) (get_or column e 0)

    pub flagged : {o : Option ℕ} {t : Outcome (Unit {0})} → o ≡ lowest (length row) in_range →
        ((n : ℕ) (keeps : ℕ → Bool) → o ≡ lowest n keeps → t ≡ passing (each Ends n keeps ∷ []) (Ok tt)) → t ≡ Ok tt →
        (e : ℕ) → e < length row → Flagged (get_or row e 0) × Flagged (get_or column e 0)
    flagged found say pass e l =
        ends_flagged s.kind s.rows s.columns s.edges (get_or row e 0) (get_or column e 0) sizes
        (lowest-none (length row) in_range (each_kept pass Ends (length row) in_range (say (length row) in_range found)) e l)
