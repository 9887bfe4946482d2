-- What the solver's tests yield, by the first that refuses.
use Rattle.std.specs.Prelude.{Ok, Err}
use mathlib.Core.Path.{◌≡◌, sym, ap, ◌∙◌}
use mathlib.Core.Bool.{Bool}
use mathlib.Core.List.{List, [], ◌∷◌, ◌++◌}
use lib.Dec.{eqb}
use lib.IntN.{ℤ}
use lib.ListN.{length}
use Prim.Native.Nat.{ℕ}
use borrow.Author.Tests.{eqb-true}
use Rattle.graph.specs.declared.Refusal.{Refusal}
use Rattle.graph.specs.Limits.{workspace_numbers}
use Rattle.graph.specs.Refusal.{Outcome, refuses, Test, passing}
use Rattle.graph.specs.Graph.{Graph, shape_of, vertices}
use Rattle.graph.specs.Index.{index_numbers, index_test}
use Rattle.graph.specs.Passed.{Sound}
use Rattle.graph.proofs.Ranges.{held}
use Rattle.checks.proofs.Tests.{part-refuses, part-passes}
use Rattle.graph.specs.Tests.{kind_test, bipartite_tests}
use Rattle.lent.proofs.Bounded.{Shown, more_shown}
use Rattle.dual.specs.Solve.{Lent, other_lengths, solve}

module _ (g : Graph) (bound : List ℤ) (index : List ℕ) (lent : Lent) {others : Bool} (told : others ≡ other_lengths (shape_of g) (length index) lent) where
  -- The test of the index is the last.
  abbrev last : List Test
  last = index_test g index ∷ []

  whole : passing (bipartite_tests g bound others ++ last) (Ok tt) ≡ solve g bound index lent
  unfolding solve
  whole = ap (λ (b : Bool). passing (bipartite_tests g bound b ++ last) (Ok tt)) told

  -- The check r of the tests before it.
  module _ {r : (Outcome (Unit {0}))} (says : r ≡ passing (bipartite_tests g bound others) (Ok tt)) where
    pub first_refused : {f : Refusal} → r ≡ Err f → refuses f.fault f.place ≡ solve g bound index lent
    first_refused is = part-refuses (bipartite_tests g bound others) last (Ok tt) says is ∙ whole

    module _ (is : r ≡ (Ok tt)) where
      -- What the test of the index may take for granted.
      pub indexable : Sound (shape_of g) g.row g.column × (length index ≡ index_numbers g)
      indexable =
          let shown : Shown g bound others = more_shown g bound others (kind_test g ∷ []) (Ok tt) tt (sym says ∙ is) in
          let lengths = held (eqb (length index) (index_numbers g))
          (eqb lent.chosen g.edges ∷ eqb lent.vertex_prices (vertices g) ∷ eqb lent.edge_prices g.edges ∷ eqb lent.workspace workspace_numbers ∷ [])
          (sym told ∙ shown.rest) in
          (shown.passed.sound, eqb-true (length index) (index_numbers g) lengths.0)

      pub index_last : {o : Outcome (Unit {0})} → o ≡ passing last (Ok tt) → o ≡ solve g bound index lent
      index_last e = part-passes (bipartite_tests g bound others) last (Ok tt) says is e ∙ whole
