-- What the tests yield, by the first that refuses.
use Rattle.std.specs.Prelude.{Ok, Err}
use Prim.Native.Nat.{ℕ}
use mathlib.Core.Path.{◌≡◌, ap, ◌∙◌}
use mathlib.Core.Bool.{Bool, ◌&&◌}
use mathlib.Core.List.{List, [], ◌∷◌, ◌++◌}
use lib.Dec.{eqb}
use lib.IntN.{ℤ}
use Rattle.graph.specs.declared.Fault.TheVariants.{NotDoubled}
use Rattle.graph.specs.declared.Refusal.{Refusal}
use Rattle.graph.specs.Refusal.{Outcome, refuses, Test, once, passing}
use Rattle.graph.specs.Graph.{Graph, vertices}
use Rattle.graph.specs.Tests.{bounded_tests}
use Rattle.graph.specs.Doubled.{may_double, doubled_test}
use Rattle.checks.proofs.Tests.{part-refuses, part-passes}
use Rattle.dual.specs.PriceGeneral.{price_general}

module _ (g : Graph) (bound : List ℤ) (v e : ℕ) {others : Bool} (told : others ≡ (eqb v (vertices g) && eqb e g.edges)) where
  -- That the graph is doubled is tested last.
  abbrev last : List Test
  last = doubled_test g ∷ []

  whole : passing (bounded_tests g bound others ++ last) (Ok tt) ≡ price_general g bound v e
  unfolding price_general
  whole = ap (λ (b : Bool). passing (bounded_tests g bound b ++ last) (Ok tt)) told

  -- The check r of the tests before it.
  module _ {r : (Outcome (Unit {0}))} (says : r ≡ passing (bounded_tests g bound others) (Ok tt)) where
    pub bounded_refused : {f : Refusal} → r ≡ Err f → refuses f.fault f.place ≡ price_general g bound v e
    bounded_refused is = part-refuses (bounded_tests g bound others) last (Ok tt) says is ∙ whole

    pub doubled-last : r ≡ (Ok tt) → {b : Bool} → b ≡ may_double g.kind g.rows g.edges → {o : Outcome (Unit {0})} →
        o ≡ passing (once NotDoubled b ∷ []) (Ok tt) → o ≡ price_general g bound v e
    doubled-last is can tested =
        part-passes (bounded_tests g bound others) last (Ok tt) says is
        (tested ∙ ap (λ (c : Bool). passing (once NotDoubled c ∷ []) (Ok tt)) can)
        ∙ whole
