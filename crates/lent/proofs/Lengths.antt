-- What the test of the lent lengths shows.
use Rattle.std.specs.Prelude.{Ok}
use mathlib.Core.Path.{◌≡◌}
use mathlib.Core.Bool.{Bool, true, ◌&&◌}
use mathlib.Core.List.{[], ◌∷◌}
use lib.Dec.{eqb}
use lib.ListN.{length}
use borrow.Author.Tests.{eqb-true}
use Rattle.graph.specs.declared.Fault.TheVariants.{LentLength}
use Rattle.graph.specs.Refusal.{Outcome, once, passing}
use Rattle.graph.specs.Graph.{Graph}
use Rattle.graph.specs.Tests.{graph_lengths, graph_tests}
use Rattle.graph.specs.Passed.{Passed}
use Rattle.graph.proofs.Passing.{once-yields}
use Rattle.graph.proofs.Passed.{yields_passed}
use Rattle.graph.proofs.Ranges.{both, held}

-- What is lent of the graph is as long as the number of edges passed.
pub lengths_hold : (g : Graph) → graph_lengths g ≡ true → (length g.row ≡ g.edges) × (length g.column ≡ g.edges) × (length g.weight ≡ g.edges)
lengths_hold g e =
    let h = held (eqb (length g.row) g.edges) (eqb (length g.column) g.edges ∷ eqb (length g.weight) g.edges ∷ []) e in
    (eqb-true (length g.row) g.edges h.0, eqb-true (length g.column) g.edges h.1.0, eqb-true (length g.weight) g.edges h.1.1.0)

-- Where something is yielded after the tests, the graph has passed, and so have the other lengths that were tested with it.
pub lent_passed : {A : Type 0} (g : Graph) (others : Bool) (o : Outcome A) (a : A) →
    passing (once LentLength (graph_lengths g && others) ∷ graph_tests g) o ≡ Ok a → Passed g × (others ≡ true)
lent_passed g others o a e =
    let w = once-yields LentLength (graph_lengths g && others) (graph_tests g) o a e in
    let h = both (graph_lengths g) others w.0 in
    (yields_passed g o a h.0 w.1, h.1)
