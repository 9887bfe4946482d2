-- What the call yields, by the first test that refuses; and that the tidy order is one to write a graph in.
use Rattle.graph.specs.Refusal.{Outcome}
use Rattle.std.specs.Prelude.{Ok, Err}
use Prim.Native.Nat.{ℕ}
use mathlib.Core.Path.{◌≡◌, sym, ◌∙◌, subst}
use mathlib.Core.Bool.{true}
use mathlib.Core.List.{List}
use lib.Dec.{eqb}
use borrow.Author.Tests.{eqb-true}
use Rattle.graph.specs.declared.Refusal.{Refusal}
use Rattle.graph.specs.Limits.{longest_text}
use Rattle.graph.specs.Refusal.{refuses, passing}
use Rattle.graph.specs.Graph.{Graph}
use Rattle.graph.specs.Passed.{Passed}
use Rattle.checks.proofs.Refusals.{checked_passed, checked_refused}
use Rattle.lent.proofs.Lengths.{lent_passed}
use Rattle.layout.specs.GraphText.{graph_text}
use Rattle.layout.specs.TidyText.{tidy_order, graph_in_order, tidy_text, tidy_tests, tidy_graph}
use Rattle.tidying.proofs.Order.{order_in}
use Rattle.tidying.proofs.Tidied.{tidied-passed}
use Rattle.writer.specs.Written.{Written}
use Rattle.graph_writer.specs.Order.{Ordered}

-- The tests have answered r.
module _ (g : Graph) (n : ℕ) {r : (Outcome (Unit {0}))} (says : r ≡ passing (tidy_tests g n) (Ok tt)) where
  pub refused : {f : Refusal} → r ≡ Err f → tidy_graph g n ≡ refuses f.fault f.place
  unfolding tidy_graph
  refused is = checked_refused (tidy_tests g n) (Ok (tidy_text g)) says is

  module _ (is : r ≡ (Ok tt)) where
    shown : Passed g × (eqb n longest_text ≡ true)
    shown = lent_passed g (eqb n longest_text) (Ok tt) tt (sym says ∙ is)

    pub passed : Passed g
    passed = shown.0

    pub size : n ≡ longest_text
    size = eqb-true n longest_text shown.1

    pub yielded : tidy_graph g n ≡ Ok (tidy_text g)
    unfolding tidy_graph
    yielded = checked_passed (tidy_tests g n) (Ok (tidy_text g)) says is

-- The edges in tidy order are an order that they may be written in, also from the front of the array that it came back in.
module _ {g : Graph} (P : Passed g) {order : List ℕ} (is : order ≡ tidy_order g) where
  pub tidy_ordered : Ordered g order
  tidy_ordered =
      subst (Ordered g) (sym is) (record { passed = P; places = order_in g; ordered = tidied-passed P })

  pub tidy_written : {after : List ℕ} {r : ℕ} → Written longest_text (graph_text (graph_in_order g order)) after r → Written longest_text (tidy_text g) after r
  tidy_written {after} {r} W = subst (λ (es : List ℕ). Written longest_text (graph_text (graph_in_order g es)) after r) is W
