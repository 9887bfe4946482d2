-- The order that a graph's edges stand in is one to write it in, and its text then is the graph's.
use Prim.Native.Nat.{ℕ, ◌≤◌}
use mathlib.Core.Path.{◌≡◌, sym, ◌∙◌, subst}
use mathlib.Core.List.{List}
use native.Mathlib.Omega.{arith}
use lib.ListN.{length, take}
use lib.Seq.{length-take-le, get_or-take}
use Rattle.graph.specs.Limits.{longest_text}
use Rattle.graph.specs.Graph.{Graph}
use Rattle.graph.specs.Passed.{Passed}
use Rattle.layout.specs.GraphText.{graph_text}
use Rattle.layout.specs.TidyText.{graph_in_order}
use Rattle.tidying.proofs.Tidied.{own_order}
use Rattle.writer.specs.Written.{Written}
use Rattle.graph_writer.specs.Order.{Ordered, OwnOrder}

-- The first numbers of a longer list are lent, one for each edge.
module _ {g : Graph} (P : Passed g) (all : List ℕ) (room : g.edges ≤ length all) (own : OwnOrder all) where
  abbrev order : List ℕ
  order = take g.edges all

  long : length order ≡ g.edges
  long = length-take-le g.edges all room

  places : OwnOrder order
  places k l = get_or-take g.edges all k 0 (omega (arith, long)) ∙ own k (omega (arith, long, room))

  same : graph_in_order g order ≡ g
  same = own_order P order long places

  pub own_ordered : Ordered g order
  own_ordered = record { passed = P; places = λ k l. omega (arith, places k l, long); ordered = subst Passed (sym same) P }

  pub own_written : {after : List ℕ} {r : ℕ} → Written longest_text (graph_text (graph_in_order g order)) after r → Written longest_text (graph_text g) after r
  own_written {after} {r} W = subst (λ (h : Graph). Written longest_text (graph_text h) after r) same W
