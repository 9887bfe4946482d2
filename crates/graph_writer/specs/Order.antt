-- The orders that a graph's edges may be written in.
use Rattle.std.specs.Prelude.{ℕ, ◌<◌, ◌≡◌, List, length, get_or}
use Rattle.graph.specs.Graph.{Graph}
use Rattle.graph.specs.Passed.{Passed}
use Rattle.layout.specs.TidyText.{graph_in_order}

-- A graph has passed the tests, each number of the order is an edge of it, and it passes in this order too.
pub record Ordered (g : Graph) (order : List ℕ) : Type 0 where
  pub passed : Passed g
  pub places : (k : ℕ) → k < length order → get_or order k 0 < g.edges
  pub ordered : Passed (graph_in_order g order)

-- Each number is its own place: the order that the edges stand in.
abbrev pub OwnOrder : List ℕ → Type 0
OwnOrder order = (k : ℕ) → k < length order → get_or order k 0 ≡ k
