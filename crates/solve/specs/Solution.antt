-- What is left of a problem that is read, once it is indexed and solved, or refused.
use Rattle.std.specs.Prelude.{ℕ, ◌≡◌, List, ℤ}
use Rattle.graph.specs.Graph.{Graph}
use Rattle.graph.specs.Subgraph.{Optimal}
use Rattle.layout.specs.SubgraphText.{subgraph_text}
use Rattle.report.specs.Report.{Composed}
use Rattle.report.specs.Programs.{Run, has, and_then, written, subgraph_room}

-- A buffer is left with the text of an optimal subgraph, or the line of the refusal that ends the run R, and r is its length.
pub record Solution (g : Graph) (bound : List ℤ) (R : Run (Unit {0})) (before after : List ℕ) (r : ℕ) : Type 0 where
  pub chosen : List ℕ
  pub optimal : R ≡ has tt → Optimal g bound chosen
  pub composed : Composed subgraph_room (written (λ h. subgraph_text h chosen) (and_then R (λ u. has g))) before after r
