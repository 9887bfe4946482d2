-- A text is the text of a subgraph (plan) of some graph just where it is the text of a graph without weights.
use Rattle.std.specs.Prelude.{Ok}
use mathlib.Core.Path.{◌≡◌}
use mathlib.Core.Logic.{◌↔◌}
use mathlib.Core.List.{List}
use Prim.Native.Nat.{ℕ}
use lib.ListN.{replicate}
use Rattle.graph.specs.Graph.{Graph}
use Rattle.graph.specs.Passed.{Passed}
use Rattle.layout.specs.declared.Rules.{Rules}
use Rattle.layout.specs.declared.Field.TheVariants as Field
use Rattle.layout.specs.Lines.{read_text}
use Rattle.layout.specs.GraphText.{graph_layout}
use Rattle.layout.specs.SubgraphText.{subgraph_layout}
use Rattle.patterns.proofs.Texts.{text_passes}
use Rattle.patterns.proofs.Unmarked.{subgraph_unmarked}
use Rattle.patterns.proofs.AllMarked.{pattern_marked}

-- Of the lines alone.
pub pattern_law : (rules : Rules) (text : List ℕ) →
    ((g : Graph) × (x : List ℕ) × Passed g × (read_text (subgraph_layout rules g) text ≡ Ok x)) ↔
    ((p : Graph) × (read_text (graph_layout rules Field.Pattern) text ≡ Ok p))
pattern_law rules text = (
  λ t. subgraph_unmarked rules t.0 text t.1 t.3,
  λ t. (t.0, replicate t.0.edges 1, text_passes rules Field.Pattern text t.0 t.1, pattern_marked rules text t.0 t.1),
)
