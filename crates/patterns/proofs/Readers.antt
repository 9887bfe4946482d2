-- What the readers yield: where what is lent and the text are as long as they should be, just what is read of the lines.
use Rattle.std.specs.Prelude.{Ok}
use mathlib.Core.Path.{◌≡◌, refl, ◌∙◌}
use mathlib.Core.Logic.{◌↔◌}
use mathlib.Core.Bool.{true, ◌&&◌}
use mathlib.Core.List.{List, [], ◌∷◌}
use Prim.Native.Nat.{ℕ}
use native.Mathlib.Omega.{arith}
use lib.Dec.{eqb}
use borrow.Author.Tests.{eq-eqb}
use Rattle.graph.specs.declared.Fault.TheVariants.{TextLength, LentLength}
use Rattle.graph.specs.Limits.{most_edges}
use Rattle.graph.specs.Refusal.{once}
use Rattle.graph.specs.Graph.{Graph}
use Rattle.graph.specs.Tests.{graph_lengths, graph_tests}
use Rattle.graph.specs.Passed.{Passed}
use Rattle.graph.proofs.Passing.{passes, pass, passes_split, passes_join}
use Rattle.graph.proofs.Passed.{graph_passed, passed_lengths, passed_tests}
use Rattle.graph.proofs.Ranges.{both, ◌also◌}
use Rattle.layout.specs.declared.Rules.{Rules}
use Rattle.layout.specs.declared.Field.{Field}
use Rattle.layout.specs.declared.Field.TheVariants as Field
use Rattle.layout.specs.Text.{text_fits}
use Rattle.layout.specs.Lines.{read_text}
use Rattle.layout.specs.GraphText.{graph_layout, graph_reader_tests, read_graph_by}
use Rattle.layout.specs.SubgraphText.{subgraph_layout, subgraph_reader_tests, read_subgraph_by}
use Rattle.patterns.proofs.Patterns.{pattern_law}

-- ---- graphs

pub graph-read : (rules : Rules) (field : Field) (text : List ℕ) (g : Graph) →
    (read_graph_by rules field most_edges most_edges most_edges text ≡ Ok g) ↔ ((text_fits text ≡ true) × (read_text (graph_layout rules field) text ≡ Ok g))
unfolding read_graph_by
graph-read rules field text g = (
  λ h. let r = passes (graph_reader_tests most_edges most_edges most_edges text) (read_text (graph_layout rules field) text) g h in (r.0.1.0 0 (omega arith), r.1),
  λ (fits, h).
      pass (graph_reader_tests most_edges most_edges most_edges text) (λ k l. refl, (λ k l. fits, tt)) (read_text (graph_layout rules field) text) ∙ h,
)

-- ---- subgraphs

pub subgraph_read : (rules : Rules) (g : Graph) (text : List ℕ) (x : List ℕ) →
    (read_subgraph_by rules g g.edges text ≡ Ok x) ↔ (Passed g × (text_fits text ≡ true) × (read_text (subgraph_layout rules g) text ≡ Ok x))
unfolding read_subgraph_by
subgraph_read rules g text x = (
  λ h.
      let numbers = once LentLength (graph_lengths g && eqb g.edges g.edges) ∷ graph_tests g in
      let r = passes (subgraph_reader_tests g g.edges text) (read_text (subgraph_layout rules g) text) x h in
      let t = passes_split numbers (once TextLength (text_fits text) ∷ []) r.0 in
      (graph_passed g (both (graph_lengths g) (eqb g.edges g.edges) (t.0.0 0 (omega arith))).0 t.0.1, t.1.0 0 (omega arith), r.1),
  λ (P, fits, h).
      pass (subgraph_reader_tests g g.edges text)
      (passes_join (once LentLength (graph_lengths g && eqb g.edges g.edges) ∷ graph_tests g) (once TextLength (text_fits text) ∷ [])
      (λ k l. passed_lengths P also eq-eqb g.edges g.edges refl, passed_tests P) (λ k l. fits, tt)) (read_text (subgraph_layout rules g) text)
      ∙ h,
)

-- A text is taken as a subgraph of some graph just where it is taken as a graph without weights.
pub plan_of_some_graph : (rules : Rules) (text : List ℕ) →
    ((g : Graph) × (x : List ℕ) × (read_subgraph_by rules g g.edges text ≡ Ok x)) ↔
    ((p : Graph) × (read_graph_by rules Field.Pattern most_edges most_edges most_edges text ≡ Ok p))
plan_of_some_graph rules text = (
  λ (g, x, h).
      let r = (subgraph_read rules g text x).0 h in
      let p = (pattern_law rules text).0 (g, x, r.0, r.2) in
      (p.0, (graph-read rules Field.Pattern text p.0).1 (r.1, p.1)),
  λ (p, h).
      let r = (graph-read rules Field.Pattern text p).0 h in
      let s = (pattern_law rules text).1 (p, r.1) in
      (s.0, s.1, (subgraph_read rules s.0 text s.1).1 (s.2, r.0, s.3)),
)
