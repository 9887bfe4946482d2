-- The three arrays, of 1,024 numbers, that a graph is read into from a text of whichever layout.
use Rattle.std.specs.Prelude.{Ok}
use Prim.Native.Nat.{ℕ}
use mathlib.Core.Path.{◌≡◌, sym, ap, ◌∙◌, subst}
use mathlib.Core.Bool.{true}
use mathlib.Core.List.{List}
use lib.IntN.{ℤ, pos}
use lib.ListN.{length}
use Rattle.graph.specs.declared.Shape.{Shape}
use Rattle.graph.specs.Refusal.{Outcome, reported, output}
use Rattle.graph.specs.Graph.{Graph, shape_of, shape_in_range}
use Rattle.graph.specs.Tests.{graph_lengths}
use Rattle.graph.specs.Passed.{SizesHold}
use Rattle.graph.proofs.Ranges.{sizes_hold}
use Rattle.layout.specs.declared.Rules.TheVariants.{New}
use Rattle.layout.specs.declared.Field.TheVariants as Field
use Rattle.layout.specs.GraphText.{read_graph}
use Rattle.report.specs.declared.Source.TheVariants as Source
use Rattle.report.specs.Programs.{came_from}
use Rattle.problem_reader.proofs.Kept.{graph_whole, graph_yielded}
use Rattle.problem_reader.proofs.Lent.{stored_graph, stored_is, lent_edges, weights_lent, edges_lent, weights-lent, lengths_lent}

-- They have room for the graph that is yielded, and hold it.
pub record GraphStored (o : Outcome Graph) (s : Shape) (row column : List ℕ) (weight : List ℤ) : Type 0 where
  pub sizes : SizesHold s.kind s.rows s.columns s.edges
  pub row_long : length row ≡ 1024
  pub column_long : length column ≡ 1024
  pub weight_long : length weight ≡ 1024
  pub same : o ≡ Ok (stored_graph s row column weight)

-- The reader, which yields o, has answered s.
module _ {o : Outcome Graph} (whole : (g : Graph) → o ≡ Ok g → (graph_lengths g ≡ true) × (shape_in_range (shape_of g) ≡ true))
    {a : (Outcome Shape)} (says : a ≡ reported shape_of o) {s : Shape} (is : a ≡ Ok s) where
  pub sizes_told : SizesHold s.kind s.rows s.columns s.edges
  sizes_told =
      let y = graph_yielded says is in
      subst (λ (t : Shape). SizesHold t.kind t.rows t.columns t.edges) y.told
      (sizes_hold y.value.kind y.value.rows y.value.columns y.value.edges (whole y.value y.yielded).1)

  pub graph_stored : {row column : List ℕ} {weight : List ℤ}
      → row ≡ output lent_edges 0 (λ g. g.row) o → column ≡ output lent_edges 0 (λ g. g.column) o → weight ≡ output weights_lent (pos 0) (λ g. g.weight) o
      → length row ≡ lent_edges → length column ≡ lent_edges → length weight ≡ weights_lent → GraphStored o s row column weight
  graph_stored rows columns weights row-long column-long weight-long =
      let y = graph_yielded says is in
      let g = y.value in
      let e = y.yielded in
      let w = whole g e in
      let stored = stored_is g s lent_edges weights_lent w.0 y.told (rows ∙ ap (output lent_edges 0 (λ h. h.row)) e)
      (columns ∙ ap (output lent_edges 0 (λ h. h.column)) e) (weights ∙ ap (output weights_lent (pos 0) (λ h. h.weight)) e) in
      record {
        sizes = sizes_told;
        row_long = row-long ∙ edges_lent;
        column_long = column-long ∙ edges_lent;
        weight_long = weight-long ∙ weights-lent;
        same = e ∙ ap Ok (sym stored);
      }

-- ---- a sheet that is read alone

-- What its reader yields, by the arrays that it is lent.
abbrev pub lent_graph : List ℕ → Outcome Graph
lent_graph sheet = read_graph lent_edges lent_edges weights_lent sheet

module _ (sheet : List ℕ) where
  pub sheet-whole : (g : Graph) → lent_graph sheet ≡ Ok g → (graph_lengths g ≡ true) × (shape_in_range (shape_of g) ≡ true)
  sheet-whole = graph_whole New Field.Integer lent_edges lent_edges weights_lent sheet

  -- How far the program comes with it.
  pub sheet-came : {o : Outcome Graph} → lent_graph sheet ≡ o → came_from Source.Sheet o ≡ came_from Source.Sheet (read_graph 1024 1024 1024 sheet)
  sheet-came is = ap (came_from Source.Sheet) (sym is ∙ lengths_lent (λ r c w b. read_graph r c w sheet))
