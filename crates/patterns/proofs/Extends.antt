-- A graph that is read goes on from what was read: it has the same shape, and the same edges first.
use mathlib.Core.Path.{◌≡◌, refl, sym, ap, ◌∙◌}
use mathlib.Core.List.{List, [], ◌∷◌, ◌++◌, append-nil, append_assoc}
use Prim.Native.Nat.{ℕ}
use lib.IntN.{ℤ}
use lib.ListN.{length, get_or}
use lib.Seq.{append_snoc, get_or_at}
use Rattle.graph.specs.declared.Kind.{Kind}
use Rattle.graph.specs.declared.Shape.{Shape}
use Rattle.graph.specs.Graph.{Graph, shape_of, row_at, column_at}
use Rattle.layout.specs.declared.Rules.{Rules}
use Rattle.layout.specs.declared.Field.{Field}
use Rattle.layout.specs.Text.{words, natural, three_words}
use Rattle.layout.specs.Lines.{sizing, reading}
use Rattle.layout.specs.GraphText.{with_edge, edge_on, graph_layout}
use Rattle.readback.proofs.Trace.{Reads, done, skipped, by_size, blank-line, by_line}
use Rattle.patterns.proofs.Edges.{sizes-read, edge_read}

pub record Extends (q p : Graph) : Type 0 where
  pub shape : shape_of q ≡ shape_of p
  pub rows_after : List ℕ
  pub columns_after : List ℕ
  pub row : q.row ++ rows_after ≡ p.row
  pub column : q.column ++ columns_after ≡ p.column

extends_self : (p : Graph) → Extends p p
extends_self p = record { shape = refl; rows_after = []; columns_after = []; row = append-nil p.row; column = append-nil p.column }

module _ {p : Graph} (q : Graph) (r c : ℕ) (w : ℤ) (E : Extends (with_edge q r c w) p) where
  pub extends_edge : Extends q p
  extends_edge = record {
    shape = E.shape;
    rows_after = r ∷ E.rows_after;
    columns_after = c ∷ E.columns_after;
    row = sym (append_assoc q.row (r ∷ []) E.rows_after) ∙ E.row;
    column = sym (append_assoc q.column (c ∷ []) E.columns_after) ∙ E.column;
  }

  -- The edge that was added is at its place.
  pub extends_row : row_at p (length q.row) ≡ r
  extends_row =
      ap (λ (xs : List ℕ). get_or xs (length q.row) 0) (sym E.row ∙ append_snoc q.row r E.rows_after)
      ∙ get_or_at q.row r E.rows_after 0 (length q.row) refl

  pub extends_column : length q.column ≡ length q.row → column_at p (length q.row) ≡ c
  extends_column same =
      ap (λ (xs : List ℕ). get_or xs (length q.row) 0) (sym E.column ∙ append_snoc q.column c E.columns_after)
      ∙ get_or_at q.column c E.columns_after 0 (length q.row) same

module _ (rules : Rules) (field : Field) where
  pub lines-extend : {q p : Graph} {ls : List (List ℕ)} → Reads (graph_layout rules field) (reading q) ls p → Extends q p
  lines-extend (done {b = b} last) = extends_self b
  lines-extend (blank-line fits empty rest) = lines-extend rest
  lines-extend (by_line {l = l} {c = q} {d = d} {b = p} fits full more is rest) =
      let f = edge_read q (edge_on rules field (words l)) d is in
      let E : Extends (with_edge q f.edge.0 f.edge.1 f.edge.2) p = rw f.added.is (lines-extend rest) in
      extends_edge q f.edge.0 f.edge.1 f.edge.2 E

  pub kind_kept : {kind : Kind} {p : Graph} {ls : List (List ℕ)} → Reads (graph_layout rules field) (sizing kind) ls p → kind ≡ p.kind
  kind_kept (skipped fits over rest) = kind_kept rest
  kind_kept (by_size {l = l} {h = kind} {c = d} fits full is rest) =
      let s = sizes-read kind (three_words (natural rules) (natural rules) (natural rules) (words l)) d is in
      ap (λ (g : Graph). g.kind) s.is ∙ ap (λ (t : Shape). t.kind) (lines-extend rest).shape
