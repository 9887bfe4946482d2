-- What the graph reader's header line and its size line do, by what they are.
use Rattle.std.specs.Prelude.{Option, None, Some, Result, Ok, Err, ℤ}
use Rattle.graph.specs.declared.Fault.{Fault}
use Rattle.graph.specs.declared.Shape.{Shape}
use Rattle.graph.specs.declared.Refusal.{Refusal}
use Rattle.graph.specs.Refusal.{Outcome, refuses}
use Rattle.graph.proofs.Passing.{zero_one}
use Rattle.layout.specs.declared.Rules.{Rules}
use Rattle.text.specs.declared.Cursor.{Cursor}
use Rattle.text.specs.declared.Line.{Line}
use Rattle.lines.specs.Found.{part}
use Rattle.lines.specs.Walk.{Walk, OpenedAs, size_met}
use Rattle.lines.proofs.Walk.{size_goes, size_stops}
use Rattle.edge_reader.specs.declared.EdgeText.TheVariants as EdgeText
use Rattle.edge_reader.specs.Edges.{left, GraphReading}
use Rattle.edge_reader.proofs.Edges.{read_refused}
use Rattle.graph_reader.specs.OnLine.{shape_says, ShapeInRange}
use Prim.Native.Nat.{ℕ}
use mathlib.Core.Path.{◌≡◌, refl, sym, ap, ◌∙◌, subst}
use mathlib.Core.Bool.{Bool, true, false, cond}
use mathlib.Core.List.{List, [], ◌∷◌}
use Rattle.graph.specs.declared.Kind.{Kind}
use Rattle.graph.specs.declared.Kind.TheVariants.{Bipartite, General}
use Rattle.graph.specs.declared.Fault.TheVariants.{Header}
use Rattle.graph.specs.Graph.{shape_in_range}
use Rattle.layout.specs.declared.Field.{Field}
use Rattle.layout.specs.Text.{bytes, header, words, natural, three_words}
use Rattle.layout.specs.Lines.{Step, goes, stops, sizing, read_text}
use Rattle.layout.specs.GraphText.{field_word, graph_header, no_edges, graph_sizes, graph_layout}
use Rattle.headers.specs.Headers.{kind_told}

-- The header line: its kind, or none.
abbrev kind_step : Option Kind → Step Kind
kind_step None = stops Header
kind_step (Some kind) = goes kind

header-does : (field : Field) (l : List ℕ) → kind_step (kind_told (field_word field) l) ≡ graph_header field l
header-does field l =
    go (header (bytes "matrix" ∷ bytes "coordinate" ∷ field_word field ∷ bytes "general" ∷ []) l)
    (header (bytes "matrix" ∷ bytes "coordinate" ∷ field_word field ∷ bytes "symmetric" ∷ []) l)
  where
    go : (a b : Bool) → kind_step (cond a (Some Bipartite) (cond b (Some General) None)) ≡ cond a (goes Bipartite) (cond b (goes General) (stops Header))
    go true b = refl
    go false true = refl
    go false false = refl

module _ (field : Field) (l : List ℕ) {r : (Option Kind)} (says : r ≡ kind_told (field_word field) l) where
  pub header_is : {kind : Kind} → r ≡ Some kind → graph_header field l ≡ goes kind
  header_is is = sym (header-does field l) ∙ ap kind_step (sym says ∙ is)

  pub header-not : r ≡ None → graph_header field l ≡ stops Header
  header-not is = sym (header-does field l) ∙ ap kind_step (sym says ∙ is)

-- The size line tells a shape, or is refused.
module _ (rules : Rules) (field : Field) {s : List ℕ} {kind : Kind} {c : Cursor} (w : Walk (graph_layout rules field) s c (sizing kind)) {l : Line}
    (F : OpenedAs s c (size_met s c) (Ok l)) where
  abbrev Sizes : Result Shape Fault → Type 0
  Sizes r = shape_says r ≡ graph_sizes kind (three_words (natural rules) (natural rules) (natural rules) (words (part s l.start l.end)))

  -- The line's answer, with its place.
  abbrev pub placed : Cursor → Result Shape Fault → Outcome Shape
  placed d (Ok t) = Ok t
  placed d (Err f) = refuses f d.line

  pub size_read : (r : Result Shape Fault) → Sizes r → ShapeInRange r → {t : Shape} → Ok t ≡ placed l.next r →
      (left (EdgeText.Coordinates rules field) s l.next (no_edges t) ≡ read_text (graph_layout rules field) s) × (shape_in_range t ≡ true)
  size_read (Ok u) does ranged {t} it =
      let e : u ≡ t = cc in
      subst (λ t. (left (EdgeText.Coordinates rules field) s l.next (no_edges t) ≡ read_text (graph_layout rules field) s) × (shape_in_range t ≡ true)) e
      ((size_goes (graph_layout rules field) w F (no_edges u) (sym does)).whole, ranged)
  size_read (Err f) does ranged it = zero_one (cc)

  pub size_wrong : (r : Result Shape Fault) → Sizes r → {x : Refusal} → Err x ≡ placed l.next r → {y : Outcome Shape} → y ≡ Err x →
      {row column : List ℕ} {weight : List ℤ} → GraphReading (read_text (graph_layout rules field) s) y row column weight
  size_wrong (Ok t) does it same = zero_one (cc)
  size_wrong (Err f) does {x} it same = read_refused x (size_stops (graph_layout rules field) w F f (sym does) cc) same
