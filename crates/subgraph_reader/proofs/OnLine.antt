-- What a header line, a size line and a later line of a subgraph's text do, by what they are.
use Rattle.graph.specs.declared.Fault.{Fault}
use Rattle.std.specs.Prelude.{Option, None, Some, Result, Ok, Err}
use Prim.Native.Nat.{ℕ, ◌<◌}
use mathlib.Core.Path.{◌≡◌, refl, sym, ap, ◌∙◌, subst}
use mathlib.Core.Bool.{Bool, true, not, cond}
use mathlib.Core.List.{List, []}
use lib.Dec.{ltb}
use lib.IntN.{ℤ}
use lib.ListN.{get_or, replicate}
use Rattle.graph.specs.declared.Kind.{Kind}
use Rattle.graph.specs.declared.Shape.{Shape}
use Rattle.graph.specs.declared.Fault.TheVariants.{Header, Disagreement}
use Rattle.graph.specs.Graph.{Graph, graph_of, ends_in_range, joins}
use Rattle.graph.specs.declared.Refusal.{Refusal}
use Rattle.graph.specs.Refusal.{Outcome, refuses, reported}
use Rattle.text.specs.declared.Cursor.{Cursor}
use Rattle.text.specs.declared.Line.{Line}
use Rattle.lines.specs.Found.{part}
use Rattle.lines.specs.Walk.{Walk, OpenedAs, size_met}
use Rattle.lines.proofs.Walk.{size_goes, size_stops}
use Rattle.lent.proofs.Filling.{holds_refused}
use Rattle.graph.proofs.Passing.{zero_one, lowest-some}
use Rattle.checks.specs.Checks.{Flagged, flag_place}
use Rattle.checks.proofs.Ranges.{ends_flagged}
use Rattle.cells.specs.Cells.{cell_says, edge_among}
use Rattle.layout.specs.declared.Rules.TheVariants.{New}
use Rattle.layout.specs.Lines.{Step, goes, stops, sizing, reading, read_text}
use Rattle.layout.specs.SubgraphText.{Marked, subgraph_kind, kinds_agree, subgraph_header, subgraph_sizes, edge_with, subgraph_edge, subgraph_layout}
use Rattle.layout.specs.GraphText.{no_edges}
use Rattle.layout.specs.Text.{words, natural, two_words, three_words}
use Rattle.subgraph_reader.specs.OnLine.{so_far, chosen_says, Celled, SubgraphReading}

-- The header line.
module _ (g : Graph) {o : Option Kind} {r : Option Kind} (says : r ≡ o) where
  pub header-not : r ≡ None → subgraph_header g o ≡ stops Header
  header-not is = ap (subgraph_header g) (sym says ∙ is)

  pub header_is : {kind : Kind} → r ≡ Some kind → {t : Bool} → kinds_agree kind g.kind ≡ t →
      subgraph_header g o ≡ cond t (goes tt) (stops Disagreement)
  header_is is e = ap (subgraph_header g) (sym says ∙ is) ∙ ap (λ (x : Bool). cond {A = Step (Unit {0})} x (goes tt) (stops Disagreement)) e

-- What the size line does is the same whatever edges the graph has, and reading does not look at the weights.
module _ (s : Shape) (row column : List ℕ) (weight : List ℤ) where
  header-same : (o : Option Kind) → subgraph_header (graph_of s row column []) o ≡ subgraph_header (graph_of s row column weight) o
  header-same None = refl
  header-same (Some k) = refl

  size_same : (o : Option (ℕ × ℕ × ℕ)) → subgraph_sizes (no_edges s) o ≡ subgraph_sizes (graph_of s row column weight) o
  size_same None = refl
  size_same (Some p) = refl

  edge_same : (b : Marked) (o : Option (ℕ × ℕ)) → subgraph_edge (graph_of s row column []) b o ≡ subgraph_edge (graph_of s row column weight) b o
  edge_same b None = refl
  edge_same b (Some p) = refl

-- An answer of a line, with its place.
abbrev pub placed : Cursor → Result ℕ Fault → Outcome ℕ
placed d (Ok k) = Ok k
placed d (Err f) = refuses f d.line

-- A refusal reports itself, whatever the output holds.
pub read_refused : (g : Graph) {s out : List ℕ} (x : Refusal) → refuses x.fault x.place ≡ read_text (subgraph_layout New g) s →
    {y : Outcome (Unit {0})} → y ≡ Err x → SubgraphReading g s y out
read_refused g x e same = record { says = same ∙ ap (λ (o : Outcome (List ℕ)). (reported (λ y. tt {0}) o)) e; holds = holds_refused (sym e) }

-- The size line tells a number of edges, or is refused.
module _ (t : Shape) (row column : List ℕ) {s : List ℕ} {c : Cursor} (w : Walk (subgraph_layout New (graph_of t row column [])) s c (sizing tt)) {l : Line}
    (F : OpenedAs s c (size_met s c) (Ok l)) where
  abbrev Sized : Result ℕ Fault → Type 0
  Sized r = chosen_says t.edges r ≡ subgraph_sizes (no_edges t) (three_words (natural New) (natural New) (natural New) (words (part s l.start l.end)))

  size_does : (r : Result ℕ Fault) → Sized r → (subgraph_layout New (graph_of t row column [])).size_line tt (part s l.start l.end) ≡ chosen_says t.edges r
  size_does r says = sym (size_same t row column [] (three_words (natural New) (natural New) (natural New) (words (part s l.start l.end)))) ∙ sym says

  pub size_read : (r : Result ℕ Fault) → Sized r → {k : ℕ} → Ok k ≡ placed l.next r → {out : List ℕ} → out ≡ replicate t.edges 0 →
      Walk (subgraph_layout New (graph_of t row column [])) s l.next (reading (so_far k 0 out))
  size_read (Ok j) says {k} it {out} zeros =
      let e : j ≡ k = cc in
      subst (λ n. Walk (subgraph_layout New (graph_of t row column [])) s l.next (reading (so_far n 0 out))) e
      (subst (λ x. Walk (subgraph_layout New (graph_of t row column [])) s l.next (reading (so_far j 0 x))) (sym zeros)
      (size_goes (subgraph_layout New (graph_of t row column [])) w F (so_far j 0 (replicate t.edges 0)) (size_does (Ok j) says)))
  size_read (Err f) says it zeros = zero_one (cc)

  pub size_wrong : (r : Result ℕ Fault) → Sized r → {x : Refusal} → Err x ≡ placed l.next r → {y : Outcome (Unit {0})} → y ≡ Err x →
      {out : List ℕ} → SubgraphReading (graph_of t row column []) s y out
  size_wrong (Ok j) says it same = zero_one (cc)
  size_wrong (Err f) says {x} it same =
      read_refused (graph_of t row column []) x (size_stops (subgraph_layout New (graph_of t row column [])) w F f (size_does (Err f) says) cc) same

pub layout_same : (s : Shape) (row column : List ℕ) (weight : List ℤ) → subgraph_layout New (graph_of s row column []) ≡ subgraph_layout New (graph_of s row column weight)
layout_same s row column weight = λ i. record {
  header_line = λ l. header-same s row column weight (subgraph_kind l) i;
  size_line = λ h l.
      (sym (size_same s row column [] (three_words (natural New) (natural New) (natural New) (words l)))
      ∙ size_same s row column weight (three_words (natural New) (natural New) (natural New) (words l))) i;
  later_line = λ b l. edge_same s row column weight b (two_words (natural New) (natural New) (words l)) i;
  more = λ b. ltb b.came b.count;
  result = λ b. b.marks;
}

-- Ends in range have a cell.
pub cell_flagged : {s : Shape} {cells : List ℕ} → Celled s cells → {x y : ℕ} → ends_in_range s.kind s.rows s.columns x y ≡ true → Flagged x × Flagged y
cell_flagged {s} T {x} {y} e = ends_flagged s.kind s.rows s.columns s.edges x y T.sound.sizes.test e

abbrev pub graph_in : {s : Shape} {cells : List ℕ} → Celled s cells → Graph
graph_in {s} T = graph_of s T.row T.column []

-- The edge that the table has for ends in range is the one that the graph has.
module _ {s : Shape} {cells : List ℕ} (T : Celled s cells) (x y : ℕ) (inside : ends_in_range s.kind s.rows s.columns x y ≡ true) {l : Option ℕ}
    (sought : l ≡ cell_says (get_or cells (flag_place x y) 0)) where
  pub edge_found : l ≡ edge_with (graph_in T) x y
  edge_found =
      let f = cell_flagged T inside in
      sought ∙ T.holds.each x y f.0 f.1 ∙ ap (λ (n : ℕ). edge_among T.row T.column n x y) T.sound.row_long

  pub edge-among : {k : ℕ} → l ≡ Some k → k < s.edges
  edge-among {k} at = (lowest-some s.edges (λ d. not (joins (graph_in T) x y d)) k (sym edge_found ∙ at)).among
