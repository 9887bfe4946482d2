-- What comes next in a text, by the line that was found.
use Rattle.std.specs.Prelude.{Ok, Err, Result, Some, None, Option}
use Prim.Native.Nat.{ℕ, ◌+◌}
use mathlib.Core.Path.{◌≡◌, refl, sym, ap, ◌∙◌, subst}
use mathlib.Core.Bool.{Bool, true, false, cond}
use mathlib.Core.List.{List}
use lib.Dec.{ltb}
use lib.IntN.{ℤ}
use lib.ListN.{length, drop}
use borrow.Author.Tests.{ltb-true}
use Rattle.graph.specs.declared.Kind.{Kind}
use Rattle.graph.specs.declared.Shape.{Shape}
use Rattle.graph.specs.declared.Fault.{Fault}
use Rattle.graph.specs.declared.Fault.TheVariants.{AssignmentLine}
use Rattle.graph.specs.declared.Refusal.{Refusal}
use Rattle.graph.specs.Refusal.{Outcome, refuses}
use Rattle.graph.specs.Graph.{Graph, graph_of, shape_of}
use Rattle.layout.specs.declared.Rules.{Rules}
use Rattle.layout.specs.declared.Field.{Field}
use Rattle.layout.specs.Text.{lines, words}
use Rattle.layout.specs.Lines.{Step, goes, stops, State, reading, begun, on_step, read_lines}
use Rattle.layout.specs.GraphText.{edge_on, graph_edge, graph_layout}
use Rattle.layout.specs.AssignmentText.{Progress, joining, placed, entry_on, on_entry, proceed, skipped, read_entries}
use Rattle.text.specs.declared.Cursor.{Cursor}
use Rattle.text.specs.declared.Line.{Line}
use Rattle.lines.specs.declared.Missing.{Missing}
use Rattle.edge_reader.specs.declared.Edge.{Edge}
use Rattle.lines.specs.Found.{next_data, part, Inside, FoundAs}
use Rattle.lines.specs.Walk.{later_met, later_says, LaterAs}
use Rattle.lines.proofs.Walk.{does, met, read_later}
use Rattle.lines.proofs.Entries.{entries-found}
use Rattle.edge_reader.specs.Edges.{edge_says, EdgeInRange, Wanted, next_of, left, left_after, NextAs}
use Rattle.edge_reader.specs.declared.EdgeText.{EdgeText}

-- An edge is wanted where one is still to come.
wanted_all : {more : Bool} → more ≡ true → (o : Result Edge Fault) → Wanted more o
wanted_all q (Ok e) = q
wanted_all q (Err f) = tt

-- The line l is the edge o.
brought : (what : EdgeText) (s : List ℕ) (c : Cursor) (g : Graph) {l : Line} → Inside s c l.start l.end l.next → (o : Result Edge Fault) → EdgeInRange (shape_of g) o →
    Wanted (ltb (length g.row) g.edges) o → left what s c g ≡ left_after what s l.next (edge_says g o) → NextAs what s c g (next_of o l.next)
brought what s c g I (Ok e) R W does = record { reached = I.reached; onward = I.onward; more = ltb-true (length g.row) g.edges W; ranged = R; does = does }
brought what s c g I (Err f) R W does = does

-- An answer tells the next line of an assignment that counts.
abbrev pub Entry : List ℕ → Cursor → Result Line Missing → Type 0
Entry s c r = FoundAs s c (next_data skipped (c.line + 1) (lines (drop c.at s))) r

module _ {s : List ℕ} {c : Cursor} {more : Bool} where
  -- Coordinates: the lines after the size line.
  module _ (rules : Rules) (field : Field) where
    by_later : (o : Outcome (Option Line)) → LaterAs s c more (later_met s c more) o → (g : Graph) → ltb (length g.row) g.edges ≡ more →
        left (EdgeText.Coordinates rules field) s c g ≡ met (graph_layout rules field) (does (graph_layout rules field) (reading g)) (Ok g) (later_says s o)
    by_later o F g right =
        read_later (graph_layout rules field) g more right (c.line + 1) (lines (drop c.at s))
        ∙ ap (met (graph_layout rules field) (does (graph_layout rules field) (reading g)) (Ok g)) (sym F.says)

    pub coordinates_end : (t : Shape) → LaterAs s c more (later_met s c more) (Ok None) → (row column : List ℕ) (weight : List ℤ) → ltb (length row) t.edges ≡ more →
        NextAs (EdgeText.Coordinates rules field) s c (graph_of t row column weight) (Ok None)
    coordinates_end t F row column weight right = by_later (Ok None) F (graph_of t row column weight) right

    pub coordinates_refused : (t : Shape) {x : Refusal} → LaterAs s c more (later_met s c more) (Err x) → {n : Outcome (Option (Edge × Cursor))} → n ≡ Err x →
        (row column : List ℕ) (weight : List ℤ) → ltb (length row) t.edges ≡ more → NextAs (EdgeText.Coordinates rules field) s c (graph_of t row column weight) n
    coordinates_refused t {x} F same row column weight right =
        let g : Graph = graph_of t row column weight in
        subst (NextAs (EdgeText.Coordinates rules field) s c g) (sym same) (by_later (Err x) F g right)

    pub coordinates_line : (t : Shape) {l : Line} → LaterAs s c more (later_met s c more) (Ok (Some l)) → (o : Result Edge Fault) →
        ((row column : List ℕ) (weight : List ℤ) →
        edge_says (graph_of t row column weight) o ≡ graph_edge (graph_of t row column weight) (edge_on rules field (words (part s l.start l.end)))) →
        EdgeInRange t o → {n : Outcome (Option (Edge × Cursor))} → n ≡ next_of o l.next →
        (row column : List ℕ) (weight : List ℤ) → ltb (length row) t.edges ≡ more → NextAs (EdgeText.Coordinates rules field) s c (graph_of t row column weight) n
    coordinates_line t {l} F o says R same row column weight right =
        let g : Graph = graph_of t row column weight in
        subst (NextAs (EdgeText.Coordinates rules field) s c g) (sym same)
        (brought (EdgeText.Coordinates rules field) s c g F.inside.0 o R (wanted_all (right ∙ F.inside.1) o)
        (by_later (Ok (Some l)) F g right
        ∙ ap (λ (u : Step Graph). on_step l.next.line (begun u) after) (sym (says row column weight))
        ∙ resumes (edge_says g o)))
      where
        after : State Kind Graph → Outcome Graph
        after u = read_lines (graph_layout rules field) (l.next.line + 1) u (lines (drop l.next.at s))

        resumes : (u : Step Graph) → on_step l.next.line (begun u) after ≡ left_after (EdgeText.Coordinates rules field) s l.next u
        resumes (goes h) = refl
        resumes (stops f) = refl

  -- An assignment: the lines after its first arc.
  module _ {k : ℕ} where
    pub arc_missing : (t : Shape) → Entry s c (Err (Missing.Ended k)) → more ≡ true → {x : Refusal} → x ≡ record { fault = AssignmentLine; place = k } →
        (row column : List ℕ) (weight : List ℤ) → ltb (length row) t.edges ≡ more → NextAs EdgeText.Assignment s c (graph_of t row column weight) (Err x)
    arc_missing t F q same row column weight right =
        let g : Graph = graph_of t row column weight in
        entries-found (Err (Missing.Ended k)) F (joining g) ∙ ap (λ (b : Bool). cond b (refuses AssignmentLine k) (Ok g)) (right ∙ q)
        ∙ ap (λ (y : Refusal). Err y) (sym same)

    pub arcs_end : (t : Shape) → Entry s c (Err (Missing.Ended k)) → more ≡ false → (row column : List ℕ) (weight : List ℤ) → ltb (length row) t.edges ≡ more →
        NextAs EdgeText.Assignment s c (graph_of t row column weight) (Ok None)
    arcs_end t F q row column weight right =
        let g : Graph = graph_of t row column weight in
        entries-found (Err (Missing.Ended k)) F (joining g) ∙ ap (λ (b : Bool). cond b (refuses AssignmentLine k) (Ok g)) (right ∙ q)

    pub arc_long : (t : Shape) → Entry s c (Err (Missing.Long k)) → {x : Refusal} → x ≡ record { fault = AssignmentLine; place = k } →
        (row column : List ℕ) (weight : List ℤ) → ltb (length row) t.edges ≡ more → NextAs EdgeText.Assignment s c (graph_of t row column weight) (Err x)
    arc_long t F same row column weight right =
        entries-found (Err (Missing.Long k)) F (joining (graph_of t row column weight)) ∙ ap (λ (y : Refusal). Err y) (sym same)

  pub arc-line : (t : Shape) {l : Line} → Entry s c (Ok l) → (o : Result Edge Fault) →
      ((k : ℕ) (row column : List ℕ) (weight : List ℤ) → ltb (length row) t.edges ≡ more →
      on_entry k (joining (graph_of t row column weight)) (entry_on (part s l.start l.end)) ≡ placed k (edge_says (graph_of t row column weight) o)) →
      EdgeInRange t o → Wanted more o → {n : Outcome (Option (Edge × Cursor))} → n ≡ next_of o l.next →
      (row column : List ℕ) (weight : List ℤ) → ltb (length row) t.edges ≡ more → NextAs EdgeText.Assignment s c (graph_of t row column weight) n
  arc-line t {l} F o says R W same row column weight right =
      let g : Graph = graph_of t row column weight in
      subst (NextAs EdgeText.Assignment s c g) (sym same)
      (brought EdgeText.Assignment s c g F.inside o R (subst (λ (b : Bool). Wanted b o) (sym right) W)
      (entries-found (Ok l) F (joining g)
      ∙ ap (λ (u : Outcome Progress). proceed u after) (says l.next.line row column weight right)
      ∙ resumes (edge_says g o)))
    where
      after : Progress → Outcome Graph
      after u = read_entries (l.next.line + 1) u (lines (drop l.next.at s))

      resumes : (u : Step Graph) → proceed (placed l.next.line u) after ≡ left_after EdgeText.Assignment s l.next u
      resumes (goes h) = refl
      resumes (stops f) = refl
