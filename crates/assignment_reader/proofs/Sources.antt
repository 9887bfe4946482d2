-- The problem line and the source nodes, by the lines that are found.
use Rattle.std.specs.Prelude.{Ok, Err, Result}
use Prim.Native.Nat.{ℕ, ◌+◌}
use mathlib.Core.Path.{◌≡◌, refl, sym, ap, ◌∙◌}
use mathlib.Core.Bool.{Bool, true, false, cond}
use mathlib.Core.List.{List}
use lib.ListN.{drop}
use Rattle.graph.specs.declared.Fault.{Fault}
use Rattle.graph.specs.declared.Fault.TheVariants.{Sizes, AssignmentLine}
use Rattle.graph.specs.declared.Refusal.{Refusal}
use Rattle.graph.specs.Refusal.{Outcome, refuses}
use Rattle.graph.specs.Graph.{Graph, shape_in_range}
use Rattle.layout.specs.Text.{lines}
use Rattle.layout.specs.GraphText.{no_edges}
use Rattle.layout.specs.AssignmentText.{Stated, Progress, start, naming, joining, assignment_shape, judged, entry_on, on_entry, skipped, complete, proceed, read_entries, read_arcs}
use Rattle.text.specs.declared.Cursor.{Cursor}
use Rattle.text.specs.declared.Line.{Line}
use Rattle.lines.specs.declared.Missing.{Missing}
use Rattle.lines.specs.Found.{next_data, part, Reached, FoundAs}
use Rattle.lines.specs.Walk.{origin}
use Rattle.lines.proofs.Entries.{entries-found}
use Rattle.sources.specs.declared.SourceLine.{SourceLine}
use Rattle.sources.specs.Sources.{SourceAs}
use Rattle.assignment_reader.specs.Sources.{remaining, ProblemAs, SourcesAs}

-- ---- the sizes

-- What is yielded where the sizes are judged goes by the graph with no edge yet.
judged-same : (P : Stated) (rows : ℕ) (f h : Graph → Outcome Graph) → f (no_edges (assignment_shape P rows)) ≡ h (no_edges (assignment_shape P rows)) →
    judged P rows f ≡ judged P rows h
judged-same P rows f h e = ap (λ (o : Outcome Graph). cond (shape_in_range (assignment_shape P rows)) o (refuses Sizes P.line)) e

judged-on : (P : Stated) (rows : ℕ) (f : Graph → Outcome Progress) (rest : Progress → Outcome Graph) →
    proceed (judged P rows f) rest ≡ judged P rows (λ g. proceed (f g) rest)
judged-on P rows f rest = go (shape_in_range (assignment_shape P rows))
  where
    go : (b : Bool) → proceed (cond b (f (no_edges (assignment_shape P rows))) (refuses Sizes P.line)) rest
        ≡ cond b (proceed (f (no_edges (assignment_shape P rows))) rest) (refuses Sizes P.line)
    go true = refl
    go false = refl

-- ---- the loop over the source nodes

-- From the cursor c on, with so many source nodes, reading yields what it did from the first cursor on.
pub record SourceTurn (s : List ℕ) (arcs : ℕ) (first c : Cursor) (rows : ℕ) : Type 0 where
  pub reached : Reached s c
  pub whole : (P : Stated) → P.arcs ≡ arcs → remaining s c (naming P rows) ≡ remaining s first (naming P 0)

pub turn_starts : (s : List ℕ) (arcs : ℕ) {c : Cursor} → Reached s c → SourceTurn s arcs c c 0
turn_starts s arcs r = record { reached = r; whole = λ P right. refl }

-- An answer tells the next line that counts.
abbrev pub Next : List ℕ → Cursor → Result Line Missing → Type 0
Next s c r = FoundAs s c (next_data skipped (c.line + 1) (lines (drop c.at s))) r

module _ {s : List ℕ} {arcs : ℕ} {first c : Cursor} {rows : ℕ} (T : SourceTurn s arcs first c rows) where
  -- What comes next, from the first cursor on.
  comes : (P : Stated) → P.arcs ≡ arcs → (w : Outcome Graph) → remaining s c (naming P rows) ≡ w → remaining s first (naming P 0) ≡ w
  comes P right w e = sym (T.whole P right) ∙ e

  pub turn_ended : {k : ℕ} → Next s c (Err (Missing.Ended k)) → (P : Stated) → P.arcs ≡ arcs → SourcesAs s first P (Ok (rows, c))
  turn_ended {k} F P right = record {
    reached = T.reached;
    whole = comes P right _
        (entries-found (Err (Missing.Ended k)) F (naming P rows)
        ∙ judged-same P rows (complete k) (λ g. remaining s c (joining g))
        (sym (entries-found (Err (Missing.Ended k)) F (joining (no_edges (assignment_shape P rows))))));
  }

  pub turn_long : {k : ℕ} → Next s c (Err (Missing.Long k)) → {x : Refusal} → x ≡ record { fault = AssignmentLine; place = k } → (P : Stated) → P.arcs ≡ arcs →
      SourcesAs s first P (Err x)
  turn_long {k} F same P right =
      comes P right _ (entries-found (Err (Missing.Long k)) F (naming P rows))
      ∙ sym (ap (λ (y : Refusal). refuses y.fault y.place) same)

  module _ {l : Line} (F : Next s c (Ok l)) where
    abbrev after : Progress → Outcome Graph
    after u = read_entries (l.next.line + 1) u (lines (drop l.next.at s))

    -- The line that was found does what o says.
    found-does : (P : Stated) → P.arcs ≡ arcs → (o : Outcome Progress) → on_entry l.next.line (naming P rows) (entry_on (part s l.start l.end)) ≡ o →
        remaining s first (naming P 0) ≡ proceed o after
    found-does P right o does =
        comes P right _
        (entries-found (Ok l) F (naming P rows) ∙ ap (λ (u : Outcome Progress). proceed u after) does)

    pub turn_node : {v : ℕ} → SourceAs (part s l.start l.end) arcs rows (Ok (SourceLine.Node v)) → SourceTurn s arcs first l.next v
    turn_node {v} S = record {
      reached = F.inside.reached;
      whole = λ P right. sym (found-does P right (Ok (naming P v)) (S l.next.line P right));
    }

    pub turn_arc : SourceAs (part s l.start l.end) arcs rows (Ok SourceLine.Arc) → (P : Stated) → P.arcs ≡ arcs → SourcesAs s first P (Ok (rows, c))
    turn_arc S P right = record {
      reached = T.reached;
      whole = found-does P right _ (S l.next.line P right)
          ∙ judged-on P rows (λ g. on_entry l.next.line (joining g) (entry_on (part s l.start l.end))) after
          ∙ judged-same P rows (λ g. proceed (on_entry l.next.line (joining g) (entry_on (part s l.start l.end))) after) (λ g. remaining s c (joining g))
          (sym (entries-found (Ok l) F (joining (no_edges (assignment_shape P rows)))));
    }

    pub turn_refused : {f : Fault} → SourceAs (part s l.start l.end) arcs rows (Err f) → {x : Refusal} → x ≡ record { fault = f; place = l.next.line } →
        (P : Stated) → P.arcs ≡ arcs → SourcesAs s first P (Err x)
    turn_refused {f} S same P right =
        found-does P right (refuses f l.next.line) (S l.next.line P right)
        ∙ sym (ap (λ (y : Refusal). refuses y.fault y.place) same)

-- ---- the problem line

pub problem_missing : {s : List ℕ} {k : ℕ} → Next s origin (Err (Missing.Ended k)) → {x : Refusal} → x ≡ record { fault = AssignmentLine; place = k } → ProblemAs s (Err x)
problem_missing {k = k} F same = ap (λ (y : Refusal). refuses y.fault y.place) same ∙ sym (entries-found {c = origin} (Err (Missing.Ended k)) F start)

pub problem_long : {s : List ℕ} {k : ℕ} → Next s origin (Err (Missing.Long k)) → {x : Refusal} → x ≡ record { fault = AssignmentLine; place = k } → ProblemAs s (Err x)
problem_long {k = k} F same = ap (λ (y : Refusal). refuses y.fault y.place) same ∙ sym (entries-found {c = origin} (Err (Missing.Long k)) F start)

module _ {s : List ℕ} {l : Line} (F : Next s origin (Ok l)) where
  first_does : (o : Outcome Progress) → on_entry l.next.line start (entry_on (part s l.start l.end)) ≡ o →
      read_arcs s ≡ proceed o (λ u. read_entries (l.next.line + 1) u (lines (drop l.next.at s)))
  first_does o does =
      entries-found {c = origin} (Ok l) F start ∙ ap (λ (u : Outcome Progress). proceed u (λ v. read_entries (l.next.line + 1) v (lines (drop l.next.at s)))) does

  pub problem_found : (nodes arcs : ℕ) → on_entry l.next.line start (entry_on (part s l.start l.end)) ≡ Ok (naming (record { line = l.next.line; nodes = nodes; arcs = arcs }) 0)
      → ProblemAs s (Ok (record { line = l.next.line; nodes = nodes; arcs = arcs }, l.next))
  problem_found nodes arcs does = record { reached = F.inside.reached; whole = sym (first_does _ does) }

  pub problem_wrong : on_entry l.next.line start (entry_on (part s l.start l.end)) ≡ refuses AssignmentLine l.next.line → {x : Refusal} →
      x ≡ record { fault = AssignmentLine; place = l.next.line } → ProblemAs s (Err x)
  problem_wrong does same = ap (λ (y : Refusal). refuses y.fault y.place) same ∙ sym (first_does _ does)
