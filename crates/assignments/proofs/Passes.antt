-- A graph that an assignment text yields is bipartite, and passes the tests that the calls make on a graph.
use Rattle.std.specs.Prelude.{Option, None, Some, Ok, Err}
use mathlib.Core.Path.{◌≡◌, refl, sym, ap, ◌∙◌, subst}
use mathlib.Core.Bool.{Bool, true, false, cond}
use mathlib.Core.List.{List, [], ◌∷◌}
use Prim.Native.Nat.{ℕ, ◌+◌, ◌-◌}
use lib.Dec.{ltb, eqb}
use lib.IntN.{ℤ, neg_ℤ}
use Rattle.graph.specs.declared.Kind.TheVariants.{Bipartite}
use Rattle.graph.specs.declared.Fault.{Fault}
use Rattle.graph.specs.declared.Fault.TheVariants.{Sizes, AssignmentLine, Sources}
use Rattle.graph.specs.Refusal.{Outcome, refuses}
use Rattle.graph.specs.Graph.{Graph, shape_in_range}
use Rattle.graph.specs.Passed.{Passed}
use Rattle.graph.proofs.Passing.{zero_one, passes}
use Rattle.layout.specs.Text.{lines, line_fits}
use Rattle.layout.specs.Lines.{Step, goes, stops}
use Rattle.layout.specs.GraphText.{no_edges, graph_edge}
use Rattle.layout.specs.AssignmentText.{Entry, problem, source, arc, entry_on, Stated, Progress, start, naming, joining, assignment_shape, judged, more_arcs}
use Rattle.layout.specs.AssignmentText.{placed, with_arc, on_entry, skipped, on_assignment_line, complete, after_last, proceed, read_entries, read_arcs}
use Rattle.layout.specs.AssignmentText.{assignment_reader_tests, read_assignment}
use Rattle.patterns.proofs.Edges.{edge_read}
use Rattle.patterns.proofs.Texts.{SoFar, none_yet, line_more, all_came, so_passed}

-- What is yielded after a test is so because it holds.
kept : {A : Type 0} (b : Bool) (o : Outcome A) (f : Fault) (p : ℕ) (a : A) → cond b o (refuses f p) ≡ Ok a → (b ≡ true) × (o ≡ Ok a)
kept true o f p a e = (refl, e)
kept false o f p a e = zero_one (cc)

-- What holds of the graph that is read so far.
abbrev ReadSoFar : Progress → Type 0
ReadSoFar start = Unit {0}
ReadSoFar (naming P rows) = Unit {0}
ReadSoFar (joining g) = SoFar g × (g.kind ≡ Bipartite)

-- ---- what a line leads to

arc_adds : (k : ℕ) (g : Graph) (a b : ℕ) (z : ℤ) (t : Progress) → SoFar g → g.kind ≡ Bipartite → more_arcs g ≡ true → with_arc k g a b z ≡ Ok t → ReadSoFar t
arc_adds k g a b z t S kind more e = go (graph_edge g (Some (a, b - g.rows, neg_ℤ z))) refl e
  where
    go : (o : Step Graph) → graph_edge g (Some (a, b - g.rows, neg_ℤ z)) ≡ o → placed k o ≡ Ok t → ReadSoFar t
    go (goes d) is e =
        let q : joining d ≡ t = cc in
        let added = (edge_read g (Some (a, b - g.rows, neg_ℤ z)) d is).added.is in
        subst ReadSoFar q (line_more g (Some (a, b - g.rows, neg_ℤ z)) d S more is, ap (λ (h : Graph). h.kind) (sym added) ∙ kind)
    go (stops f) is e = zero_one (cc)

-- The graph with no edge yet, where its sizes are judged.
module _ {A : Type 0} (P : Stated) (rows : ℕ) (rest : Graph → Outcome A) (a : A) (e : judged P rows rest ≡ Ok a) where
  judged-kept : (shape_in_range (assignment_shape P rows) ≡ true) × (rest (no_edges (assignment_shape P rows)) ≡ Ok a)
  judged-kept = kept (shape_in_range (assignment_shape P rows)) (rest (no_edges (assignment_shape P rows))) Sizes P.line a e

  judged-so_far : SoFar (no_edges (assignment_shape P rows))
  judged-so_far = none_yet Bipartite (rows, P.nodes - rows, P.arcs) judged-kept.0

entry_keeps : (k : ℕ) (s : Progress) (o : Option Entry) (t : Progress) → ReadSoFar s → on_entry k s o ≡ Ok t → ReadSoFar t
entry_keeps k s None t S e = zero_one (cc)
entry_keeps k start (Some (problem nodes arcs)) t S e =
    let q : naming (record { line = k; nodes = nodes; arcs = arcs }) 0 ≡ t = cc in subst ReadSoFar q tt
entry_keeps k (naming P rows) (Some (problem nodes arcs)) t S e = zero_one (cc)
entry_keeps k (joining g) (Some (problem nodes arcs)) t S e = zero_one (cc)
entry_keeps k start (Some (source v)) t S e = zero_one (cc)
entry_keeps k (naming P rows) (Some (source v)) t S e =
    let h : ◌≡◌ {A = Outcome Progress} (Ok (naming P (rows + 1))) (Ok t) = (kept (eqb v (rows + 1)) (Ok (naming P (rows + 1))) Sources k t e).1 in
    let q : naming P (rows + 1) ≡ t = cc in
    subst ReadSoFar q tt
entry_keeps k (joining g) (Some (source v)) t S e = zero_one (cc)
entry_keeps k start (Some (arc a b z)) t S e = zero_one (cc)
entry_keeps k (naming P rows) (Some (arc a b z)) t S e =
    let h = kept (ltb 0 P.arcs) (judged P rows (λ g. with_arc k g a b z)) AssignmentLine k t e in
    arc_adds k (no_edges (assignment_shape P rows)) a b z t (judged-so_far P rows (λ g. with_arc k g a b z) t h.1) refl h.0
    (judged-kept P rows (λ g. with_arc k g a b z) t h.1).1
entry_keeps k (joining g) (Some (arc a b z)) t S e =
    let h = kept (more_arcs g) (with_arc k g a b z) AssignmentLine k t e in
    arc_adds k g a b z t S.0 S.1 h.0 h.1

line_keeps : (k : ℕ) (s : Progress) (l : List ℕ) (t : Progress) → ReadSoFar s → on_assignment_line k s l ≡ Ok t → ReadSoFar t
unfolding on_assignment_line
line_keeps k s l t S e =
    go (skipped l) (kept (line_fits l) (cond (skipped l) (Ok s) (on_entry k s (entry_on l))) AssignmentLine k t e).1
  where
    go : (b : Bool) → cond b (Ok s) (on_entry k s (entry_on l)) ≡ Ok t → ReadSoFar t
    go true e = let q : s ≡ t = cc in subst ReadSoFar q S
    go false e = entry_keeps k s (entry_on l) t S e

-- ---- the whole text

complete-passes : (k : ℕ) (g p : Graph) → SoFar g → g.kind ≡ Bipartite → complete k g ≡ Ok p → Passed p × (p.kind ≡ Bipartite)
complete-passes k g p S kind e = go (more_arcs g) refl e
  where
    go : (b : Bool) → more_arcs g ≡ b → cond b (refuses AssignmentLine k) (Ok g) ≡ Ok p → Passed p × (p.kind ≡ Bipartite)
    go true is e = zero_one (cc)
    go false is e =
        let q : g ≡ p = cc in
        subst (λ (h : Graph). Passed h × (h.kind ≡ Bipartite)) q (so_passed g S (all_came g S is), kind)

last_passes : (k : ℕ) (s : Progress) (p : Graph) → ReadSoFar s → after_last k s ≡ Ok p → Passed p × (p.kind ≡ Bipartite)
last_passes k start p S e = zero_one (cc)
last_passes k (naming P rows) p S e =
    complete-passes k (no_edges (assignment_shape P rows)) p (judged-so_far P rows (complete k) p e) refl (judged-kept P rows (complete k) p e).1
last_passes k (joining g) p S e = complete-passes k g p S.0 S.1 e

lines-pass : (k : ℕ) (s : Progress) (ls : List (List ℕ)) (p : Graph) → ReadSoFar s → read_entries k s ls ≡ Ok p → Passed p × (p.kind ≡ Bipartite)
unfolding read_entries
lines-pass k s [] p S e = last_passes k s p S e
lines-pass k s (l ∷ ls) p S e = go (on_assignment_line k s l) refl e (λ t. lines-pass (k + 1) t ls p)
  where
    go : (o : Outcome Progress) → on_assignment_line k s l ≡ o → proceed o (λ t. read_entries (k + 1) t ls) ≡ Ok p
        → ((t : Progress) → ReadSoFar t → read_entries (k + 1) t ls ≡ Ok p → Passed p × (p.kind ≡ Bipartite)) → Passed p × (p.kind ≡ Bipartite)
    go (Ok t) is e ih = ih t (line_keeps k s l t S is) e
    go (Err refusal) is e ih = zero_one (cc)

pub assignment_passes : (r c w b : ℕ) (text : List ℕ) (g : Graph) → read_assignment r c w b text ≡ Ok g → Passed g × (g.kind ≡ Bipartite)
unfolding read_assignment
assignment_passes r c w b text g e = lines-pass 1 start (lines text) g tt (passes (assignment_reader_tests r c w b text) (read_arcs text) g e).1
