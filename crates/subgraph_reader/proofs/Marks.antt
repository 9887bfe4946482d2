-- The subgraph reader's loop, on plain values: the output holds the marks so far.
use Rattle.std.specs.Prelude.{Ok, Err, Result, Some, None}
use Prim.Native.Nat.{ℕ, ◌+◌, ◌<◌, ◌≤◌}
use mathlib.Core.Path.{◌≡◌, refl, sym, ap, ◌∙◌, subst}
use mathlib.Core.List.{List}
use native.Mathlib.Omega.{arith}
use lib.Dec.{ltb}
use lib.ListN.{length, set, length-set}
use borrow.Author.Tests.{ltb-true}
use Rattle.graph.specs.declared.Fault.{Fault}
use Rattle.graph.specs.declared.Refusal.{Refusal}
use Rattle.graph.specs.declared.Shape.{Shape}
use Rattle.graph.specs.Refusal.{Outcome, reported}
use Rattle.graph.specs.Graph.{Graph}
use Rattle.graph.specs.Passed.{Sound}
use Rattle.layout.specs.declared.Rules.TheVariants.{New}
use Rattle.layout.specs.Text.{words, natural, two_words}
use Rattle.layout.specs.Lines.{reading, read_text}
use Rattle.layout.specs.SubgraphText.{subgraph_edge, subgraph_layout}
use Rattle.text.specs.declared.Cursor.{Cursor}
use Rattle.text.specs.declared.Line.{Line}
use Rattle.graph.proofs.Passing.{zero_one}
use Rattle.subgraph_reader.proofs.OnLine.{placed, read_refused}
use Rattle.lines.specs.Found.{part}
use Rattle.lines.specs.Walk.{LaterAs, later_met, Walk}
use Rattle.lines.proofs.Walk.{later_refused, later_yields, later_goes, later_stops}
use Rattle.cells.specs.Cells.{CellsHold}
use Rattle.lent.proofs.Filling.{filled-all, holds_yields}
use Rattle.subgraph_reader.specs.OnLine.{so_far, with_mark, choice_says, ChoiceInside, Celled, SubgraphReading}

-- The cells of a graph's edges.
abbrev pub celled : {s : Shape} {row column cells : List ℕ} → Sound s row column → CellsHold row column cells (length row) → Celled s cells
celled {s} {row} {column} S H = record { row = row; column = column; sound = S; holds = H }

-- Of count chosen edges some came.
pub record MarkTurn (g : Graph) (s : List ℕ) (count : ℕ) (chosen : List ℕ) (c : Cursor) (came : ℕ) : Type 0 where
  pub walk : Walk (subgraph_layout New g) s c (reading (so_far count came chosen))
  pub room : came ≤ count
  pub long : length chosen ≡ g.edges

module _ {g : Graph} {s : List ℕ} {count : ℕ} {chosen : List ℕ} {c : Cursor} {came : ℕ} (T : MarkTurn g s count chosen c came) where
  -- What comes next says what reading yields.
  pub turn_done : LaterAs s c (ltb came count) (later_met s c (ltb came count)) (Ok None) → SubgraphReading g s (Ok tt) chosen
  turn_done F =
      let e : Ok chosen ≡ read_text (subgraph_layout New g) s = later_yields (subgraph_layout New g) T.walk refl F in
      record { says = ap (λ (o : Outcome (List ℕ)). (reported (λ y. tt {0}) o)) e; holds = holds_yields (sym e) (sym (filled-all g.edges 0 chosen T.long)) }

  pub turn_refused : {x : Refusal} → LaterAs s c (ltb came count) (later_met s c (ltb came count)) (Err x) → {y : Outcome (Unit {0})} → y ≡ Err x →
      SubgraphReading g s y chosen
  turn_refused {x} F same = read_refused g x (later_refused (subgraph_layout New g) T.walk refl F) same

  module _ {l : Line} (F : LaterAs s c (ltb came count) (later_met s c (ltb came count)) (Ok (Some l))) where
    pub turn_below : came < count
    turn_below = ltb-true came count F.inside.1

    abbrev Tells : Result ℕ Fault → Type 0
    Tells r = (k i : ℕ) → choice_says (so_far k i chosen) r ≡ subgraph_edge g (so_far k i chosen) (two_words (natural New) (natural New) (words (part s l.start l.end)))

    -- The line tells r.
    pub turn_stops : (r : Result ℕ Fault) → Tells r → {x : Refusal} → Err x ≡ placed l.next r → {y : Outcome (Unit {0})} → y ≡ Err x → SubgraphReading g s y chosen
    turn_stops (Ok k) does it same = zero_one (cc)
    turn_stops (Err f) does {x} it same = read_refused g x (later_stops (subgraph_layout New g) T.walk refl F f (sym (does count came)) cc) same

    pub turn_takes : (r : Result ℕ Fault) → Tells r → {k : ℕ} → Ok k ≡ placed l.next r → MarkTurn g s count (set chosen k 1) l.next (came + 1)
    turn_takes (Err f) does it = zero_one (cc)
    turn_takes (Ok j) does {k} it =
        let e : j ≡ k = cc in
        subst (λ n. MarkTurn g s count (set chosen n 1) l.next (came + 1)) e (record {
          walk = later_goes (subgraph_layout New g) T.walk refl F (with_mark (so_far count came chosen) j) (sym (does count came));
          room = omega (arith, turn_below);
          long = length-set chosen j 1 ∙ T.long;
        })

    -- It is one of the graph's.
    pub choice_inside : {m : ℕ} (r : Result ℕ Fault) → ChoiceInside m r → {k : ℕ} → Ok k ≡ placed l.next r → k < m
    choice_inside {m} (Ok j) w {k} it = let e : j ≡ k = cc in subst (λ n. n < m) e w
    choice_inside (Err f) w it = zero_one (cc)
