-- What the graph reader answers and leaves, from its tests.
use Rattle.graph.specs.Refusal.{Outcome}
use Rattle.std.specs.Prelude.{Ok, Err}
use Rattle.std.specs.Result.{is_err}
use Rattle.graph.specs.declared.Shape.{Shape}
use Rattle.graph.specs.Graph.{Graph}
use lib.ListN.{length}
use Prim.Native.Nat.{ℕ}
use mathlib.Core.Path.{◌≡◌, sym, ap, ◌∙◌}
use mathlib.Core.Bool.{Bool, true, false, ◌&&◌}
use mathlib.Core.List.{List, [], ◌∷◌}
use lib.Dec.{eqb}
use lib.IntN.{ℤ}
use borrow.Author.Tests.{eqb-true}
use Rattle.graph.specs.declared.Fault.TheVariants.{TextLength, Sizes, LentLength}
use Rattle.graph.specs.declared.Refusal.{Refusal}
use Rattle.graph.specs.Refusal.{reported, Test, once, passing}
use Rattle.graph.specs.Graph.{shape_of}
use Rattle.graph.proofs.Passing.{once-yields}
use Rattle.graph.proofs.Ranges.{both}
use Rattle.layout.specs.declared.Rules.{Rules}
use Rattle.layout.specs.declared.Field.{Field}
use Rattle.layout.specs.Text.{text_fits}
use Rattle.layout.specs.Lines.{read_text}
use Rattle.layout.specs.GraphText.{graph_layout, read_graph_by}
use Rattle.checks.proofs.Refusals.{checked_passed, checked_refused}
use Rattle.edge_reader.specs.Edges.{Cleared, GraphReading}
use Rattle.edge_reader.proofs.Whole.{GraphAnswered, cleared_again, lengths_right, refused_leaves, whole_read, whole_refused}

abbrev graph_text_tests : Bool → List ℕ → List Test
graph_text_tests lent s = once LentLength lent ∷ once Sizes true ∷ once TextLength (text_fits s) ∷ []

-- The tests have answered a of outputs of r, c and w numbers.
pub record Tested (r c w : ℕ) (s : List ℕ) (a : Outcome (Unit {0})) : Type 0 where
  pub says : a ≡ passing (graph_text_tests (eqb r 1024 && eqb c 1024 && eqb w 1024) s) (Ok tt)

pub tested : {r c w : ℕ} {s : List ℕ} {a : Outcome (Unit {0})} {row column : List ℕ} {weight : List ℤ} → Cleared r c w row column weight → {lent : Bool} →
    lent ≡ (eqb (length row) 1024 && eqb (length column) 1024 && eqb (length weight) 1024) → a ≡ passing (graph_text_tests lent s) (Ok tt) → Tested r c w s a
tested {s = s} C p says = record { says = says ∙ ap (λ (x : Bool). passing (graph_text_tests x s) (Ok (tt {0}))) (lengths_right C p) }

module _ (rules : Rules) (field : Field) {r c w : ℕ} {s : List ℕ} {a : Outcome (Unit {0})} (T : Tested r c w s a) where
  abbrev lent_right : Bool
  lent_right = eqb r 1024 && eqb c 1024 && eqb w 1024

  abbrev whole : Outcome Graph
  whole = read_graph_by rules field r c w s

  -- A test has refused.
  pub whole_lent : {x : Refusal} {row column : List ℕ} {weight : List ℤ} → a ≡ Err x → {y : Outcome Shape} → y ≡ Err x → Cleared r c w row column weight →
      GraphAnswered whole r c w y row column weight
  unfolding read_graph_by
  whole_lent {x} is same C =
      refused_leaves C whole x (ap (reported shape_of) (sym (checked_refused (graph_text_tests lent_right s) (read_text (graph_layout rules field) s) T.says is))) same

  -- The tests have passed.
  module _ (is : a ≡ Ok tt) where
    long : (r ≡ 1024) × (c ≡ 1024) × (w ≡ 1024)
    long =
        let p = both (eqb r 1024 && eqb c 1024) (eqb w 1024)
        (once-yields LentLength lent_right (once Sizes true ∷ once TextLength (text_fits s) ∷ []) (Ok tt) tt
        (sym T.says ∙ is)).0 in
        let q = both (eqb r 1024) (eqb c 1024) p.0 in
        (eqb-true r 1024 q.0, eqb-true c 1024 q.1, eqb-true w 1024 p.1)

    pub lent_cleared : {row column : List ℕ} {weight : List ℤ} → Cleared r c w row column weight → Cleared 1024 1024 1024 row column weight
    lent_cleared C = cleared_again C long.0 long.1 long.2

    passed : read_text (graph_layout rules field) s ≡ whole
    unfolding read_graph_by
    passed = sym (checked_passed (graph_text_tests lent_right s) (read_text (graph_layout rules field) s) T.says is)

    module _ (g : Outcome Shape) {row column : List ℕ} {weight : List ℤ} (R : GraphReading (read_text (graph_layout rules field) s) g row column weight) where
      pub lines_read : is_err g ≡ false → GraphAnswered whole r c w g row column weight
      lines_read q = whole_read whole passed g R long q

      pub lines_refused : {rowₙ columnₙ : List ℕ} {weightₙ : List ℤ} → is_err g ≡ true → Cleared r c w rowₙ columnₙ weightₙ →
          GraphAnswered whole r c w g rowₙ columnₙ weightₙ
      lines_refused q C = whole_refused whole passed g R q C
