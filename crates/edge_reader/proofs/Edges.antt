-- The loop that reads edges, on plain values: the outputs hold the edges read so far, and then 0, and the table has a flag for their ends.
use Rattle.std.specs.Prelude.{Ok, Err, Option, Some, None}
use Prim.Native.Nat.{ℕ, ◌+◌, ◌<◌, ◌≤◌}
use mathlib.Core.Path.{◌≡◌, refl, sym, ap, ap₂, ◌∙◌, subst}
use mathlib.Core.Bool.{Bool, true, false, cond}
use mathlib.Core.List.{List, [], ◌∷◌, ◌++◌}
use native.Mathlib.Omega.{arith}
use lib.Dec.{ltb, eqb}
use lib.IntN.{ℤ, pos}
use lib.ListN.{length, get_or, set, length-append}
use Rattle.graph.specs.declared.Shape.{Shape}
use Rattle.graph.specs.declared.Fault.TheVariants.{SameEnds}
use Rattle.graph.specs.declared.Refusal.{Refusal}
use Rattle.graph.specs.Refusal.{Outcome, refuses, reported, filled}
use Rattle.graph.specs.Graph.{Graph, graph_of, shape_of, shape_in_range, joined}
use Rattle.graph.proofs.Ranges.{sizes_hold}
use Rattle.layout.specs.Lines.{Step, goes, stops}
use Rattle.layout.specs.GraphText.{no_edges, with_edge}
use Rattle.text.specs.declared.Cursor.{Cursor}
use Rattle.checks.specs.Checks.{Flagged, flag_place, Seen}
use Rattle.checks.proofs.Ranges.{ends_flagged}
use Rattle.checks.proofs.Table.{seen_flag, seen_append}
use Rattle.lines.specs.Found.{Reached}
use Rattle.lent.proofs.Filling.{filled_none, filled_more, filled-length, holds_refused, holds_yields}
use Rattle.edge_reader.specs.Edges.{Cleared, left, left_after, EdgeNext, NextAs, GraphReading}
use Rattle.edge_reader.specs.declared.EdgeText.{EdgeText}
use Rattle.edge_reader.specs.declared.Edge.{Edge}

-- A refusal reports itself, whatever the outputs hold.
pub read_refused : {o : Outcome Graph} {row column : List ℕ} {weight : List ℤ} (x : Refusal) → refuses x.fault x.place ≡ o →
    {y : Outcome Shape} → y ≡ Err x → GraphReading o y row column weight
read_refused x e same = record {
  says = same ∙ ap (λ (o : Outcome Graph). (reported shape_of o)) e;
  rows = holds_refused (sym e);
  columns = holds_refused (sym e);
  weights = holds_refused (sym e);
}

-- What was read is what another outcome yields, where the two are the same.
pub read_as : {o W : Outcome Graph} {r : (Outcome Shape)} {row column : List ℕ} {weight : List ℤ} → GraphReading o r row column weight → o ≡ W →
    GraphReading W r row column weight
read_as {r = r} {row} {column} {weight} R e = subst (λ o. GraphReading o r row column weight) e R

refusal_is : {x y : Refusal} → x ≡ y → ◌≡◌ {A = Outcome Graph} (refuses x.fault x.place) (refuses y.fault y.place)
refusal_is e = ap (λ (z : Refusal). refuses z.fault z.place) e

-- The loop has read i edges of the shape's; W is what reading yields.
pub record EdgeTurn (what : EdgeText) (t : Shape) (s : List ℕ) (W : Outcome Graph) (row column : List ℕ) (weight : List ℤ) (seen : List ℕ) (c : Cursor) (i : ℕ) : Type 0 where
  pub rows_read : List ℕ
  pub columns_read : List ℕ
  pub weights_read : List ℤ
  pub reached : Reached s c
  pub whole : left what s c (graph_of t rows_read columns_read weights_read) ≡ W
  pub row_count : length rows_read ≡ i
  pub column_count : length columns_read ≡ i
  pub weight_count : length weights_read ≡ i
  pub room : i ≤ t.edges
  pub sizes : shape_in_range t ≡ true
  pub row_holds : row ≡ filled 1024 0 rows_read
  pub column_holds : column ≡ filled 1024 0 columns_read
  pub weight_holds : weight ≡ filled 1024 (pos 0) weights_read
  pub flags : Seen seen rows_read columns_read i

pub turn_starts :
    {what : EdgeText} {t : Shape} {s : List ℕ} {row column : List ℕ} {weight : List ℤ} {c : Cursor} → Reached s c → shape_in_range t ≡ true →
    Cleared 1024 1024 1024 row column weight → (seen : List ℕ) → Seen seen [] [] 0 →
    EdgeTurn what t s (left what s c (no_edges t)) row column weight seen c 0
turn_starts r sizes Z seen flags = record {
  rows_read = [];
  columns_read = [];
  weights_read = [];
  reached = r;
  whole = refl;
  row_count = refl;
  column_count = refl;
  weight_count = refl;
  room = omega arith;
  sizes = sizes;
  row_holds = Z.rows ∙ filled_none 1024 0;
  column_holds = Z.columns ∙ filled_none 1024 0;
  weight_holds = Z.weights ∙ filled_none 1024 (pos 0);
  flags = flags;
}

-- One number more in an output.
edge_taken : {N : Type 0} (z : N) {out : List N} (xs : List N) {i : ℕ} (x y : N) → out ≡ filled 1024 z xs → length xs ≡ i → i < 1024 → y ≡ x →
    set out i y ≡ filled 1024 z (xs ++ (x ∷ []))
edge_taken z xs {i} x y holds count below same =
    ap₂ (λ o v. set o i v) holds same
    ∙ ap (λ k. set (filled 1024 z xs) k x) (sym count)
    ∙ filled_more 1024 z xs x (omega arith)

counts : {N : Type 0} (xs : List N) (x : N) {i : ℕ} → length xs ≡ i → length (xs ++ (x ∷ [])) ≡ i + 1
counts xs x e = length-append xs (x ∷ []) ∙ ap (λ k. k + 1) e

module _ {what : EdgeText} {t : Shape} {s : List ℕ} {W : Outcome Graph} {row column : List ℕ} {weight : List ℤ} {seen : List ℕ} {c : Cursor} {i : ℕ}
    (T : EdgeTurn what t s W row column weight seen c i) where
  abbrev graph : Graph
  graph = graph_of t T.rows_read T.columns_read T.weights_read

  few : t.edges ≤ 1024
  few = (sizes_hold t.kind t.rows t.columns t.edges T.sizes).few

  long : {N : Type 0} (z : N) (out xs : List N) → out ≡ filled 1024 z xs → length xs ≡ i → length out ≡ 1024
  long z out xs holds count = ap length holds ∙ filled-length 1024 z xs (omega (arith, T.room, few))

  pub row_length : length row ≡ 1024
  row_length = long 0 row T.rows_read T.row_holds T.row_count

  pub column_length : length column ≡ 1024
  column_length = long 0 column T.columns_read T.column_holds T.column_count

  pub weight_length : length weight ≡ 1024
  weight_length = long (pos 0) weight T.weights_read T.weight_holds T.weight_count

  -- What comes next says what reading yields.
  abbrev Comes : Outcome (Option (Edge × Cursor)) → Type 0
  Comes o = (row column : List ℕ) (weight : List ℤ) → ltb (length row) t.edges ≡ ltb i t.edges → NextAs what s c (graph_of t row column weight) o

  comes : (o : Outcome (Option (Edge × Cursor))) → Comes o → NextAs what s c graph o
  comes o F = F T.rows_read T.columns_read T.weights_read (ap (λ n. ltb n t.edges) T.row_count)

  pub turn_done : Comes (Ok None) → GraphReading W (Ok t) row column weight
  turn_done F =
      let e : Ok graph ≡ W = sym (comes (Ok None) F) ∙ T.whole in
      record {
        says = ap (λ (o : Outcome Graph). (reported shape_of o)) e;
        rows = holds_yields (sym e) T.row_holds;
        columns = holds_yields (sym e) T.column_holds;
        weights = holds_yields (sym e) T.weight_holds;
      }

  pub turn_refused : {x : Refusal} → Comes (Err x) → {y : Outcome Shape} → y ≡ Err x → GraphReading W y row column weight
  turn_refused {x} F same = read_refused x (sym (comes (Err x) F) ∙ T.whole) same

  module _ {e : Edge} {d : Cursor} (F : Comes (Ok (Some (e, d)))) where
    pub turn_next : EdgeNext what s c graph e d
    turn_next = comes (Ok (Some (e, d))) F

    pub turn_below : i < 1024
    turn_below = omega (arith, turn_next.more, T.row_count, few)

    pub turn_flagged : Flagged e.row × Flagged e.column
    turn_flagged = ends_flagged t.kind t.rows t.columns t.edges e.row e.column T.sizes turn_next.ranged.ends

    module _ {x : Bool} (noted : x ≡ eqb (get_or seen (flag_place e.row e.column) 0) 1) where
      noted_does : (b : Bool) → x ≡ b → left_after what s d (cond b (stops SameEnds) (goes (with_edge graph e.row e.column e.weight))) ≡ W
      noted_does b q =
          ap (λ (y : Bool). left_after what s d (cond {A = Step Graph} y (stops SameEnds) (goes (with_edge graph e.row e.column e.weight))))
          (sym (ap (λ n. joined graph n e.row e.column) T.row_count ∙ sym (seen_flag T.flags turn_flagged.0 turn_flagged.1) ∙ sym noted ∙ q))
          ∙ sym turn_next.does ∙ T.whole

      pub turn_repeats : x ≡ true → {y : Refusal} → y ≡ record { fault = SameEnds; place = d.line } → GraphReading W (Err y) row column weight
      turn_repeats q {y} same = read_refused y (refusal_is same ∙ noted_does true q) refl

      pub turn_takes : x ≡ false → (new : List ℕ) → new ≡ set seen (flag_place e.row e.column) 1 → {w : ℤ} → w ≡ e.weight →
          EdgeTurn what t s W (set row i e.row) (set column i e.column) (set weight i w) new d (i + 1)
      turn_takes q new put {w} same = record {
        rows_read = T.rows_read ++ (e.row ∷ []);
        columns_read = T.columns_read ++ (e.column ∷ []);
        weights_read = T.weights_read ++ (e.weight ∷ []);
        reached = turn_next.reached;
        whole = noted_does false q;
        row_count = counts T.rows_read e.row T.row_count;
        column_count = counts T.columns_read e.column T.column_count;
        weight_count = counts T.weights_read e.weight T.weight_count;
        room = omega (arith, turn_next.more, T.row_count);
        sizes = T.sizes;
        row_holds = edge_taken 0 T.rows_read e.row e.row T.row_holds T.row_count turn_below refl;
        column_holds = edge_taken 0 T.columns_read e.column e.column T.column_holds T.column_count turn_below refl;
        weight_holds = edge_taken (pos 0) T.weights_read e.weight w T.weight_holds T.weight_count turn_below same;
        flags = seen_append i new e.row e.column T.flags put T.row_count T.column_count turn_flagged.0 turn_flagged.1;
      }
