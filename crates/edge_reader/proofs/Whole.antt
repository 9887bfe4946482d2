-- What a reader of a graph answers and leaves, from its tests and from what reading the lines yields.
use Rattle.std.specs.Prelude.{Ok, Err}
use Rattle.std.specs.Result.{is_err}
use Prim.Native.Nat.{ℕ}
use mathlib.Core.Path.{◌≡◌, refl, sym, ap, ◌∙◌, subst}
use mathlib.Core.Bool.{Bool, true, false, ◌&&◌}
use mathlib.Core.List.{List}
use lib.Dec.{eqb}
use lib.IntN.{ℤ, pos}
use lib.ListN.{length, replicate, length-replicate}
use Rattle.graph.proofs.Passing.{zero_one}
use Rattle.graph.specs.declared.Refusal.{Refusal}
use Rattle.graph.specs.declared.Shape.{Shape}
use Rattle.graph.specs.Refusal.{Outcome, refuses, reported, output}
use Rattle.graph.specs.Graph.{Graph, shape_of}
use Rattle.lent.specs.Holding.{Holds}
use Rattle.lent.proofs.Filling.{left-yields, left-refused}
use Rattle.edge_reader.specs.Edges.{Cleared, GraphReading}

-- What a call that yields W answers and leaves, where its outputs have r, c and w numbers.
abbrev pub GraphAnswered : Outcome Graph → ℕ → ℕ → ℕ → (Outcome Shape) → List ℕ → List ℕ → List ℤ → Type 0
GraphAnswered W r c w a row column weight =
    (a ≡ reported shape_of W)
    × ((row ≡ output r 0 (λ (g : Graph). g.row) W)
    × ((column ≡ output c 0 (λ (g : Graph). g.column) W) × (weight ≡ output w (pos 0) (λ (g : Graph). g.weight) W)))

-- The outputs that were cleared have the lengths that they had.
module _ {r c w : ℕ} {row column : List ℕ} {weight : List ℤ} (C : Cleared r c w row column weight) where
  pub row_kept : length row ≡ r
  row_kept = ap length C.rows ∙ length-replicate r 0

  pub column_kept : length column ≡ c
  column_kept = ap length C.columns ∙ length-replicate c 0

  pub weight-kept : length weight ≡ w
  weight-kept = ap length C.weights ∙ length-replicate w (pos 0)

  pub cleared_again : {i j k : ℕ} → r ≡ i → c ≡ j → w ≡ k → Cleared i j k row column weight
  cleared_again p q t = record {
    rows = C.rows ∙ ap (λ n. replicate n 0) p;
    columns = C.columns ∙ ap (λ n. replicate n 0) q;
    weights = C.weights ∙ ap (λ n. replicate n (pos 0)) t;
  }

  -- The lengths were tested.
  pub lengths_right : {b : Bool} → b ≡ (eqb (length row) 1024 && eqb (length column) 1024 && eqb (length weight) 1024) →
      b ≡ (eqb r 1024 && eqb c 1024 && eqb w 1024)
  lengths_right q =
      q ∙ ap (λ k. eqb k 1024 && eqb (length column) 1024 && eqb (length weight) 1024) row_kept
      ∙ ap (λ k. eqb r 1024 && eqb k 1024 && eqb (length weight) 1024) column_kept
      ∙ ap (λ k. eqb r 1024 && eqb c 1024 && eqb k 1024) weight-kept

  -- A refusal leaves the outputs all 0.
  pub refused_leaves : (W : Outcome Graph) (x : Refusal) → refuses x.fault x.place ≡ reported shape_of W → {a : Outcome Shape} → a ≡ Err x →
      GraphAnswered W r c w a row column weight
  refused_leaves W x e same = (
    same ∙ e,
    (
      C.rows ∙ left-refused r 0 (λ (g : Graph). g.row) shape_of W x.fault x.place e,
      (
        C.columns ∙ left-refused c 0 (λ (g : Graph). g.column) shape_of W x.fault x.place e,
        C.weights ∙ left-refused w (pos 0) (λ (g : Graph). g.weight) shape_of W x.fault x.place e,
      ),
    ),
  )

-- The tests have passed, so that the call yields what reading the lines does.
module _ (W : Outcome Graph) {o : Outcome Graph} (passed : o ≡ W) (g : Outcome Shape) {row column : List ℕ} {weight : List ℤ}
    (R : GraphReading o g row column weight) where
  pub shape_read : g ≡ reported shape_of W
  shape_read = R.says ∙ ap (λ (u : Outcome Graph). (reported shape_of u)) passed

  leaves : {N : Type 0} (z : N) (f : Graph → List N) {out : List N} {n : ℕ} → n ≡ 1024 → Holds 1024 z f o out → {t : Shape} → Ok t ≡ reported shape_of W →
      out ≡ output n z f W
  leaves z f {out} same H e = left-yields shape_of (subst (λ u. Holds 1024 z f u out) passed H) e ∙ ap (λ k. output k z f W) (sym same)

  -- Where no line was refused the outputs stay, and else they are cleared.
  pub whole_read : {r c w : ℕ} → (r ≡ 1024) × (c ≡ 1024) × (w ≡ 1024) → is_err g ≡ false → GraphAnswered W r c w g row column weight
  whole_read {r} {c} {w} long = go g shape_read
    where
      go : (h : Outcome Shape) → h ≡ reported shape_of W → is_err h ≡ false → GraphAnswered W r c w h row column weight
      go (Err x) e q = zero_one (cc)
      go (Ok t) e q = (
        e,
        (
          leaves 0 (λ h. h.row) long.0 R.rows e,
          (leaves 0 (λ h. h.column) long.1 R.columns e, leaves (pos 0) (λ h. h.weight) long.2 R.weights e),
        ),
      )

  pub whole_refused : {r c w : ℕ} {rowₙ columnₙ : List ℕ} {weightₙ : List ℤ} → is_err g ≡ true → Cleared r c w rowₙ columnₙ weightₙ →
      GraphAnswered W r c w g rowₙ columnₙ weightₙ
  whole_refused {r} {c} {w} {rowₙ} {columnₙ} {weightₙ} q C = go g shape_read q
    where
      go : (h : Outcome Shape) → h ≡ reported shape_of W → is_err h ≡ true → GraphAnswered W r c w h rowₙ columnₙ weightₙ
      go (Ok t) e q = zero_one (cc)
      go (Err x) e q = refused_leaves C W x e refl
