-- What the reader of assignment texts answers and leaves, from its tests and from what reading the lines yields.
use Rattle.std.specs.Prelude.{Ok, Err}
use Prim.Native.Nat.{ℕ, ◌≤◌}
use mathlib.Core.Path.{◌≡◌, refl, sym, ap, ◌∙◌, subst}
use mathlib.Core.Bool.{Bool, true, ◌&&◌}
use mathlib.Core.List.{List, [], ◌∷◌}
use lib.Dec.{eqb}
use lib.IntN.{ℤ, pos}
use lib.ListN.{length, replicate, length-replicate}
use borrow.Author.Tests.{eqb-true}
use Rattle.graph.specs.declared.Fault.TheVariants.{TextLength, Sizes, LentLength}
use Rattle.graph.specs.declared.Refusal.{Refusal}
use Rattle.graph.specs.declared.Shape.{Shape}
use Rattle.graph.specs.Refusal.{Outcome, reported, filled, output, Test, once, passing}
use Rattle.graph.specs.Graph.{Graph, shape_of, vertices_in}
use Rattle.graph.proofs.Passing.{zero_one, once-yields}
use Rattle.graph.proofs.Ranges.{both}
use Rattle.layout.specs.Text.{text_fits}
use Rattle.layout.specs.AssignmentText.{read_arcs, read_assignment, unit_bounds}
use Rattle.assignments.proofs.Passes.{assignment_passes}
use Rattle.checks.proofs.Refusals.{checked_passed, checked_refused}
use Rattle.lent.proofs.Filling.{left-refused}
use Rattle.edge_reader.specs.Edges.{Cleared, GraphReading}
use Rattle.edge_reader.proofs.Whole.{GraphAnswered, cleared_again, lengths_right, refused_leaves, shape_read, whole_read, whole_refused}

-- What a call that yields W answers and leaves, where its outputs have r, c, w and b numbers.
abbrev pub AssignmentAnswered : Outcome Graph → ℕ → ℕ → ℕ → ℕ → (Outcome Shape) → List ℕ → List ℕ → List ℤ → List ℤ → Type 0
AssignmentAnswered W r c w b a row column weight bound =
    (a ≡ reported shape_of W)
    × ((row ≡ output r 0 (λ (g : Graph). g.row) W)
    × ((column ≡ output c 0 (λ (g : Graph). g.column) W)
    × ((weight ≡ output w (pos 0) (λ (g : Graph). g.weight) W) × (bound ≡ output b (pos 0) unit_bounds W))))

with-bounds : (W : Outcome Graph) (r c w b : ℕ) (a : (Outcome Shape)) {row column : List ℕ} {weight bound : List ℤ} → GraphAnswered W r c w a row column weight →
    bound ≡ output b (pos 0) unit_bounds W → AssignmentAnswered W r c w b a row column weight bound
with-bounds W r c w b a G B = (G.0, (G.1.0, (G.1.1.0, (G.1.1.1, B))))

-- The bounds of a graph that was read, whose shape is t.
bounds_of : (W : Outcome Graph) {t : Shape} → Ok t ≡ reported shape_of W → filled 128 (pos 0) (replicate (vertices_in t) (pos 1)) ≡ output 128 (pos 0) unit_bounds W
bounds_of (Ok g) {t} e = let q : t ≡ shape_of g = cc in ap (λ (u : Shape). filled 128 (pos 0) (replicate (vertices_in u) (pos 1))) q
bounds_of (Err refusal) e = zero_one (cc)

few_of : (W : Outcome Graph) {t : Shape} → ((g : Graph) → W ≡ Ok g → vertices_in (shape_of g) ≤ 128) → Ok t ≡ reported shape_of W → vertices_in t ≤ 128
few_of (Ok g) {t} few e = let q : shape_of g ≡ t = cc in subst (λ (u : Shape). vertices_in u ≤ 128) q (few g refl)
few_of (Err refusal) few e = zero_one (cc)

abbrev text_tests : Bool → List ℕ → List Test
text_tests lent s = once LentLength lent ∷ once Sizes true ∷ once TextLength (text_fits s) ∷ []

abbrev lent_right : ℕ → ℕ → ℕ → ℕ → Bool
lent_right r c w b = eqb r 1024 && eqb c 1024 && eqb w 1024 && eqb b 128

-- The answer a is that of the tests, where the outputs have r, c, w and b numbers.
pub record TextTested (r c w b : ℕ) (s : List ℕ) (a : Outcome (Unit {0})) : Type 0 where
  pub says : a ≡ passing (text_tests (lent_right r c w b) s) (Ok tt)

-- The lengths were tested after the outputs were cleared.
pub tested : {r c w b : ℕ} {s : List ℕ} {row column : List ℕ} {weight bound : List ℤ} {a : Outcome (Unit {0})} → Cleared r c w row column weight → bound ≡ replicate b (pos 0) →
    {lent : Bool} → lent ≡ (eqb (length row) 1024 && eqb (length column) 1024 && eqb (length weight) 1024 && eqb (length bound) 128) →
    a ≡ passing (text_tests lent s) (Ok tt) → TextTested r c w b s a
tested {r} {c} {w} {b} {s} {row} {column} {weight} {bound} C zeros q says = record {
  says = says ∙ ap (λ (x : Bool). passing (text_tests x s) (Ok (tt {0}))) (q ∙ ap (λ (x : Bool). x && eqb (length bound) 128) (lengths_right C refl)
      ∙ ap (λ k. eqb r 1024 && eqb c 1024 && eqb w 1024 && eqb k 128) (ap length zeros ∙ length-replicate b (pos 0)));
}

module _ {r c w b : ℕ} {s : List ℕ} {a : Outcome (Unit {0})} (T : TextTested r c w b s a) where
  abbrev whole : Outcome Graph
  whole = read_assignment r c w b s

  pub lent_refused : {x : Refusal} {row column : List ℕ} {weight bound : List ℤ} → a ≡ Err x → {y : Outcome Shape} → y ≡ Err x → Cleared r c w row column weight →
      bound ≡ replicate b (pos 0) → AssignmentAnswered whole r c w b y row column weight bound
  unfolding read_assignment
  lent_refused {x} is {y} same C zeros =
      let e = ap (reported shape_of) (sym (checked_refused (text_tests (lent_right r c w b) s) (read_arcs s) T.says is)) in
      with-bounds whole r c w b y (refused_leaves C whole x e same) (zeros ∙ left-refused b (pos 0) unit_bounds shape_of whole x.fault x.place e)

  module _ (is : a ≡ Ok tt) where
    lent_long : (eqb r 1024 && eqb c 1024 && eqb w 1024 ≡ true) × (eqb b 128 ≡ true)
    lent_long =
        both (eqb r 1024 && eqb c 1024 && eqb w 1024) (eqb b 128)
        (once-yields LentLength (lent_right r c w b) (once Sizes true ∷ once TextLength (text_fits s) ∷ []) (Ok tt) tt (sym T.says ∙ is)).0

    edges-long : (r ≡ 1024) × (c ≡ 1024) × (w ≡ 1024)
    edges-long =
        let q = both (eqb r 1024 && eqb c 1024) (eqb w 1024) lent_long.0 in
        let t = both (eqb r 1024) (eqb c 1024) q.0 in
        (eqb-true r 1024 t.0, eqb-true c 1024 t.1, eqb-true w 1024 q.1)

    bound-long : b ≡ 128
    bound-long = eqb-true b 128 lent_long.1

    pub lent_cleared : {row column : List ℕ} {weight : List ℤ} → Cleared r c w row column weight → Cleared 1024 1024 1024 row column weight
    lent_cleared C = cleared_again C edges-long.0 edges-long.1 edges-long.2

    pub bounds_cleared : {bound : List ℤ} → bound ≡ replicate b (pos 0) → bound ≡ replicate 128 (pos 0)
    bounds_cleared zeros = zeros ∙ ap (λ k. replicate k (pos 0)) bound-long

    passed : read_arcs s ≡ whole
    unfolding read_assignment
    passed = sym (checked_passed (text_tests (lent_right r c w b) s) (read_arcs s) T.says is)

    -- The arcs were read.
    module _ {t : Shape} {row column : List ℕ} {weight : List ℤ} (R : GraphReading (read_arcs s) (Ok t) row column weight) where
      pub read_few : vertices_in t ≤ 128
      read_few = few_of whole (λ h e. (assignment_passes r c w b s h e).0.sound.sizes.order) (shape_read whole passed (Ok t) R)

      pub answered_read : {bound : List ℤ} → bound ≡ filled 128 (pos 0) (replicate (vertices_in t) (pos 1)) →
          AssignmentAnswered whole r c w b (Ok t) row column weight bound
      answered_read set =
          with-bounds whole r c w b (Ok t) (whole_read whole passed (Ok t) R edges-long refl)
          (set ∙ bounds_of whole (shape_read whole passed (Ok t) R) ∙ ap (λ k. output k (pos 0) unit_bounds whole) (sym bound-long))

    -- A line was refused.
    pub answered_refused : {x : Refusal} {row column : List ℕ} {weight : List ℤ} → GraphReading (read_arcs s) (Err x) row column weight →
        {rowₙ columnₙ : List ℕ} {weightₙ bound : List ℤ} → Cleared r c w rowₙ columnₙ weightₙ →
        bound ≡ replicate b (pos 0) → AssignmentAnswered whole r c w b (Err x) rowₙ columnₙ weightₙ bound
    answered_refused {x} R C zeros =
        with-bounds whole r c w b (Err x) (whole_refused whole passed (Err x) R refl C)
        (zeros ∙ left-refused b (pos 0) unit_bounds shape_of whole x.fault x.place (shape_read whole passed (Err x) R))
