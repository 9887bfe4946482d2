-- What an exported call returns, tells and leaves follows from the outcome o that the call below it tells.
use Rattle.graph.specs.declared.Shape.{Shape}
use Rattle.std.specs.Prelude.{Ok, Err}
use Prim.Native.Nat.{ℕ}
use mathlib.Core.Path.{◌≡◌, refl, ap, ◌∙◌}
use mathlib.Core.List.{List}
use lib.IntN.{ℤ, pos}
use lib.ListN.{length}
use Rattle.graph.specs.Refusal.{Outcome, refuses, reported, output}
use Rattle.graph.specs.Graph.{Graph, shape_of}
use Rattle.dual.specs.declared.Measures.{Measures}
use Rattle.dual.specs.Solve.{Lent, Outputs, solve, Left}
use Rattle.telling.specs.Telling.{number_in, place_in, shape_told, length_told}
use Rattle.jangoripu.specs.Exports.{measures_told, GraphRead, Filled, Tested, TextWritten, Measured, GraphSolved}

-- A report keeps the number and the place of a refusal.
pub number_kept : {A B : Type 0} (f : A → B) (W : Outcome A) → number_in (reported f W) ≡ number_in W
number_kept f (Ok a) = refl
number_kept f (Err refusal) = refl

pub place_kept : {A B : Type 0} (f : A → B) (W : Outcome A) → place_in (reported f W) ≡ place_in W
place_kept f (Ok a) = refl
place_kept f (Err refusal) = refl

pub graph-read :
    (a : Outcome Shape) {W : Outcome Graph} {i j k r : ℕ} {answer row column : List ℕ} {weight : List ℤ} → a ≡ reported shape_of W
    → row ≡ output i 0 (λ g. g.row) W → column ≡ output j 0 (λ g. g.column) W → weight ≡ output k (pos 0) (λ g. g.weight) W
    → (r ≡ number_in a) × (answer ≡ shape_told a) → GraphRead W i j k r answer row column weight
graph-read a {W} e rows columns weights tells =
    record {
      number = tells.0 ∙ ap number_in e ∙ number_kept shape_of W;
      told = tells.1 ∙ ap shape_told e;
      rows = rows;
      columns = columns;
      weights = weights;
    }

module _ {r place : ℕ} where
  pub filling_told :
      {N : Type 0} (o : Outcome (Unit {0})) {W : Outcome (List N)} {n : ℕ} {z : N} {out : List N} → o ≡ reported (λ xs. tt) W
      → out ≡ output n z (λ xs. xs) W → (r ≡ number_in o) × (place ≡ place_in o) → Filled N W n z r place out
  filling_told o {W} e holds tells = record {
    number = tells.0 ∙ ap number_in e ∙ number_kept (λ xs. tt) W;
    told = tells.1 ∙ ap place_in e ∙ place_kept (λ xs. tt) W;
    holds = holds;
  }

  pub testing_told : (o : Outcome (Unit {0})) {W : Outcome (Unit {0})} → o ≡ W → (r ≡ number_in o) × (place ≡ place_in o) → Tested W r place
  testing_told o e tells = record { number = tells.0 ∙ ap number_in e; told = tells.1 ∙ ap place_in e }

  pub graph_solved :
      (o : Outcome (Unit {0})) {g : Graph} {bound : List ℤ} {index : List ℕ} {lent : Lent} {S : Outputs} {workspace : List ℤ}
      → o ≡ solve g bound index lent → Left g bound index lent S workspace → (r ≡ number_in o) × (place ≡ place_in o)
      → GraphSolved g bound index lent r place S workspace
  graph_solved o e leaves tells = record { number = tells.0 ∙ ap number_in e; told = tells.1 ∙ ap place_in e; leaves = leaves }

  pub measuring-told : (o : Outcome Measures) {W : Outcome Measures} → o ≡ W → {numbers : List ℤ} → numbers ≡ measures_told o
      → (r ≡ number_in o) × (place ≡ place_in o) → Measured W r place numbers
  measuring-told o e holds tells = record { number = tells.0 ∙ ap number_in e; told = tells.1 ∙ ap place_in e; holds = holds ∙ ap measures_told e }

pub text_written :
    (a : Outcome ℕ) {W : Outcome (List ℕ)} {n r : ℕ} {answer out : List ℕ} → a ≡ reported length W → out ≡ output n 0 (λ t. t) W
    → (r ≡ number_in a) × (answer ≡ length_told a) → TextWritten W n r answer out
text_written a {W} e holds tells =
    record { number = tells.0 ∙ ap number_in e ∙ number_kept length W; told = tells.1 ∙ ap length_told e; holds = holds }
