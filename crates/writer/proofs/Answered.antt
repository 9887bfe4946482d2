-- What a call that yields a text answers and leaves, after a refusal and once the text has been written.
use Rattle.std.specs.Prelude.{Ok, Err}
use Prim.Native.Nat.{ℕ}
use mathlib.Core.Path.{◌≡◌, sym, ap, ◌∙◌}
use mathlib.Core.List.{List}
use lib.ListN.{length}
use Rattle.graph.specs.declared.Refusal.{Refusal}
use Rattle.graph.specs.Refusal.{Outcome, refuses, reported, output}
use Rattle.writer.specs.Written.{Written, left_by}

module _ {W : Outcome (List ℕ)} {m n : ℕ} {xs : List ℕ} (is : W ≡ Ok xs) (size : n ≡ m) {after : List ℕ} {r : ℕ} (w : Written m xs after r) where
  pub answered : Ok r ≡ reported length W
  answered = ap Ok w.size ∙ sym (ap (λ (o : Outcome (List ℕ)). (reported length o)) is)

  pub filled_in : after ≡ output n 0 (λ t. t) W
  filled_in = w.text ∙ ap (λ j. output {A = List ℕ} j 0 (λ t. t) (Ok xs)) (sym size) ∙ sym (ap (output n 0 (λ t. t)) is)

module _ {W : Outcome (List ℕ)} {f : Refusal} (is : W ≡ refuses f.fault f.place) where
  pub refused_answer : Err f ≡ reported length W
  refused_answer = sym (ap (λ (o : Outcome (List ℕ)). (reported length o)) is)

  pub refused_output : {t : Outcome (Unit {0})} (d : List ℕ) {after : List ℕ} → t ≡ Err f → after ≡ left_by t d → after ≡ output (length d) 0 (λ t. t) W
  refused_output d e l = l ∙ ap (λ (o : Outcome (Unit {0})). left_by o d) e ∙ sym (ap (output (length d) 0 (λ t. t)) is)

pub left_passed : {t : Outcome (Unit {0})} {d after : List ℕ} {u : Unit {0}} → after ≡ left_by t d → t ≡ Ok u → after ≡ d
left_passed {d = d} l e = l ∙ ap (λ (o : Outcome (Unit {0})). left_by o d) e
