-- What tests yield after a check has made them.
use Rattle.std.specs.Prelude.{Ok, Err}
use mathlib.Core.Path.{◌≡◌, sym, ap, ◌∙◌}
use mathlib.Core.List.{List}
use Rattle.graph.specs.declared.Refusal.{Refusal}
use Rattle.graph.specs.Refusal.{Outcome, refuses, Test, passing}
use Rattle.graph.proofs.Passing.{go_on, passing-on}

-- What a call yields whose first tests have been made by a check.
module _ {A : Type 0} (ts : List Test) (rest : Outcome A) {r : (Outcome (Unit {0}))} (says : r ≡ passing ts (Ok tt)) where
  checked : (m : (Outcome (Unit {0}))) → r ≡ m → passing ts rest ≡ go_on (m) rest
  checked m is = passing-on ts rest ∙ ap (λ u. go_on u rest) (sym says ∙ is)

  pub checked_passed : r ≡ (Ok tt) → passing ts rest ≡ rest
  checked_passed is = checked (Ok tt) is

  pub checked_refused : {f : Refusal} → r ≡ Err f → passing ts rest ≡ refuses f.fault f.place
  checked_refused {f} is = checked (Err f) is
