-- What an answer tells determines the outcome: no two faults have the same number.
use Rattle.std.specs.Prelude.{Ok, Err}
use Prim.Native.Nat.{ℕ}
use mathlib.Core.Path.{◌≡◌, refl, sym, ap, ◌∙◌}
use mathlib.Core.List.{[], ◌∷◌}
use lib.ListN.{get_or}
use Rattle.graph.specs.declared.Fault.{Fault}
use Rattle.graph.specs.declared.Fault.TheVariants.{TextLength, Header, SizeLine, Sizes, LaterLine, Ends, Weight, SameEnds}
use Rattle.graph.specs.declared.Fault.TheVariants.{LentLength, Bound, Mark, Degree, Price, OddSet, Uncovered, NotBipartite, Disagreement, WrongIndex}
use Rattle.graph.specs.declared.Fault.TheVariants.{BoundNotOne, AssignmentLine, Sources, NotDoubled}
use Rattle.graph.specs.Refusal.{number_of, Outcome, refuses, Told, tells, refused_with, told}

-- The faults by their numbers. No fault has the number 0, 22 or 23.
abbrev fault_with : ℕ → Fault
fault_with n =
    get_or
    (TextLength ∷ TextLength ∷ Header ∷ SizeLine ∷ Sizes ∷ LaterLine ∷ Ends ∷ Weight ∷ SameEnds ∷ LentLength ∷ Bound ∷ Mark ∷ Degree ∷ Price
    ∷ OddSet ∷ Uncovered ∷ NotBipartite ∷ Disagreement ∷ WrongIndex ∷ BoundNotOne ∷ AssignmentLine ∷ Sources
    ∷ TextLength ∷ TextLength ∷ NotDoubled ∷ [])
    n TextLength

fault_back : (f : Fault) → fault_with (number_of f) ≡ f
fault_back TextLength = refl
fault_back Header = refl
fault_back SizeLine = refl
fault_back Sizes = refl
fault_back LaterLine = refl
fault_back Ends = refl
fault_back Weight = refl
fault_back SameEnds = refl
fault_back LentLength = refl
fault_back Bound = refl
fault_back Mark = refl
fault_back Degree = refl
fault_back Price = refl
fault_back OddSet = refl
fault_back Uncovered = refl
fault_back NotBipartite = refl
fault_back Disagreement = refl
fault_back WrongIndex = refl
fault_back BoundNotOne = refl
fault_back AssignmentLine = refl
fault_back Sources = refl
fault_back NotDoubled = refl

abbrev outcome_of : {A : Type 0} → Told A → Outcome A
outcome_of (tells a) = Ok a
outcome_of (refused_with number place) = refuses (fault_with number) place

outcome_back : {A : Type 0} (o : Outcome A) → outcome_of (told o) ≡ o
outcome_back (Ok a) = refl
outcome_back (Err refusal) = ap (λ (f : Fault). refuses f refusal.place) (fault_back refusal.fault)

pub told_same : {A : Type 0} (o W : Outcome A) → told o ≡ told W → o ≡ W
told_same o W e = sym (outcome_back o) ∙ ap outcome_of e ∙ outcome_back W
