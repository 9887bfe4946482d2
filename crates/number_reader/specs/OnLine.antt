-- What the number reader's lines do, and what its answer and its output are while it reads.
use Rattle.graph.specs.declared.Fault.{Fault}
use Rattle.graph.specs.Refusal.{Outcome}
use Rattle.std.specs.Prelude.{ℕ, ◌≡◌, true, List, [], ◌∷◌, ◌++◌, ℤ, pos, Ok, Err, Result}
use Rattle.graph.specs.Refusal.{reported}
use Rattle.layout.specs.declared.Rules.{Rules}
use Rattle.layout.specs.declared.Numbers.{Numbers}
use Rattle.layout.specs.Lines.{Step, goes, stops, read_text}
use Rattle.layout.specs.NumberText.{in_range, number_layout}
use Rattle.lent.specs.Holding.{Holds}

-- What a size line does.
abbrev pub count_says : (Result (Unit {0}) Fault) → Step (List ℤ)
count_says (Ok tt) = goes []
count_says (Err f) = stops f

-- What a later line does after the numbers zs.
abbrev pub value_says : List ℤ → (Result ℤ Fault) → Step (List ℤ)
value_says zs (Ok z) = goes (zs ++ (z ∷ []))
value_says zs (Err f) = stops f

abbrev pub ValueInRange : Rules → Numbers → (Result ℤ Fault) → Type 0
ValueInRange rules what (Ok z) = in_range rules what z ≡ true
ValueInRange rules what (Err f) = Unit {0}

-- The answer r is what reading the text s by the rules yields, and the output holds it.
pub record NumbersReading (rules : Rules) (what : Numbers) (count : ℕ) (s : List ℕ) (r : (Outcome (Unit {0}))) (out : List ℤ) : Type 0 where
  pub says : r ≡ reported (λ zs. tt) (read_text (number_layout rules what count) s)
  pub holds : Holds count (pos 0) (λ zs. zs) (read_text (number_layout rules what count) s) out
