-- What a size or an index says, and which leading zeros are refused.
use Rattle.std.specs.Prelude.{ℕ, Bool, false, List}
use Rattle.layout.specs.declared.Rules.{Rules}
use Rattle.layout.specs.declared.Rules.TheVariants.{New, Old}
use Rattle.layout.specs.Text.{padded}

-- A leading zero that the rules do not take.
abbrev pub zero_refused : Rules → List ℕ → Bool
zero_refused New w = padded w
zero_refused Old w = false
