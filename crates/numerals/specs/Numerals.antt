-- What the readers of integers say, and how many digits a number has.
use Rattle.std.specs.Prelude.{ℕ, ◌^◌, ◌<◌, ◌≡◌, refl, [], Option, None, Some}
use Rattle.layout.specs.declared.Rules.{Rules}
use Rattle.layout.specs.declared.Rules.TheVariants.{New, Old}
use Rattle.layout.specs.Text.{numeral, natural, integer}

-- A number that was read has at most nine digits.
abbrev pub NineDigits : Option ℕ → Type 0
NineDigits None = Unit {0}
NineDigits (Some n) = n < 10 ^ 9

-- A word of no bytes is no number.
pub natural_empty : (rules : Rules) → natural rules [] ≡ None
unfolding natural numeral
natural_empty New = refl
natural_empty Old = refl

pub integer_empty : (rules : Rules) → integer rules [] ≡ None
unfolding integer
integer_empty rules = refl
