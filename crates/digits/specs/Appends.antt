-- What a writer leaves of the bytes that it is lent.
use Rattle.std.specs.Prelude.{ℕ, ◌≡◌, List, length}
use Rattle.digits.specs.declared.Writer.{Writer}
use Rattle.digits.specs.Puts.{Puts}

-- The bytes xs were written at a writer's place, and it stands after them. It still writes to the same bytes.
pub record Appends (before : Writer) (xs : List ℕ) (after : Writer) : Type 0 where
  pub puts : Puts before.out.now before.at xs after.out.now after.at
  pub long : length after.out.now ≡ length before.out.now
  pub same : after.out.ghost_name ≡ before.out.ghost_name
