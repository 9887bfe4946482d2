-- What an output holds while a call that fills it has not cleared it again.
use Rattle.std.specs.Prelude.{ℕ, ◌≡◌, List, Ok}
use Rattle.graph.specs.Refusal.{Outcome, filled}

-- Where the call yields a result, an output of n numbers holds it, and then z. After a refusal it may hold anything.
pub record Holds {A N : Type 0} (n : ℕ) (z : N) (f : A → List N) (W : Outcome A) (out : List N) : Type 0 where
  pub result : (a : A) → W ≡ Ok a → out ≡ filled n z (f a)
