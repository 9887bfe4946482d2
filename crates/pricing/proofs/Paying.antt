-- What the price of an edge is told from.
use Prim.Native.Nat.{ℕ, ◌*◌}
use mathlib.Core.Path.{◌≡◌, ap}
use mathlib.Core.List.{List}
use native.Mathlib.Omega.{arith}
use Rattle.graph.specs.Graph.{Graph}
use Rattle.graph.specs.Passed.{Passed}
use Rattle.method.specs.Method.{Good}
use Rattle.method.proofs.Solvable.{marks_hold}
use Rattle.pricing.specs.Pricing.{Payable}

-- A number times a mark.
pub times_one : (k a : ℕ) → k ≡ 1 → k * a ≡ a
times_one k a e = omega (arith, ap (λ n. n * a) e)

pub times_none : (k a : ℕ) → k ≡ 0 → k * a ≡ 0
times_none k a e = omega (arith, ap (λ n. n * a) e)

-- What is kept throughout can be paid.
pub payable : {g : Graph} {least most : ℕ → ℕ} {x : List ℕ} {price : ℕ → ℕ} → Passed g → Good g least most x price → Payable g x price
payable p good = record { passed = p; most = λ v l. omega (arith, good.high v l); marks = marks_hold good; chosen = good.chosen }
