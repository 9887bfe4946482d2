-- One law for every loop that searches: for the lowest item that breaks a test, or for an item with a property.
use Rattle.std.specs.Prelude.{None, Some, Option}
use Prim.Native.Nat.{ℕ, ◌+◌, ◌≤◌, ◌<◌}
use mathlib.Core.Path.{◌≡◌, sym, ap, ◌∙◌}
use mathlib.Core.Bool.{Bool, true, false}
use native.Mathlib.Omega.{arith}
use borrow.Author.Count.{below_none, below_more}
use Rattle.graph.specs.Refusal.{lowest}
use Rattle.graph.specs.Graph.{some?}
use Rattle.graph.proofs.Passing.{none_lowest, some_lowest, some_yes, none_some}

-- Of n items, each below i keeps the test f.
pub record KeptBelow (n : ℕ) (f : ℕ → Bool) (i : ℕ) : Type 0 where
  pub within : i ≤ n
  pub before : (k : ℕ) → k < i → f k ≡ true

module _ {n : ℕ} {f : ℕ → Bool} where
  pub kept_none : KeptBelow n f 0
  kept_none = record { within = omega arith; before = below_none (λ k. f k ≡ true) }

  module _ {i : ℕ} (K : KeptBelow n f i) where
    pub kept_more : i < n → f i ≡ true → KeptBelow n f (i + 1)
    kept_more l e = record { within = omega arith; before = below_more (λ k. f k ≡ true) i K.before e }

    pub kept_broken : i < n → f i ≡ false → Some i ≡ lowest n f
    kept_broken l e = sym (some_lowest n f i (record { among = l; breaks = e; before = K.before }))

    pub kept_all : n ≤ i → None ≡ lowest n f
    kept_all l = sym (none_lowest n f (λ k b. K.before k (omega arith)))

-- Of n items, none below i has the property f.
pub record Unseen (n : ℕ) (f : ℕ → Bool) (i : ℕ) : Type 0 where
  pub within : i ≤ n
  pub before : (k : ℕ) → k < i → f k ≡ false

module _ {n : ℕ} {f : ℕ → Bool} where
  pub unseen_none : Unseen n f 0
  unseen_none = record { within = omega arith; before = below_none (λ k. f k ≡ false) }

  module _ {i : ℕ} (U : Unseen n f i) where
    pub unseen_more : i < n → f i ≡ false → Unseen n f (i + 1)
    unseen_more l e = record { within = omega arith; before = below_more (λ k. f k ≡ false) i U.before e }

    pub unseen_seen : i < n → f i ≡ true → true ≡ some? n f
    unseen_seen l e = sym (some_yes n f i l e)

    pub unseen_all : n ≤ i → false ≡ some? n f
    unseen_all l = sym (none_some n f (λ k b. U.before k (omega arith)))

-- A search over n items, which are k, has answered r, which is m.
pub says : (f : ℕ → Bool) {r m : (Option ℕ)} {n k : ℕ} → r ≡ lowest n f → r ≡ m → n ≡ k → lowest k f ≡ m
says f {r} {m} {n} {k} e i j = sym (ap (λ l. lowest l f) j) ∙ sym e ∙ i
