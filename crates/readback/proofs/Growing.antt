-- Lines that grow item by item: how long they are, that no line has a byte 10, and what reading them leads to.
use mathlib.Core.Path.{◌≡◌, sym, ap, ◌∙◌}
use mathlib.Core.List.{List, [], ◌++◌}
use Prim.Native.Nat.{ℕ, zero, suc, ◌+◌, ◌*◌, ◌≤◌, ◌<◌}
use native.Mathlib.Nat.{suc-mul}
use native.Mathlib.Numerals.{add-one}
use native.Mathlib.Omega.{arith}
use lib.ListN.{length, length-append}
use Rattle.layout.specs.Text.{newline, unlines}
use Rattle.readback.proofs.Pieces.{AllFree, all_free_append, unlines-append, length-no_line}
use Rattle.readback.proofs.Reaches.{Reaches, reaches_none, reaches_append}

-- Item n brings the lines `of n`, and `up_to n` are those of the first n items.
pub record Growing (of up_to : ℕ → List (List ℕ)) : Type 0 where
  pub start : up_to 0 ≡ []
  pub step : (n : ℕ) → up_to (suc n) ≡ up_to n ++ of n

module _ {of up_to : ℕ → List (List ℕ)} (G : Growing of up_to) where
  -- The text of one item more.
  pub growing_text : (n : ℕ) → unlines (up_to (suc n)) ≡ unlines (up_to n) ++ unlines (of n)
  growing_text n = ap unlines (G.step n) ∙ unlines-append (up_to n) (of n)

  -- As a loop writes it: of no item, and of item n after the first n.
  pub growing_none : [] ≡ unlines (up_to 0)
  unfolding unlines
  growing_none = ap unlines (sym G.start)

  pub growing_next : (n : ℕ) → unlines (up_to n) ++ unlines (of n) ≡ unlines (up_to (n + 1))
  growing_next n = sym (growing_text n) ∙ ap (λ (j : ℕ). unlines (up_to j)) (sym (add-one n))

  pub growing_le : (m k : ℕ) → ((n : ℕ) → n < m → length (unlines (of n)) ≤ k) → (n : ℕ) → n ≤ m → length (unlines (up_to n)) ≤ n * k
  growing_le m k each zero l = omega (arith, ap (λ (ls : List (List ℕ)). length (unlines ls)) G.start, length-no_line)
  growing_le m k each (suc n) l =
      omega (
        arith,
        growing_le m k each n (omega arith),
        ap length (growing_text n),
        length-append (unlines (up_to n)) (unlines (of n)),
        each n l,
        suc-mul n k,
      )

  pub growing_free : ((n : ℕ) → AllFree newline (of n)) → (n : ℕ) → AllFree newline (up_to n)
  growing_free each zero = rw G.start tt
  growing_free each (suc n) = rw (G.step n) (all_free_append newline (up_to n) (of n) (growing_free each n) (each n))

  -- Where the lines of each item lead from one state to the next, all lead from the first to the last.
  pub growing_reaches : {S R : Type 0} (read : ℕ → S → List (List ℕ) → R) (m : ℕ) (state : ℕ → S)
      → ((n : ℕ) → n < m → Reaches read (state n) (of n) (state (suc n))) → (n : ℕ) → n ≤ m → Reaches read (state 0) (up_to n) (state n)
  growing_reaches read m state each zero l = rw G.start (reaches_none read (state 0))
  growing_reaches read m state each (suc n) l =
      rw (G.step n)
      (reaches_append read (state 0) (state n) (state (suc n)) (up_to n) (of n) (growing_reaches read m state each n (omega arith)) (each n l))
