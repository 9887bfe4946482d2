-- The scanning loops: how many bytes a loop passes that goes on while a test holds.
use mathlib.Core.Path.{◌≡◌, refl}
use mathlib.Core.Bool.{Bool, true, false, cond}
use mathlib.Core.List.{List, [], ◌∷◌}
use Prim.Native.Nat.{ℕ, suc, ◌+◌, ◌≤◌, ◌<◌}
use native.Mathlib.Numerals.{add-one}
use native.Mathlib.Omega.{arith}
use lib.ListN.{length, drop, get_or, drop_of_length-le}
use lib.Seq.{drop-cons}
use Rattle.text.specs.Cursor.{run, past}

module _ (p : ℕ → Bool) where
  run-cons_true : (x : ℕ) (xs : List ℕ) → p x ≡ true → run p (x ∷ xs) ≡ suc (run p xs)
  unfolding run
  run-cons_true x xs h = rw h

  run-cons_false : (x : ℕ) (xs : List ℕ) → p x ≡ false → run p (x ∷ xs) ≡ 0
  unfolding run
  run-cons_false x xs h = rw h

  run-nil : run p [] ≡ 0
  unfolding run
  run-nil = refl

  pub run-le : (l : List ℕ) → run p l ≤ length l
  unfolding run
  run-le [] = omega arith
  run-le (x ∷ xs) = go (p x) (run-le xs)
    where
      go : (b : Bool) → run p xs ≤ length xs → cond b (suc (run p xs)) 0 ≤ suc (length xs)
      go true h = omega arith
      go false h = omega arith

  run-hit : (s : List ℕ) (i : ℕ) → i < length s → p (get_or s i 0) ≡ false → run p (drop i s) ≡ 0
  run-hit s i lt h = rw (drop-cons s i 0 lt) (run-cons_false (get_or s i 0) (drop (suc i) s) h)

  run-miss : (s : List ℕ) (i : ℕ) → i < length s → p (get_or s i 0) ≡ true → run p (drop i s) ≡ suc (run p (drop (i + 1) s))
  run-miss s i lt h = rw (drop-cons s i 0 lt, add-one) (run-cons_true (get_or s i 0) (drop (suc i) s) h)

  run_end : (s : List ℕ) (i : ℕ) → length s ≤ i → run p (drop i s) ≡ 0
  run_end s i le = rw (drop_of_length-le s le) run-nil

-- The invariant of a scan from `from` that has come to i.
abbrev pub Scan : (ℕ → Bool) → List ℕ → ℕ → ℕ → Type 0
Scan p s from i = (i ≤ length s) × (past p s from ≡ past p s i)

module _ (p : ℕ → Bool) (s : List ℕ) (from i : ℕ) (inv : Scan p s from i) where
  pub scan_more : i < length s → p (get_or s i 0) ≡ true → Scan p s from (i + 1)
  scan_more lt h = (omega arith, omega (arith, run-miss p s i lt h))

  pub scan_stop : i < length s → p (get_or s i 0) ≡ false → i ≡ past p s from
  scan_stop lt h = omega (arith, run-hit p s i lt h)

  pub scan_end : length s ≤ i → i ≡ past p s from
  scan_end le = omega (arith, run_end p s i le)
