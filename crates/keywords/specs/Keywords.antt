-- What the functions on fixed words say of a line.
use Rattle.std.specs.Prelude.{ℕ, ◌≤◌, ◌≡◌, Bool, true, false, List, [], ◌∷◌, length, drop, Some, None, Option}
use Rattle.layout.specs.Text.{words, same, same_folded}

-- A word stands next from a place on, and another place is after it.
pub record WordAt (l : List ℕ) (at : ℕ) (w : List ℕ) (end : ℕ) : Type 0 where
  pub ahead : words (drop at l) ≡ w ∷ words (drop end l)
  pub inside : end ≤ length l

-- How far the words of a header are found in a line: those from a place on are to be ks.
abbrev pub within : List ℕ → (Option ℕ) → Type 0
within l (Some at) = at ≤ length l
within l None = Unit {0}

abbrev pub follow : List ℕ → (Option ℕ) → List (List ℕ) → Bool
follow l (Some at) ks = same_folded (words (drop at l)) ks
follow l None ks = false

-- The word k is taken from a place on: what may follow it is what may follow the answer.
pub record KeyTaken (l : List ℕ) (from : (Option ℕ)) (k : List ℕ) (r : (Option ℕ)) : Type 0 where
  pub inside : within l r
  pub rest : (ks : List (List ℕ)) → follow l r ks ≡ follow l from (k ∷ ks)

-- The first word of a line is k, its case kept, and a place is after it; or it is another, or there is none.
abbrev pub first_is : List ℕ → List (List ℕ) → Bool
first_is k [] = false
first_is k (w ∷ ws) = same w k

pub record FirstAt (l k : List ℕ) (at : ℕ) : Type 0 where
  pub inside : at ≤ length l
  pub read : List ℕ
  pub ahead : words l ≡ read ∷ words (drop at l)
  pub is : same read k ≡ true

abbrev pub FirstWord : List ℕ → List ℕ → (Option ℕ) → Type 0
FirstWord l k (Some at) = FirstAt l k at
FirstWord l k None = first_is k (words l) ≡ false
