-- What is written of a byte, a word, a line and a text, on plain values.
use Rattle.std.specs.Prelude.{Some, Option}
use mathlib.Core.Path.{◌≡◌, refl, sym, ap, ap₂, ◌∙◌, subst}
use mathlib.Core.List.{List, [], ◌∷◌}
use Prim.Native.Nat.{ℕ, ◌+◌, ◌≤◌, ◌<◌}
use native.Mathlib.Omega.{arith}
use native.Mathlib.Nat.{zero-add}
use lib.IntN.{ℤ}
use Rattle.layout.specs.declared.Rules.TheVariants.{Old}
use Rattle.layout.specs.Text.{integer, signed}
use Rattle.layout.specs.Rewrite.{written_as, word_anew}
use Rattle.rewriting.proofs.Written.{old_way, old_long}
use lib.ListN.{length, take, drop, get_or, drop_of_length-le}
use lib.Seq.{drop-cons, take_at}
use Rattle.digits.specs.declared.Writer.{Writer}
use Rattle.digits.specs.Puts.{Puts, over}
use Rattle.digits.specs.Appends.{Appends}
use Rattle.digits.proofs.Appending.{appends_none, appends_same}
use Rattle.anew.specs.Anew.{byte_at}

-- ---- a byte

byte_none : (s : List ℕ) (e : ℕ) → length s ≤ e → byte_at s e ≡ []
byte_none s e h = ap (take 1) (drop_of_length-le s h)

pub byte_some : (s : List ℕ) (e : ℕ) → e < length s → byte_at s e ≡ get_or s e 0 ∷ []
byte_some s e h = ap (take 1) (drop-cons s e 0 h)

-- There is room for it where there is room for what is put.
pub byte_one : (s : List ℕ) (e : ℕ) → e < length s → length (byte_at s e) ≡ 1
byte_one s e h = ap length (byte_some s e h)

pub no_byte_put : (w : Writer) (s : List ℕ) (e : ℕ) → length s ≤ e → Appends w (byte_at s e) w
no_byte_put w s e h = appends_same (appends_none w) (sym (byte_none s e h))

-- ---- a word

-- What was written at the start of a part of bytes stands at its start.
pub put_first : {d xs after : List ℕ} {k : ℕ} → Puts d 0 xs after k → take k after ≡ xs
unfolding over
put_first {d} {xs} P =
    ap₂ take (P.place ∙ zero-add (length xs)) P.text ∙ take_at xs (drop (0 + length xs) d) (length xs) refl

module _ (w : List ℕ) {r : Option ℤ} (says : r ≡ integer Old w) {z : ℤ} (is : r ≡ Some z) where
  number_is : integer Old w ≡ Some z
  number_is = sym says ∙ is

  -- Written by itself, it is the word anew, which is no longer than the word. The bytes that it was written to are l.
  module _ {v u : Writer} {y : ℤ} (start : v.at ≡ 0) (a : Appends v (signed y) u) (same : y ≡ z) {l : List ℕ} (l-is : l ≡ u.out.now) where
    number : take u.at l ≡ signed z
    number =
        let p : Puts v.out.now 0 (signed y) u.out.now u.at = subst (λ (k : ℕ). Puts v.out.now k (signed y) u.out.now u.at) start a.puts in
        ap (take u.at) l-is ∙ put_first p ∙ ap signed same

    pub number_word : take u.at l ≡ word_anew w
    number_word = number ∙ sym (ap (written_as w) number_is)

    pub number_room : (n m : ℕ) → n + length w ≤ m → n + length (take u.at l) ≤ m
    number_room n m h = omega (arith, ap length number, old_long (old_way w z number_is))
