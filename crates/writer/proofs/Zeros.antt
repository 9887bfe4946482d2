-- A text that is written over zeros.
use mathlib.Core.Path.{◌≡◌, refl, sym, ap, ◌∙◌, subst}
use mathlib.Core.List.{List, ◌++◌}
use Prim.Native.Nat.{ℕ, ◌-◌}
use native.Mathlib.Nat.{zero-add}
use native.Mathlib.Omega.{arith}
use lib.ListN.{length, drop, replicate, length-replicate}
use Rattle.lent.proofs.Parts.{drop-zeros}
use Rattle.digits.specs.declared.Writer.{Writer}
use Rattle.digits.specs.Puts.{over, Puts}
use Rattle.digits.specs.Appends.{Appends}
use Rattle.digits.proofs.Appending.{moved}
use Rattle.writer.specs.Written.{Written}

-- Written at the start of n zeros, the text has zeros after its end.
pub over_zeros : (n : ℕ) (xs : List ℕ) → over (replicate n 0) 0 xs ≡ xs ++ replicate (n - length xs) 0
unfolding over
over_zeros n xs = ap (λ (l : List ℕ). xs ++ l) (ap (λ (k : ℕ). drop k (replicate n 0)) (zero-add (length xs)) ∙ drop-zeros 0 (length xs) n)

pub zeros-written : {n : ℕ} {xs after : List ℕ} {e : ℕ} → Puts (replicate n 0) 0 xs after e → Written n xs after e
zeros-written {n} {xs} p = record { text = p.text ∙ over_zeros n xs; size = omega (arith, p.place) }

pub zeros-long : {d : List ℕ} (n : ℕ) → d ≡ replicate n 0 → length d ≡ n
zeros-long n z = ap length z ∙ length-replicate n 0

-- A writer that began at the start of n zeros has written a text.
pub puts-zeroed : {w v : Writer} (n : ℕ) {xs : List ℕ} → w.out.now ≡ replicate n 0 → w.at ≡ 0 → Appends w xs v → Puts (replicate n 0) 0 xs v.out.now v.at
puts-zeroed {w} {v} n {xs} z s a =
    subst (λ (d : List ℕ). Puts d 0 xs v.out.now v.at) z (subst (λ (k : ℕ). Puts w.out.now k xs v.out.now v.at) s a.puts)

-- The writer v as it began, at the start of n zeros, and what it has written since.
abbrev pub zeroed : ℕ → Writer → Writer
zeroed n v = moved v (replicate n 0) 0

pub begun : (v : Writer) {n : ℕ} {xs : List ℕ} → Puts (replicate n 0) 0 xs v.out.now v.at → length v.out.now ≡ n → Appends (zeroed n v) xs v
begun v {n} p e = record { puts = p; long = e ∙ sym (length-replicate n 0); same = refl }

-- A writer that began at the start of n zeros has written all of a text, and leaves l.
pub whole : {w v : Writer} {n m : ℕ} {xs l : List ℕ} → w.out.now ≡ replicate n 0 → w.at ≡ 0 → n ≡ m → Appends w xs v → l ≡ v.out.now → Written m xs l v.at
whole {w} {v} {n} {m} {xs} {l} z s e a is =
    let p : Puts (replicate n 0) 0 xs v.out.now v.at = puts-zeroed n z s a in
    subst (λ (d : List ℕ). Written m xs d v.at) (sym is) (subst (λ (k : ℕ). Written k xs v.out.now v.at) e (zeros-written p))
