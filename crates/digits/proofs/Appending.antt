-- What writers do, step by step.
use mathlib.Core.Path.{◌≡◌, refl, ap, ◌∙◌, subst}
use mathlib.Core.Bool.{true, false}
use mathlib.Core.List.{List, [], ◌∷◌, ◌++◌}
use Prim.Native.Nat.{ℕ, ◌+◌, ◌-◌, ◌^◌, ◌≤◌, ◌<◌}
use native.Mathlib.Nat.{le-add_right}
use native.Mathlib.Omega.{arith}
use borrow.Rule.Slice.Mut.{set_vals}
use borrow.Rule.Slice.PartMut.{put_mid, Post-is}
use lib.IntN.{ℤ, pos, nat_abs}
use lib.ListN.{length, take, drop, set, length-set}
use lib.Signed.{lt_z}
use mir.Syntax.{w32, w64}
use mir.Val.{SFits, to_z, of_z}
use mir.ValLaws.{to_z-of_z}
use Rattle.layout.specs.Text.{decimal, signed}
use Rattle.digits.specs.declared.Writer.{Writer}
use Rattle.digits.specs.Puts.{Puts, over}
use Rattle.digits.specs.Appends.{Appends}
use Rattle.digits.proofs.Over.{puts_none, puts_long, puts_byte, puts_then, puts_same, puts_part}
use Rattle.digits.proofs.Numbers.{twenty_digits}
use Rattle.digits.proofs.Signs.{from_bits, signed_below, signed_above}

pub appends_none : (w : Writer) → Appends w [] w
appends_none w = record { puts = puts_none w.out.now w.at; long = refl; same = refl }

module _ {w v : Writer} {xs : List ℕ} (a : Appends w xs v) where
  pub appends_same : {ys : List ℕ} → xs ≡ ys → Appends w ys v
  appends_same e = record { puts = puts_same a.puts e; long = a.long; same = a.same }

  pub appends_then : {u : Writer} {ys : List ℕ} → Appends v ys u → w.at + length xs + length ys ≤ length w.out.now → Appends w (xs ++ ys) u
  appends_then b h = record { puts = puts_then a.puts b.puts h; long = b.long ∙ a.long; same = b.same ∙ a.same }

-- Two parts, the second written where the first ends.
pub appends_next : {w v u : Writer} {xs ys : List ℕ} → Appends w xs v → Appends v ys u → u.at ≤ length w.out.now → Appends w (xs ++ ys) u
appends_next a b h = appends_then a b (omega (arith, a.puts.place, b.puts.place))

-- ---- what each method writes

-- A writer whose bytes are now d, at the place e.
abbrev pub moved : Writer → List ℕ → ℕ → Writer
moved w d e = record { out = set_vals d w.out; at = e }

pub appends_byte : (w : Writer) (b : ℕ) → w.at + 1 ≤ length w.out.now → Appends w (b ∷ []) (moved w (set w.out.now w.at b) (w.at + 1))
appends_byte w b h = record { puts = puts_byte (puts_none w.out.now w.at) b (omega arith); long = length-set w.out.now w.at b; same = refl }

puts_mid : (d : List ℕ) (at : ℕ) (xs : List ℕ) → Puts d at xs (put_mid at (at + length xs - at) d xs) (at + length xs)
unfolding over
puts_mid d at xs = record {
  text = ap (λ (l : List ℕ). take at d ++ (xs ++ l)) (Post-is at (at + length xs) d (le-add_right at (length xs)));
  place = refl;
}

pub appends_bytes : (w : Writer) (b : List ℕ) {l : List ℕ} → w.at + length b ≤ length w.out.now → l ≡ b
    → Appends w b (moved w (put_mid w.at (w.at + length b - w.at) w.out.now l) (w.at + length b))
appends_bytes w b {l} h e =
    let p : Puts w.out.now w.at b (put_mid w.at (w.at + length b - w.at) w.out.now l) (w.at + length b) = rw e (puts_mid w.out.now w.at b) in
    record { puts = p; long = puts_long p h; same = refl }

module _ (w : Writer) (n : ℕ) {l : List ℕ} {k : ℕ} (h : w.at + 20 ≤ length w.out.now) (f : n < 2 ^ 64)
    (p : Puts (take (length w.out.now - w.at) (drop w.at w.out.now)) 0 (decimal n) l k) where
  pub decimal_within : k ≤ 20
  decimal_within = omega (arith, p.place, twenty_digits n f)

  pub appends_decimal : Appends w (decimal n) (moved w (put_mid w.at (length w.out.now - w.at) w.out.now l) (w.at + k))
  appends_decimal =
      let q : Puts w.out.now w.at (decimal n) (put_mid w.at (length w.out.now - w.at) w.out.now l) (w.at + k) = puts_part w.out.now w.at p in
      record { puts = q; long = puts_long q (omega (arith, twenty_digits n f)); same = refl }

-- A number's sign, if it is below 0, and its magnitude.
module _ (w : Writer) (z : ℤ) (n : ℕ) (f : SFits w64 z) (room : w.at + 21 ≤ length w.out.now) (is : n ≡ nat_abs (from_bits z)) {v u : Writer}
    (b : Appends v (decimal n) u) where
  pub appends_below : lt_z (from_bits z) (pos 0) ≡ true → {m : Writer} → Appends w (45 ∷ []) m → v ≡ m → u.at ≤ v.at + 20 → Appends w (signed z) u
  appends_below h a e k =
      let a' : Appends w (45 ∷ []) v = rw e a in
      rw (← to_z-of_z w64 z f) (appends_same (appends_next a' b (omega (arith, a'.puts.place))) (signed_below (from_bits z) n h is))

  pub appends_above : lt_z (from_bits z) (pos 0) ≡ false → v ≡ w → Appends w (signed z) u
  appends_above h e = rw (← to_z-of_z w64 z f) (appends_same (rw e at b) (signed_above (from_bits z) n h is))

-- A number of 32 bits, which came as x, of 64.
pub appends_widened : {w v : Writer} {x z : ℤ} → SFits w64 x → x ≡ to_z w32 (of_z w32 z) → SFits w32 z → Appends w (signed (from_bits x)) v
    → Appends w (signed z) v
appends_widened {w} {v} {x} {z} g e f a = subst (λ (y : ℤ). Appends w (signed y) v) (to_z-of_z w64 x g ∙ e ∙ to_z-of_z w32 z f) a
