-- Laws of writing over a list: more bytes after those written, and a part that was lent from its middle.
use mathlib.Core.Path.{◌≡◌, sym, ap, ap₂, ◌∙◌}
use mathlib.Core.List.{List, [], ◌∷◌, ◌++◌, append_assoc, append-nil}
use Prim.Native.Nat.{ℕ, suc, ◌+◌, ◌-◌, ◌≤◌, ◌<◌}
use native.Mathlib.Nat.{zero-add, add-zero}
use native.Mathlib.Omega.{arith}
use borrow.Rule.Slice.PartMut.{put_mid, post_of}
use lib.ListN.{length, take, drop, get_or, set, length-append, length-drop, drop_of_length-le, take-append-drop}
use lib.Seq.{drop-cons, drop-drop, set_at, length-take-le, take_at, take_all, drop-append-add, append_snoc}
use Rattle.digits.specs.Puts.{over, Puts}

module _ (d : List ℕ) (at : ℕ) (xs : List ℕ) where
  over-is : over d at xs ≡ (take at d ++ xs) ++ drop (at + length xs) d
  unfolding over
  over-is = sym (append_assoc (take at d) xs (drop (at + length xs) d))

  module _ (fits : at + length xs ≤ length d) where
    front_long : length (take at d ++ xs) ≡ at + length xs
    front_long = let h : at ≤ length d = omega arith in length-append (take at d) xs ∙ ap (λ (n : ℕ). n + length xs) (length-take-le at d h)

    length_over : length (over d at xs) ≡ length d
    length_over =
        ap length over-is ∙ length-append (take at d ++ xs) (drop (at + length xs) d)
        ∙ ap₂ (λ (m n : ℕ). m + n) front_long (length-drop (at + length xs) d) ∙ back
      where
        back : at + length xs + (length d - (at + length xs)) ≡ length d
        back = omega arith

  -- One byte more.
  over-snoc : (x : ℕ) → at + length xs < length d → set (over d at xs) (at + length xs) x ≡ over d at (xs ++ (x ∷ []))
  unfolding over
  over-snoc x lt =
      let fits : at + length xs ≤ length d = omega arith in
      ap (λ (l : List ℕ). set l (at + length xs) x)
      (over-is ∙ ap (λ (l : List ℕ). (take at d ++ xs) ++ l) (drop-cons d (at + length xs) 0 lt))
      ∙ set_at (take at d ++ xs) (get_or d (at + length xs) 0) (drop (suc (at + length xs)) d) x (at + length xs) (front_long fits)
      ∙ rest
    where
      here : suc (at + length xs) ≡ at + length (xs ++ (x ∷ []))
      here = omega (arith, length-append xs (x ∷ []))

      rest : (take at d ++ xs) ++ (x ∷ drop (suc (at + length xs)) d) ≡ over d at (xs ++ (x ∷ []))
      rest =
          append_assoc (take at d) xs (x ∷ drop (suc (at + length xs)) d)
          ∙ ap (λ (l : List ℕ). take at d ++ l)
          (sym (append_snoc xs x (drop (suc (at + length xs)) d)) ∙ ap (λ (n : ℕ). (xs ++ (x ∷ [])) ++ drop n d) here)

  -- More bytes after those written.
  over-over : (ys : List ℕ) → at + length xs + length ys ≤ length d → over (over d at xs) (at + length xs) ys ≡ over d at (xs ++ ys)
  unfolding over
  over-over ys fits =
      ap₂ (λ (l m : List ℕ). l ++ (ys ++ m)) front back ∙ append_assoc (take at d) xs (ys ++ drop (at + length xs + length ys) d)
      ∙ ap (λ (l : List ℕ). take at d ++ l)
      (sym (append_assoc xs ys (drop (at + length xs + length ys) d)) ∙ ap (λ (n : ℕ). (xs ++ ys) ++ drop n d) here)
    where
      some_room : at + length xs ≤ length d
      some_room = omega arith

      front : take (at + length xs) (over d at xs) ≡ take at d ++ xs
      front = ap (take (at + length xs)) over-is ∙ take_at (take at d ++ xs) (drop (at + length xs) d) (at + length xs) (front_long some_room)

      back : drop (at + length xs + length ys) (over d at xs) ≡ drop (at + length xs + length ys) d
      back =
          ap₂ (λ (n : ℕ) (l : List ℕ). drop (n + length ys) l) (sym (front_long some_room)) over-is
          ∙ drop-append-add (take at d ++ xs) (drop (at + length xs) d) (length ys) ∙ drop-drop (length ys) (at + length xs) d

      here : at + length xs + length ys ≡ at + length (xs ++ ys)
      here = omega (arith, length-append xs ys)

over_none : (d : List ℕ) (at : ℕ) → over d at [] ≡ d
unfolding over
over_none d at = ap (λ (n : ℕ). take at d ++ drop n d) (add-zero at) ∙ take-append-drop at d

-- What was written at the start of the part from `at` on.
over-part : (d : List ℕ) (at : ℕ) (xs : List ℕ) → take at d ++ over (drop at d) 0 xs ≡ over d at xs
unfolding over
over-part d at xs =
    ap (λ (l : List ℕ). take at d ++ (xs ++ l)) (ap (λ (n : ℕ). drop n (drop at d)) (zero-add (length xs)) ∙ drop-drop (length xs) at d)

-- ---- what a writer did, step by step

pub puts_none : (d : List ℕ) (at : ℕ) → Puts d at [] d at
puts_none d at = record { text = sym (over_none d at); place = omega arith }

module _ {d : List ℕ} {at : ℕ} {xs after : List ℕ} {e : ℕ} (p : Puts d at xs after e) where
  pub puts_long : at + length xs ≤ length d → length after ≡ length d
  puts_long h = ap length p.text ∙ length_over d at xs h

  pub puts_byte : (x : ℕ) → at + length xs < length d → Puts d at (xs ++ (x ∷ [])) (set after e x) (e + 1)
  puts_byte x h = record {
    text = ap₂ (λ (l : List ℕ) (j : ℕ). set l j x) p.text p.place ∙ over-snoc d at xs x h;
    place = omega (arith, p.place, length-append xs (x ∷ []));
  }

  pub puts_then : {ys after' : List ℕ} {e' : ℕ} → Puts after e ys after' e' → at + length xs + length ys ≤ length d → Puts d at (xs ++ ys) after' e'
  puts_then {ys} q h = record {
    text = q.text ∙ ap₂ (λ (l : List ℕ) (j : ℕ). over l j ys) p.text p.place ∙ over-over d at xs ys h;
    place = omega (arith, p.place, q.place, length-append xs ys);
  }

  pub puts_same : {ys : List ℕ} → xs ≡ ys → Puts d at ys after e
  puts_same h = rw (← h) p

-- Two parts, the second written where the first ends.
pub puts_next : {d : List ℕ} {at : ℕ} {xs l : List ℕ} {a : ℕ} {ys m : List ℕ} {e : ℕ} → Puts d at xs l a → Puts l a ys m e → e ≤ length d
    → Puts d at (xs ++ ys) m e
puts_next p q h = puts_then p q (omega (arith, p.place, q.place))

-- ---- a part that was lent from `at` on, and is back

pub part-is : {N : Type 0} (d : List N) (at : ℕ) → take (length d - at) (drop at d) ≡ drop at d
part-is d at = take_all (length d - at) (drop at d) (omega (arith, length-drop at d))

pub puts_part : (d : List ℕ) (at : ℕ) {xs after : List ℕ} {k : ℕ} → Puts (take (length d - at) (drop at d)) 0 xs after k
    → Puts d at xs (put_mid at (length d - at) d after) (at + k)
puts_part d at {xs} p =
    let post : post_of at (length d - at) d ≡ [] = drop_of_length-le (drop at d) few in
    record {
      text =
          ap₂ (λ (l m : List ℕ). take at d ++ (l ++ m)) (p.text ∙ ap (λ (l : List ℕ). over l 0 xs) (part-is d at)) post
          ∙ ap (λ (l : List ℕ). take at d ++ l) (append-nil (over (drop at d) 0 xs))
          ∙ over-part d at xs;
      place = omega (arith, p.place);
    }
  where
    few : length (drop at d) ≤ length d - at
    few = omega (arith, length-drop at d)

-- ---- written over all of d

over-all : (d xs : List ℕ) → length d ≤ length xs → over d 0 xs ≡ xs
unfolding over
over-all d xs h =
    let le : length d ≤ 0 + length xs = omega arith in
    let none_left : drop (0 + length xs) d ≡ [] = drop_of_length-le d le in
    ap (λ (l : List ℕ). xs ++ l) none_left ∙ append-nil xs

pub puts_all : {d xs after : List ℕ} {e : ℕ} → Puts d 0 xs after e → length d ≤ length xs → after ≡ xs
puts_all {d} {xs} p h = p.text ∙ over-all d xs h
