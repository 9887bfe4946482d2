-- What the writers of lines write, and the whole text.
use mathlib.Core.Path.{◌≡◌, refl, sym, ap, ◌∙◌}
use mathlib.Core.List.{List, [], ◌∷◌, ◌++◌, map, map-append, append_assoc}
use Prim.Native.Nat.{ℕ, ◌+◌, ◌*◌, ◌≤◌, ◌<◌}
use native.Mathlib.Numerals.{add-one}
use native.Mathlib.Omega.{arith}
use lib.IntN.{ℤ, pos}
use lib.ListN.{length, take, get_or, length-append}
use lib.Seq.{take-suc, take_all, append_snoc}
use Rattle.layout.specs.Text.{decimal, signed, spaced, unlines}
use Rattle.layout.specs.NumberText.{number_text}
use Rattle.readback.proofs.Pieces.{unlines-append}
use Rattle.readback.proofs.NumbersBack.{array_header, count_line}
use Rattle.digits.specs.declared.Writer.{Writer}
use Rattle.digits.specs.Appends.{Appends}
use Rattle.digits.proofs.Appending.{appends_next, appends_same}
use Rattle.writer.proofs.Writing.{LinesWriting, writing_starts, writing_room, writing_more, writing_ends}

-- ---- the header line and the size line

abbrev pub array_head : ℕ → List (List ℕ)
array_head count = array_header ∷ count_line count ∷ []

head-is : (n m : List ℕ) → ((array_header ++ (10 ∷ [])) ++ (n ++ (32 ∷ []))) ++ (m ++ (10 ∷ [])) ≡ unlines (array_header ∷ spaced (n ∷ m ∷ []) ∷ [])
unfolding unlines spaced
head-is n m = ap (λ (l : List ℕ). (array_header ++ (10 ∷ [])) ++ l) (append_snoc n 32 (m ++ (10 ∷ [])) ∙ sym (append_assoc n (32 ∷ m) (10 ∷ [])))

pub head-appends : {w v u t : Writer} (count : ℕ) → w.at + 86 ≤ length w.out.now → Appends w (array_header ++ (10 ∷ [])) v
    → Appends v (decimal count ++ (32 ∷ [])) u → u.at ≤ v.at + 21 → Appends u (decimal 1 ++ (10 ∷ [])) t → t.at ≤ u.at + 21
    → Appends w (unlines (array_head count)) t
head-appends count room a b h c k =
    appends_same (appends_next (appends_next a b (omega (arith, a.puts.place))) c (omega (arith, a.puts.place))) (head-is (decimal count) (decimal 1))

-- ---- the loop over the numbers

-- The lines of the first n numbers have been written by the writer w, which is now v.
abbrev pub ValuesWriting : List ℤ → Writer → Writer → ℕ → Type 0
ValuesWriting zs = LinesWriting (λ n. map signed (take n zs)) (length zs) 22 0

module _ (zs : List ℤ) where
  abbrev text_to : Unit {0} → ℕ → List ℕ
  text_to i n = unlines (map signed (take n zs))

  pub values-start : (w : Writer) → w.at + length zs * 22 ≤ length w.out.now → ValuesWriting zs w w 0
  unfolding unlines
  values-start w h = writing_starts text_to (length zs) 22 0 w (λ i. refl) (omega arith)

  module _ {w v : Writer} {n : ℕ} (W : ValuesWriting zs w v n) where
    module _ (lt : n < length zs) where
      pub value_room : v.at + 22 ≤ length v.out.now
      value_room = omega (arith, writing_room text_to (length zs) 22 0 W lt)

      value-next : text_to tt n ++ (signed (get_or zs n (pos 0)) ++ (10 ∷ [])) ≡ text_to tt (n + 1)
      unfolding unlines
      value-next =
          sym (unlines-append (map signed (take n zs)) (signed (get_or zs n (pos 0)) ∷ []))
          ∙ ap unlines (sym (map-append signed (take n zs) (get_or zs n (pos 0) ∷ [])))
          ∙ ap (λ (ys : List ℤ). unlines (map signed ys)) (sym (take-suc zs n (pos 0) lt))
          ∙ ap (text_to tt) (sym (add-one n))

      -- A number and byte 10.
      pub values-more : {m u : Writer} → Appends v (signed (get_or zs n (pos 0))) m → m.at ≤ v.at + 21 → Appends m (10 ∷ []) u → ValuesWriting zs w u (n + 1)
      values-more a k b =
          let room : v.at + 22 ≤ length v.out.now = value_room in
          let both = appends_next a b (omega (arith, b.puts.place)) in
          writing_more text_to (length zs) 22 0 W lt (omega (arith, both.puts.place, b.puts.place)) (λ i. value-next) both

    pub values-end : n ≡ length zs → Appends w (unlines (map signed zs)) v
    values-end e =
        appends_same (writing_ends text_to (length zs) 22 0 W e tt) (ap (λ (ys : List ℤ). unlines (map signed ys)) (take_all (length zs) zs (omega arith)))

-- ---- the whole text

text_is : (xs ys : List ℤ) → (unlines (array_head (length xs + length ys)) ++ unlines (map signed xs)) ++ unlines (map signed ys) ≡ number_text (xs ++ ys)
unfolding number_text
text_is xs ys =
    let head = array_head (length xs + length ys) in
    append_assoc (unlines head) (unlines (map signed xs)) (unlines (map signed ys))
    ∙ ap (λ (l : List ℕ). unlines head ++ l) (sym (unlines-append (map signed xs) (map signed ys)) ∙ ap unlines (sym (map-append signed xs ys)))
    ∙ sym (unlines-append head (map signed (xs ++ ys)))
    ∙ ap (λ (n : ℕ). unlines (array_head n ++ map signed (xs ++ ys))) (sym (length-append xs ys))

pub numbers_append : {w v u t : Writer} (xs ys : List ℤ) → Appends w (unlines (array_head (length xs + length ys))) v → Appends v (unlines (map signed xs)) u
    → Appends u (unlines (map signed ys)) t → t.at ≤ length w.out.now → Appends w (number_text (xs ++ ys)) t
numbers_append xs ys a b c h = appends_same (appends_next (appends_next a b (omega (arith, c.puts.place))) c h) (text_is xs ys)
