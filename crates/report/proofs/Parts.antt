-- A line is written part by part: names and words with one blank between them, and byte 10 at its end.
use mathlib.Core.Path.{◌≡◌, refl, sym, ap, ◌∙◌}
use mathlib.Core.Logic.{◌≢◌}
use mathlib.Core.Bool.{Bool, true, false}
use mathlib.Core.List.{List, [], ◌∷◌, ◌++◌, append_assoc}
use Prim.Native.Nat.{ℕ, ◌-◌, ◌^◌, ◌≤◌, ◌<◌}
use native.Mathlib.Omega.{arith}
use borrow.Author.Tests.{le-leb, lt-leb, eq-eqb, ne_eqb}
use lib.Dec.{leb, eqb}
use lib.IntN.{ℤ}
use lib.ListN.{length, replicate, length-append}
use lib.Seq.{append_snoc}
use lib.Signed.{mag}
use mir.Syntax.{w64}
use mir.Val.{hbits}
use Rattle.integers.proofs.Order.{back}
use Rattle.graph.specs.Refusal.{filled}
use Rattle.layout.specs.Text.{signed, spaced, unlines}
use Rattle.digits.specs.declared.Writer.{Writer}
use Rattle.digits.specs.Appends.{Appends}
use Rattle.digits.proofs.Appending.{appends_next, appends_same}
use Rattle.writer.proofs.Zeros.{zeros-long, whole}
use Rattle.digits.proofs.Signs.{from_bits}
use Rattle.report.specs.declared.Source.{Source}
use Rattle.report.specs.Report.{name_of, line_bytes, line_room, composed_bytes, composed_length, Composed}

-- ---- FILE

pub name_le : (s : Source) → length (name_of s) ≤ 11
name_le Source.Sheet = omega arith
name_le Source.Limits = omega arith
name_le Source.Plan = omega arith
name_le Source.Prices = omega arith
name_le Source.Assignment = omega arith
name_le Source.Input = omega arith

-- ---- words with one blank between them

spaced-append : (w : List ℕ) (ws : List (List ℕ)) (v : List ℕ) (vs : List (List ℕ))
    → spaced (w ∷ ws) ++ (32 ∷ spaced (v ∷ vs)) ≡ spaced ((w ∷ ws) ++ (v ∷ vs))
unfolding spaced
spaced-append w [] v vs = refl
spaced-append w (u ∷ ws) v vs = append_assoc w (32 ∷ spaced (u ∷ ws)) (32 ∷ spaced (v ∷ vs)) ∙ ap (λ (l : List ℕ). w ++ (32 ∷ l)) (spaced-append u ws v vs)

-- A name that ends in a blank, and a word.
pair_is : (u v : List ℕ) → u ++ (32 ∷ []) ++ v ≡ spaced (u ∷ v ∷ [])
unfolding spaced
pair_is u v = append_snoc u 32 v

-- The words ws have been written by the writer w, which is now v.
pub record Words (w : Writer) (ws : List (List ℕ)) (v : Writer) : Type 0 where
  pub appends : Appends w (spaced ws) v

module _ (u v : List ℕ) {w m : Writer} where
  pub first_pair : Appends w (u ++ (32 ∷ []) ++ v) m → Words w (u ∷ v ∷ []) m
  first_pair a = record { appends = appends_same a (pair_is u v) }

  -- One more name, with a blank at its sides, and one more word.
  pub next-pair : {l : Writer} {x : List ℕ} {xs : List (List ℕ)} → Words w (x ∷ xs) l → Appends l ((32 ∷ u) ++ (32 ∷ []) ++ v) m
      → m.at ≤ length w.out.now → Words w ((x ∷ xs) ++ (u ∷ v ∷ [])) m
  next-pair {x = x} {xs = xs} p a h = record {
    appends = appends_same (appends_next p.appends a h) (ap (λ (l : List ℕ). spaced (x ∷ xs) ++ (32 ∷ l)) (pair_is u v) ∙ spaced-append x xs u (v ∷ []));
  }

-- The word is a number.
module _ (u : List ℕ) (z : ℤ) {w m : Writer} (f : mag z < 2 ^ hbits w64) where
  pub first_number : Appends w (u ++ (32 ∷ []) ++ signed (from_bits z)) m → Words w (u ∷ signed z ∷ []) m
  first_number a = first_pair u (signed z) (rw (back w64 z f) at a)

  pub next-number : {l : Writer} {x : List ℕ} {xs : List (List ℕ)} → Words w (x ∷ xs) l
      → Appends l ((32 ∷ u) ++ (32 ∷ []) ++ signed (from_bits z)) m → m.at ≤ length w.out.now → Words w ((x ∷ xs) ++ (u ∷ signed z ∷ [])) m
  next-number p a h = next-pair u (signed z) p (rw (back w64 z f) at a) h

-- ---- the whole line

pub line_is : (l : List ℕ) → l ++ (10 ∷ []) ≡ unlines (l ∷ [])
unfolding unlines
line_is l = refl

pub line_appends : {ws : List (List ℕ)} {w v u : Writer} → Words w ws v → Appends v (10 ∷ []) u → u.at ≤ length w.out.now
    → Appends w (unlines (spaced ws ∷ [])) u
line_appends {ws} a b h = appends_same (appends_next a.appends b h) (line_is (spaced ws))

-- ---- what is left in a buffer that was cleared before

-- It has room if it has at least k bytes. A writer began at its start, after it was cleared, and has left l.
module _ (k : ℕ) (text before : List ℕ) where
  -- It is too short.
  pub no_room : {cleared l : List ℕ} → cleared ≡ replicate (length before) 0 → length cleared < k → l ≡ cleared → Composed (λ n. leb k n) text before l 0
  no_room zeros h is =
      let short = lt-leb k (length before) (omega (arith, zeros-long (length before) zeros)) in
      record {
        content = is ∙ zeros ∙ ap (λ (b : Bool). composed_bytes b (length before) text) (sym short);
        size = ap (λ (b : Bool). composed_length b text) (sym short);
      }

  -- The text was written.
  pub text_composed : {w v : Writer} {l : List ℕ} → w.out.now ≡ replicate (length before) 0 → w.at ≡ 0 → k ≤ length w.out.now → Appends w text v → l ≡ v.out.now
      → Composed (λ n. leb k n) text before l v.at
  text_composed zeros start h a is =
      let room = le-leb k (length before) (omega (arith, zeros-long (length before) zeros)) in
      let W = whole zeros start refl a is in
      record {
        content = W.text ∙ ap (λ (b : Bool). composed_bytes b (length before) text) (sym room);
        size = W.size ∙ ap (λ (b : Bool). composed_length b text) (sym room);
      }

-- What is answered is within what is left.
pub composed_inside : {room : ℕ → Bool} {text before after : List ℕ} {r : ℕ} → Composed room text before after r → r ≤ length after
composed_inside {room} {text} {before} {after} {r} C = go (room (length before)) C.content C.size
  where
    go : (b : Bool) → after ≡ composed_bytes b (length before) text → r ≡ composed_length b text → r ≤ length after
    go true e f = omega (arith, ap length e, length-append text (replicate (length before - length text) 0))
    go false e f = omega arith

-- Where there is room by one rule and by another, the same is left.
pub other_room : {room : ℕ → Bool} (rule : ℕ → Bool) {text before after : List ℕ} {r : ℕ} → room (length before) ≡ true → rule (length before) ≡ true
    → Composed room text before after r → Composed rule text before after r
other_room rule {text} {before} is also C =
    let same = is ∙ sym also in
    record {
      content = C.content ∙ ap (λ (b : Bool). composed_bytes b (length before) text) same;
      size = C.size ∙ ap (λ (b : Bool). composed_length b text) same;
    }

-- ---- a buffer of just k bytes

module _ (k : ℕ) where
  -- It has another length, and was cleared.
  pub exact_none : (text : List ℕ) {before after : List ℕ} → length before ≢ k → after ≡ replicate (length before) 0 → Composed (λ n. eqb n k) text before after 0
  exact_none text {before} wrong cleared =
      let no = ne_eqb (length before) k wrong in
      record {
        content = cleared ∙ ap (λ (b : Bool). composed_bytes b (length before) text) (sym no);
        size = ap (λ (b : Bool). composed_length b text) (sym no);
      }

  module _ {text before after : List ℕ} {r : ℕ} (long : length before ≡ k) where
    -- The text fills it, or a line was written to it.
    pub exact_text : after ≡ filled (length before) 0 text → r ≡ length text → Composed (λ n. eqb n k) text before after r
    exact_text fills size =
        let room = eq-eqb (length before) k long in
        record {
          content = fills ∙ ap (λ (b : Bool). composed_bytes b (length before) text) (sym room);
          size = size ∙ ap (λ (b : Bool). composed_length b text) (sym room);
        }

    pub exact_line : line_bytes ≤ k → Composed line_room text before after r → Composed (λ n. eqb n k) text before after r
    exact_line few = other_room (λ n. eqb n k) (le-leb line_bytes (length before) (omega arith)) (eq-eqb (length before) k long)
