-- The two loops, over the words of a line and over the lines of a text: a piece and the byte that ends it are written, and the rest is to come.
use mathlib.Core.Path.{◌≡◌, refl, sym, ap, ap₂, ◌∙◌, subst}
use mathlib.Core.Bool.{Bool, true}
use mathlib.Core.List.{List, [], ◌∷◌, ◌++◌, append-nil, append_assoc}
use Prim.Native.Nat.{ℕ, ◌+◌, ◌≤◌}
use native.Mathlib.Omega.{arith}
use lib.ListN.{length, take, drop, length-append}
use lib.Seq.{drop-drop, drop_at}
use Rattle.graph.proofs.Passing.{zero_one}
use Rattle.layout.specs.Text.{pieces}
use Rattle.layout.specs.Rewrite.{ending, woven}
use Rattle.readback.proofs.Pieces.{pieces-cut, pieces_whole, Free}
use Rattle.rewriting.proofs.Pieces.{Cutting, nothing, last, more, cutting, pieces_none, ending-none, ending-free, ending-cut, woven-more}
use Rattle.digits.specs.declared.Writer.{Writer}
use Rattle.digits.specs.Appends.{Appends}
use Rattle.digits.proofs.Appending.{appends_none, appends_then, appends_same}
use Rattle.anew.specs.Anew.{byte_at}

-- ---- the first piece of what is left of a text

-- The piece w stands at the place i of the text s, and after it the byte that ends it, if there is one, and other pieces.
pub record Piece (p : ℕ → Bool) (s : List ℕ) (i : ℕ) (w : List ℕ) : Type 0 where
  pub split : drop i s ≡ w ++ (byte_at s (i + length w) ++ drop (i + length w + 1) s)
  pub others : pieces p (drop i s) ≡ w ∷ pieces p (drop (i + length w + 1) s)
  pub step : (k : List ℕ) (ks : List (List ℕ)) → woven (k ∷ ks) (ending p (drop i s)) ≡ k ++ (byte_at s (i + length w) ++ woven ks (ending p (drop (i + length w + 1) s)))

woven-end : (k : List ℕ) (ks : List (List ℕ)) → woven (k ∷ ks) [] ≡ k ++ woven ks []
unfolding woven
woven-end k ks = refl

module _ (p : ℕ → Bool) (s : List ℕ) (i : ℕ) where
  after : (w r : List ℕ) → drop i s ≡ w ++ r → drop (i + length w) s ≡ r
  after w r e = sym (drop-drop (length w) i s) ∙ ap (drop (length w)) e ∙ drop_at w r (length w) refl

  next : (w : List ℕ) (x : ℕ) (r : List ℕ) → drop i s ≡ w ++ (x ∷ r) → drop (i + length w + 1) s ≡ r
  next w x r e = sym (drop-drop 1 (i + length w) s) ∙ ap (drop 1) (after w (x ∷ r) e)

  pub first_piece : (w : List ℕ) (ws : List (List ℕ)) → pieces p (drop i s) ≡ w ∷ ws → Piece p s i w
  first_piece w ws e = go (cutting p (drop i s)) refl e
    where
      at_last : (x : ℕ) (l : List ℕ) → Free p (x ∷ l) → drop i s ≡ x ∷ l → Piece p s i (x ∷ l)
      at_last x l f is =
          let none = after (x ∷ l) [] (is ∙ sym (append-nil (x ∷ l))) in
          let over : drop (i + length (x ∷ l) + 1) s ≡ [] = sym (drop-drop 1 (i + length (x ∷ l)) s) ∙ ap (drop 1) none in
          record {
            split = is ∙ sym (append-nil (x ∷ l)) ∙ ap₂ (λ (a b : List ℕ). (x ∷ l) ++ (take 1 a ++ b)) (sym none) (sym over);
            others = ap (pieces p) is ∙ pieces_whole p x l f ∙ ap (λ (r : List (List ℕ)). (x ∷ l) ∷ r) (sym (ap (pieces p) over ∙ pieces_none p));
            step = λ k ks.
                ap (woven (k ∷ ks)) (ap (ending p) is ∙ ending-free p (x ∷ l) f) ∙ woven-end k ks
                ∙ ap₂ (λ (a b : List ℕ). k ++ (take 1 a ++ woven ks b)) (sym none) (sym (ap (ending p) over ∙ ending-none p));
          }

      at_more : (l : List ℕ) (x : ℕ) (r : List ℕ) → Free p l → p x ≡ true → drop i s ≡ l ++ (x ∷ r) → Piece p s i l
      at_more l x r f h is =
          let here = after l (x ∷ r) is in
          let over = next l x r is in
          record {
            split = is ∙ ap₂ (λ (a b : List ℕ). l ++ (take 1 a ++ b)) (sym here) (sym over);
            others = ap (pieces p) is ∙ pieces-cut p l x r f h ∙ ap (λ (b : List ℕ). l ∷ pieces p b) (sym over);
            step = λ k ks.
                ap (woven (k ∷ ks)) (ap (ending p) is ∙ ending-cut p l x r f h) ∙ woven-more k ks x (ending p r)
                ∙ ap₂ (λ (a b : List ℕ). k ++ (take 1 a ++ woven ks (ending p b))) (sym here) (sym over);
          }

      go : {m : List ℕ} → Cutting p m → drop i s ≡ m → pieces p (drop i s) ≡ w ∷ ws → Piece p s i w
      go nothing is e = let z = sym (ap (pieces p) is ∙ pieces_none p) ∙ e in zero_one (cc)
      go (last x l f) is e =
          let z = sym (ap (pieces p) is ∙ pieces_whole p x l f) ∙ e in
          let q : x ∷ l ≡ w = cc in
          subst (Piece p s i) q (at_last x l f is)
      go (more l x r f h c) is e =
          let z = sym (ap (pieces p) is ∙ pieces-cut p l x r f h) ∙ e in
          let q : l ≡ w = cc in
          subst (Piece p s i) q (at_more l x r f h is)

-- ---- how far a loop has come

-- Of the text s, which stands for `whole`, what is before the place i has been written by the writer w, which is now v; the rest stands for `rest`.
pub record Turn (w : Writer) (s whole rest : List ℕ) (v : Writer) (i : ℕ) : Type 0 where
  pub written : List ℕ
  pub appends : Appends w written v
  pub joins : written ++ rest ≡ whole
  pub short : length written + length (drop i s) ≤ length s

pub turn_starts : (w : Writer) (s whole : List ℕ) → Turn w s whole whole w 0
turn_starts w s whole = record { written = []; appends = appends_none w; joins = refl; short = omega arith }

module _ {w : Writer} {s whole rest : List ℕ} {v : Writer} {i : ℕ} (T : Turn w s whole rest v i) (room : w.at + length s ≤ length w.out.now)
    {p : ℕ → Bool} {x : List ℕ} (P : Piece p s i x) where
  lengths : length (drop i s) ≡ length x + (length (byte_at s (i + length x)) + length (drop (i + length x + 1) s))
  lengths =
      ap length P.split ∙ length-append x (byte_at s (i + length x) ++ drop (i + length x + 1) s)
      ∙ ap (λ (n : ℕ). length x + n) (length-append (byte_at s (i + length x)) (drop (i + length x + 1) s))

  -- There is room for the piece.
  pub room_piece : v.at + length x ≤ length v.out.now
  room_piece = omega (arith, T.appends.puts.place, T.short, T.appends.long, lengths)

  module _ {k : List ℕ} {u : Writer} (put : Appends v k u) (few : length k ≤ length x) where
    -- And for the byte that ends it.
    pub room_byte : u.at + length (byte_at s (i + length x)) ≤ length u.out.now
    room_byte = omega (arith, T.appends.puts.place, T.short, T.appends.long, lengths, put.puts.place, put.long)

    pub turn_more : {rest₂ : List ℕ} {t : Writer} → Appends u (byte_at s (i + length x)) t → rest ≡ k ++ (byte_at s (i + length x) ++ rest₂)
        → Turn w s whole rest₂ t (i + length x + 1)
    turn_more {rest₂} {t} byte e =
        let b = byte_at s (i + length x) in
        let one : Appends w (T.written ++ k) u = appends_then T.appends put (omega (arith, T.short, lengths)) in
        let two : Appends w ((T.written ++ k) ++ b) t = appends_then one byte (omega (arith, T.short, lengths, length-append T.written k)) in
        record {
          written = (T.written ++ k) ++ b;
          appends = two;
          joins =
              append_assoc (T.written ++ k) b rest₂ ∙ append_assoc T.written k (b ++ rest₂)
              ∙ ap (λ (r : List ℕ). T.written ++ r) (sym e) ∙ T.joins;
          short = omega (arith, T.short, lengths, length-append (T.written ++ k) b, length-append T.written k);
        }

-- At the end nothing is left.
pub turn_ends : {w : Writer} {s whole rest : List ℕ} {v : Writer} {i : ℕ} → Turn w s whole rest v i → rest ≡ [] → Appends w whole v
turn_ends T e = appends_same T.appends (sym (append-nil T.written) ∙ ap (λ (r : List ℕ). T.written ++ r) (sym e) ∙ T.joins)
