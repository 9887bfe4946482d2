-- A text is its pieces with the bytes that end them, and other pieces in their place come apart as they are.
use mathlib.Core.Path.{◌≡◌, refl, ap, ap₂, ◌∙◌}
use mathlib.Core.Bool.{Bool, true, false, cond}
use mathlib.Core.List.{List, [], ◌∷◌, ◌++◌, append-nil, map}
use Prim.Native.Nat.{ℕ, ◌≤◌}
use native.Mathlib.Omega.{arith}
use lib.ListN.{length, length-append}
use Rattle.graph.proofs.Passing.{zero_one}
use Rattle.layout.specs.Text.{pieces, non_empty}
use Rattle.layout.specs.Rewrite.{ending, woven}
use Rattle.readback.proofs.Pieces.{Free, AllFree, free_append, pieces-cut, pieces_whole}

-- ---- how a text is cut

-- It is empty; or it is one piece without its end; or its first piece has its end, and a text follows.
pub data Cutting (p : ℕ → Bool) : List ℕ → Type 0 where
  nothing : Cutting p []
  last : (x : ℕ) (l : List ℕ) → Free p (x ∷ l) → Cutting p (x ∷ l)
  more : (l : List ℕ) (e : ℕ) (xs : List ℕ) → Free p l → p e ≡ true → Cutting p xs → Cutting p (l ++ (e ∷ xs))

pub cutting : (p : ℕ → Bool) (xs : List ℕ) → Cutting p xs
cutting p [] = nothing
cutting p (x ∷ xs) = go (p x) refl (cutting p xs)
  where
    joins : p x ≡ false → {ys : List ℕ} → Cutting p ys → Cutting p (x ∷ ys)
    joins is nothing = last x [] (is, tt)
    joins is (last y l f) = last x (y ∷ l) (is, f)
    joins is (more l e ys f h c) = more (x ∷ l) e ys (is, f) h c

    go : (b : Bool) → p x ≡ b → Cutting p xs → Cutting p (x ∷ xs)
    go true is c = more [] x xs tt is c
    go false is c = joins is c

module _ (p : ℕ → Bool) where
  pub pieces_none : pieces p [] ≡ []
  unfolding pieces
  pieces_none = refl

  pub ending-none : ending p [] ≡ []
  unfolding ending
  ending-none = refl

  ending-yes : (x : ℕ) (xs : List ℕ) → p x ≡ true → ending p (x ∷ xs) ≡ x ∷ ending p xs
  unfolding ending
  ending-yes x xs h = ap (λ (b : Bool). cond b (x ∷ ending p xs) (ending p xs)) h

  ending-no : (x : ℕ) (xs : List ℕ) → p x ≡ false → ending p (x ∷ xs) ≡ ending p xs
  unfolding ending
  ending-no x xs h = ap (λ (b : Bool). cond b (x ∷ ending p xs) (ending p xs)) h

  pub ending-free : (l : List ℕ) → Free p l → ending p l ≡ []
  ending-free [] f = ending-none
  ending-free (x ∷ l) f = ending-no x l f.0 ∙ ending-free l f.1

  pub ending-cut : (l : List ℕ) (e : ℕ) (xs : List ℕ) → Free p l → p e ≡ true → ending p (l ++ (e ∷ xs)) ≡ e ∷ ending p xs
  ending-cut [] e xs f h = ending-yes e xs h
  ending-cut (x ∷ l) e xs f h = ending-no x (l ++ (e ∷ xs)) f.0 ∙ ending-cut l e xs f.1 h

pub woven-none : (es : List ℕ) → woven [] es ≡ []
unfolding woven
woven-none es = refl

pub woven-last : (k : List ℕ) → woven (k ∷ []) [] ≡ k
unfolding woven
woven-last k = append-nil k

pub woven-more : (k : List ℕ) (ks : List (List ℕ)) (e : ℕ) (es : List ℕ) → woven (k ∷ ks) (e ∷ es) ≡ k ++ (e ∷ woven ks es)
unfolding woven
woven-more k ks e es = refl

-- ---- a text is its pieces with the bytes that end them

pub woven-pieces : (p : ℕ → Bool) (xs : List ℕ) → woven (pieces p xs) (ending p xs) ≡ xs
woven-pieces p xs = go (cutting p xs)
  where
    go : {ys : List ℕ} → Cutting p ys → woven (pieces p ys) (ending p ys) ≡ ys
    go nothing = ap₂ woven (pieces_none p) (ending-none p) ∙ woven-none []
    go (last x l f) = ap₂ woven (pieces_whole p x l f) (ending-free p (x ∷ l) f) ∙ woven-last (x ∷ l)
    go (more l e ys f h c) =
        ap₂ woven (pieces-cut p l e ys f h) (ending-cut p l e ys f h) ∙ woven-more l (pieces p ys) e (ending p ys)
        ∙ ap (λ (r : List ℕ). l ++ (e ∷ r)) (go c)

-- ---- other pieces in their place

-- Each of the pieces ks stands for one of ls: p holds for none of its bytes, and it is not empty unless the other is.
abbrev pub InPlace : (ℕ → Bool) → List (List ℕ) → List (List ℕ) → Type 0
InPlace p [] [] = Unit {0}
InPlace p [] (k ∷ ks) = ⊥
InPlace p (l ∷ ls) [] = ⊥
InPlace p (l ∷ ls) (k ∷ ks) = Free p k × (1 ≤ length l → 1 ≤ length k) × InPlace p ls ks

-- They come apart as they are, and the bytes that end them stay.
abbrev pub Apart : (ℕ → Bool) → List (List ℕ) → List ℕ → Type 0
Apart p ks es = (pieces p (woven ks es) ≡ ks) × (ending p (woven ks es) ≡ es)

pub woven-apart : (p : ℕ → Bool) (xs : List ℕ) (ks : List (List ℕ)) → InPlace p (pieces p xs) ks → Apart p ks (ending p xs)
woven-apart p xs ks a = go (cutting p xs) ks a
  where
    whole : (k : List ℕ) → 1 ≤ length k → Free p k → pieces p k ≡ k ∷ []
    whole [] h f = zero_one (omega arith)
    whole (y ∷ k) h f = pieces_whole p y k f

    none_left : (js : List (List ℕ)) → InPlace p [] js → [] ≡ js
    none_left [] a = refl
    none_left (j ∷ js) a = absurd a

    at_last : (x : ℕ) (l : List ℕ) (js : List (List ℕ)) → InPlace p ((x ∷ l) ∷ []) js → Apart p js []
    at_last x l [] a = absurd a
    at_last x l (j ∷ []) a = (ap (pieces p) (woven-last j) ∙ whole j (a.1 (omega arith)) a.0, ap (ending p) (woven-last j) ∙ ending-free p j a.0)
    at_last x l (j ∷ i ∷ js) a = absurd a.2

    go : {ys : List ℕ} → Cutting p ys → (js : List (List ℕ)) → InPlace p (pieces p ys) js → Apart p js (ending p ys)
    go nothing js a =
        let e = none_left js (rw (pieces_none p) at a) in
        rw (← e) (ap (pieces p) (woven-none (ending p [])) ∙ pieces_none p, ap (ending p) (woven-none (ending p [])))
    go (last x l f) js a = rw (ending-free p (x ∷ l) f) (at_last x l js (rw (pieces_whole p x l f) at a))
    go (more l e ys f h c) js a = rw (ending-cut p l e ys f h) (first js (λ is b. go c is b) (rw (pieces-cut p l e ys f h) at a))
      where
        first : (is : List (List ℕ)) → ((js : List (List ℕ)) → InPlace p (pieces p ys) js → Apart p js (ending p ys)) → InPlace p (l ∷ pieces p ys) is
            → Apart p is (e ∷ ending p ys)
        first [] ih b = absurd b
        first (i ∷ is) ih b =
            let rest = ih is b.2 in
            let front = woven-more i is e (ending p ys) in (
              ap (pieces p) front ∙ pieces-cut p i e (woven is (ending p ys)) b.0 h ∙ ap (λ (r : List (List ℕ)). i ∷ r) rest.0,
              ap (ending p) front ∙ ending-cut p i e (woven is (ending p ys)) b.0 h ∙ ap (λ (r : List ℕ). e ∷ r) rest.1,
            )

-- ---- what holds of all pieces

-- A piece has no byte that ends one.
pub pieces-free : (p : ℕ → Bool) (xs : List ℕ) → AllFree p (pieces p xs)
pieces-free p xs = go (cutting p xs)
  where
    go : {ys : List ℕ} → Cutting p ys → AllFree p (pieces p ys)
    go nothing = rw (pieces_none p) tt
    go (last x l f) = rw (pieces_whole p x l f) (f, tt)
    go (more l e ys f h c) = rw (pieces-cut p l e ys f h) (f, go c)

-- What holds for no byte of a text holds for none of its pieces and of the bytes that end them, and back.
module _ (q : ℕ → Bool) where
  pub free_left : (l r : List ℕ) → Free q (l ++ r) → Free q l × Free q r
  free_left [] r f = (tt, f)
  free_left (x ∷ l) r f = let w = free_left l r f.1 in ((f.0, w.0), w.1)

  pub free_pieces : (p : ℕ → Bool) (xs : List ℕ) → Free q xs → AllFree q (pieces p xs) × Free q (ending p xs)
  free_pieces p xs f = go (cutting p xs) f
    where
      go : {ys : List ℕ} → Cutting p ys → Free q ys → AllFree q (pieces p ys) × Free q (ending p ys)
      go nothing g = (rw (pieces_none p) tt, rw (ending-none p) tt)
      go (last x l f) g = (rw (pieces_whole p x l f) (g, tt), rw (ending-free p (x ∷ l) f) tt)
      go (more l e ys f h c) g =
          let w = free_left l (e ∷ ys) g in
          let v = go c w.1.1 in
          (rw (pieces-cut p l e ys f h) (w.0, v.0), rw (ending-cut p l e ys f h) (w.1.0, v.1))

  pub free_woven : (ks : List (List ℕ)) (es : List ℕ) → AllFree q ks → Free q es → Free q (woven ks es)
  unfolding woven
  free_woven [] es f g = tt
  free_woven (k ∷ ks) [] f g = free_append q k (woven ks []) f.0 (free_woven ks [] f.1 g)
  free_woven (k ∷ ks) (e ∷ es) f g = free_append q k (e ∷ woven ks es) f.0 (g.0, free_woven ks es f.1 g.1)

-- Shorter pieces make a shorter text.
abbrev pub Shorter : List (List ℕ) → List (List ℕ) → Type 0
Shorter [] ls = Unit {0}
Shorter (k ∷ ks) [] = ⊥
Shorter (k ∷ ks) (l ∷ ls) = (length k ≤ length l) × Shorter ks ls

pub woven-shorter : (ks ls : List (List ℕ)) (es : List ℕ) → Shorter ks ls → length (woven ks es) ≤ length (woven ls es)
unfolding woven
woven-shorter [] ls es s = omega arith
woven-shorter (k ∷ ks) [] es s = absurd s
woven-shorter (k ∷ ks) (l ∷ ls) [] s =
    omega (arith, length-append k (woven ks []), length-append l (woven ls []), s.0, woven-shorter ks ls [] s.1)
woven-shorter (k ∷ ks) (l ∷ ls) (e ∷ es) s =
    omega (arith, length-append k (e ∷ woven ks es), length-append l (e ∷ woven ls es), s.0, woven-shorter ks ls es s.1)

-- ---- the same change made to each piece

-- f changes words: it leaves nothing as nothing, and something as something without blanks and no longer.
pub record Keeps (p : ℕ → Bool) (f : List ℕ → List ℕ) : Type 0 where
  pub nothing_kept : f [] ≡ []
  pub free_kept : (l : List ℕ) → Free p l → Free p (f l)
  pub something_kept : (x : ℕ) (l : List ℕ) → 1 ≤ length (f (x ∷ l))
  pub shorter : (l : List ℕ) → length (f l) ≤ length l

module _ {p : ℕ → Bool} {f : List ℕ → List ℕ} (K : Keeps p f) where
  full_kept : (l : List ℕ) → 1 ≤ length l → 1 ≤ length (f l)
  full_kept [] h = zero_one (omega arith)
  full_kept (x ∷ l) h = K.something_kept x l

  pub map-in_place : (ls : List (List ℕ)) → AllFree p ls → InPlace p ls (map f ls)
  map-in_place [] a = tt
  map-in_place (l ∷ ls) a = (K.free_kept l a.0, full_kept l, map-in_place ls a.1)

  -- The pieces of the changed text are the changed pieces, and the bytes that end them are the same.
  pub pieces-map : (xs : List ℕ) → pieces p (woven (map f (pieces p xs)) (ending p xs)) ≡ map f (pieces p xs)
  pieces-map xs = (woven-apart p xs (map f (pieces p xs)) (map-in_place (pieces p xs) (pieces-free p xs))).0

  pub ending-map : (xs : List ℕ) → ending p (woven (map f (pieces p xs)) (ending p xs)) ≡ ending p xs
  ending-map xs = (woven-apart p xs (map f (pieces p xs)) (map-in_place (pieces p xs) (pieces-free p xs))).1

  pub non_empty-map : (ls : List (List ℕ)) → non_empty (map f ls) ≡ map f (non_empty ls)
  unfolding non_empty
  non_empty-map [] = refl
  non_empty-map ([] ∷ ls) = rw K.nothing_kept (non_empty-map ls)
  non_empty-map ((x ∷ l) ∷ ls) = go (f (x ∷ l)) refl (K.something_kept x l) (non_empty-map ls)
    where
      go : (k : List ℕ) → f (x ∷ l) ≡ k → 1 ≤ length k → non_empty (map f ls) ≡ map f (non_empty ls) → non_empty (k ∷ map f ls) ≡ k ∷ map f (non_empty ls)
      go [] is h ih = zero_one (omega arith)
      go (y ∷ k) is h ih = ap (λ (r : List (List ℕ)). (y ∷ k) ∷ r) ih

  pub map-shorter : (ls : List (List ℕ)) → Shorter (map f ls) ls
  map-shorter [] = tt
  map-shorter (l ∷ ls) = (K.shorter l, map-shorter ls)

  pub map-length : (xs : List ℕ) → length (woven (map f (pieces p xs)) (ending p xs)) ≤ length xs
  map-length xs =
      omega (arith, woven-shorter (map f (pieces p xs)) (pieces p xs) (ending p xs) (map-shorter (pieces p xs)), ap length (woven-pieces p xs))

  -- Words that are kept leave the pieces as they are.
  pub words-kept : (ls : List (List ℕ)) → map f (non_empty ls) ≡ non_empty ls → map f ls ≡ ls
  unfolding non_empty
  words-kept [] e = refl
  words-kept ([] ∷ ls) e = ap₂ (λ (k : List ℕ) (ks : List (List ℕ)). k ∷ ks) K.nothing_kept (words-kept ls e)
  words-kept ((x ∷ l) ∷ ls) e =
      let a : f (x ∷ l) ≡ x ∷ l = cc in
      let b : map f (non_empty ls) ≡ non_empty ls = cc in
      ap₂ (λ (k : List ℕ) (ks : List (List ℕ)). k ∷ ks) a (words-kept ls b)

  pub text_kept : (xs : List ℕ) → map f (non_empty (pieces p xs)) ≡ non_empty (pieces p xs) → woven (map f (pieces p xs)) (ending p xs) ≡ xs
  text_kept xs e = ap (λ (ks : List (List ℕ)). woven ks (ending p xs)) (words-kept (pieces p xs) e) ∙ woven-pieces p xs
