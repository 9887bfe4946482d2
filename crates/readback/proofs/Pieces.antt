-- Lines and words that are put together come apart as they were.
use mathlib.Core.Path.{◌≡◌, refl, sym, ap, ◌∙◌}
use mathlib.Core.Bool.{Bool, true, false, cond}
use mathlib.Core.List.{List, [], ◌∷◌, ◌++◌, append_assoc}
use Prim.Native.Nat.{ℕ, zero, suc, ◌+◌, ◌/◌, ◌%◌, ◌≤◌, ◌<◌}
use native.Mathlib.Omega.{arith}
use lib.Dec.{ltb, eqb}
use borrow.Author.Tests.{ltb-true, ne_eqb}
use lib.IntN.{ℤ, pos, negsuc}
use lib.ListN.{length, length-append}
use Rattle.layout.specs.Text.{newline, blank, on_first, pieces, non_empty, lines, words, comment_line, digits, decimal, signed, spaced, unlines}
use Rattle.graph.proofs.Passing.{zero_one}

-- p holds for no byte of a list, and of no list of a list.
abbrev pub Free : (ℕ → Bool) → List ℕ → Type 0
Free p [] = Unit {0}
Free p (x ∷ xs) = (p x ≡ false) × Free p xs

abbrev pub AllFree : (ℕ → Bool) → List (List ℕ) → Type 0
AllFree p [] = Unit {0}
AllFree p (l ∷ ls) = Free p l × AllFree p ls

pub free_append : (p : ℕ → Bool) (a b : List ℕ) → Free p a → Free p b → Free p (a ++ b)
free_append p [] b f g = g
free_append p (x ∷ a) b f g = (f.0, free_append p a b f.1 g)

pub all_free_append : (p : ℕ → Bool) (a b : List (List ℕ)) → AllFree p a → AllFree p b → AllFree p (a ++ b)
all_free_append p [] b f g = g
all_free_append p (x ∷ a) b f g = (f.0, all_free_append p a b f.1 g)

-- ---- pieces

pub pieces-cut : (p : ℕ → Bool) (a : List ℕ) (x : ℕ) (rest : List ℕ) → Free p a → p x ≡ true → pieces p (a ++ (x ∷ rest)) ≡ a ∷ pieces p rest
unfolding pieces on_first
pieces-cut p [] x rest f h = ap (λ (b : Bool). cond b ([] ∷ pieces p rest) (on_first x (pieces p rest))) h
pieces-cut p (y ∷ a) x rest f h =
    ap (λ (b : Bool). cond b ([] ∷ pieces p (a ++ (x ∷ rest))) (on_first y (pieces p (a ++ (x ∷ rest))))) f.0
    ∙ ap (on_first y) (pieces-cut p a x rest f.1 h)

pub pieces_whole : (p : ℕ → Bool) (y : ℕ) (a : List ℕ) → Free p (y ∷ a) → pieces p (y ∷ a) ≡ (y ∷ a) ∷ []
unfolding pieces on_first
pieces_whole p y [] f = ap (λ (b : Bool). cond b ([] ∷ []) ((y ∷ []) ∷ [])) f.0
pieces_whole p y (z ∷ a) f =
    ap (λ (b : Bool). cond b ([] ∷ pieces p (z ∷ a)) (on_first y (pieces p (z ∷ a)))) f.0 ∙ ap (on_first y) (pieces_whole p z a f.1)

-- ---- lines

pub lines-unlines : (ls : List (List ℕ)) → AllFree newline ls → lines (unlines ls) ≡ ls
unfolding lines unlines pieces
lines-unlines [] f = refl
lines-unlines (l ∷ ls) f = pieces-cut newline l 10 (unlines ls) f.0 refl ∙ ap (λ (k : List (List ℕ)). l ∷ k) (lines-unlines ls f.1)

pub unlines-append : (ks ls : List (List ℕ)) → unlines (ks ++ ls) ≡ unlines ks ++ unlines ls
unfolding unlines
unlines-append [] ls = refl
unlines-append (k ∷ ks) ls = ap (λ (l : List ℕ). k ++ (10 ∷ l)) (unlines-append ks ls) ∙ sym (append_assoc k (10 ∷ unlines ks) (unlines ls))

pub length-line : (l : List ℕ) (ls : List (List ℕ)) → length (unlines (l ∷ ls)) ≡ length l + 1 + length (unlines ls)
unfolding unlines
length-line l ls = let e : length (l ++ (10 ∷ unlines ls)) ≡ length l + length (10 ∷ unlines ls) = length-append l (10 ∷ unlines ls) in omega arith

pub length-no_line : length (unlines []) ≡ 0
unfolding unlines
length-no_line = refl

-- ---- words

-- Words have no blank, and at least one byte.
abbrev pub AllWords : List (List ℕ) → Type 0
AllWords [] = Unit {0}
AllWords (w ∷ ws) = (1 ≤ length w) × Free blank w × AllWords ws

pub non-empty : (w : List ℕ) (ws : List (List ℕ)) → 1 ≤ length w → non_empty (w ∷ ws) ≡ w ∷ non_empty ws
unfolding non_empty
non-empty [] ws h = zero_one (omega arith)
non-empty (x ∷ w) ws h = refl

pub words-spaced : (ws : List (List ℕ)) → AllWords ws → words (spaced ws) ≡ ws
unfolding words spaced pieces non_empty
words-spaced [] f = refl
words-spaced ([] ∷ []) f = zero_one (omega (arith, f.0))
words-spaced ((x ∷ w) ∷ []) f = ap non_empty (pieces_whole blank x w f.1)
words-spaced (w ∷ v ∷ ws) f =
    ap non_empty (pieces-cut blank w 32 (spaced (v ∷ ws)) f.1 refl) ∙ non-empty w (pieces blank (spaced (v ∷ ws))) f.0
    ∙ ap (λ (k : List (List ℕ)). w ∷ k) (words-spaced (v ∷ ws) f.2)

pub free_spaced : (p : ℕ → Bool) (ws : List (List ℕ)) → p 32 ≡ false → AllFree p ws → Free p (spaced ws)
unfolding spaced
free_spaced p [] h f = tt
free_spaced p (w ∷ []) h f = f.0
free_spaced p (w ∷ v ∷ ws) h f = free_append p w (32 ∷ spaced (v ∷ ws)) f.0 (h, free_spaced p (v ∷ ws) h f.1)

pub comment_free : (l : List ℕ) → Free (λ x. eqb x 37) l → comment_line l ≡ false
comment_free [] f = refl
comment_free (x ∷ l) f = f.0

-- ---- the digits of a number have no byte that is no digit

module _ (p : ℕ → Bool) (none_of : (d : ℕ) → d < 10 → p (48 + d) ≡ false) where
  pub digits-free : (k n : ℕ) → Free p (digits k n)
  unfolding digits
  digits-free zero n = tt
  digits-free (suc k) n = go (ltb n 10) refl (digits-free k (n / 10))
    where
      go : (b : Bool) → ltb n 10 ≡ b → Free p (digits k (n / 10)) → Free p (cond b ((48 + n) ∷ []) (digits k (n / 10) ++ ((48 + n % 10) ∷ [])))
      go true is ih = (none_of n (ltb-true n 10 is), tt)
      go false is ih = let m : n % 10 < 10 = omega arith in free_append p (digits k (n / 10)) ((48 + n % 10) ∷ []) ih (none_of (n % 10) m, tt)

pub decimal-no_newline : (n : ℕ) → Free newline (decimal n)
decimal-no_newline n = digits-free newline (λ d h. ne_eqb (48 + d) 10 (omega arith)) 20 n

pub decimal-no_percent : (n : ℕ) → Free (λ x. eqb x 37) (decimal n)
decimal-no_percent n = digits-free (λ x. eqb x 37) (λ d h. ne_eqb (48 + d) 37 (omega arith)) 20 n

pub decimal-no_blank : (n : ℕ) → Free blank (decimal n)
decimal-no_blank n = digits-free blank (λ d h. simp (ne_eqb (48 + d) 32 (omega arith), ne_eqb (48 + d) 9 (omega arith))) 20 n

-- ---- nor have they with a sign before them

module _ (p : ℕ → Bool) (none_of : (n : ℕ) → Free p (decimal n)) (sign : p 45 ≡ false) where
  pub signed-free : (z : ℤ) → Free p (signed z)
  signed-free (pos n) = none_of n
  signed-free (negsuc n) = (sign, none_of (suc n))

pub signed-no_newline : (z : ℤ) → Free newline (signed z)
signed-no_newline = signed-free newline decimal-no_newline refl

pub signed-no_blank : (z : ℤ) → Free blank (signed z)
signed-no_blank = signed-free blank decimal-no_blank refl

-- ---- a line that is written out has no byte 10 if a test says so

abbrev pub free? : (ℕ → Bool) → List ℕ → Bool
free? p [] = true
free? p (x ∷ l) = cond (p x) false (free? p l)

pub free_yes : (p : ℕ → Bool) (l : List ℕ) → free? p l ≡ true → Free p l
free_yes p [] h = tt
free_yes p (x ∷ l) h = go (p x) refl (free_yes p l) h
  where
    go : (b : Bool) → p x ≡ b → (free? p l ≡ true → Free p l) → cond b false (free? p l) ≡ true → Free p (x ∷ l)
    go true is f h = zero_one (cc)
    go false is f h = (is, f h)
