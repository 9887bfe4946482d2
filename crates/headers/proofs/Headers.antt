-- Header lines, a word at a time.
use Rattle.std.specs.Prelude.{Option, None, Some}
use mathlib.Core.Path.{◌≡◌, refl, sym, ap, ap₂, ◌∙◌}
use mathlib.Core.Bool.{Bool, true, false, cond, ◌&&◌}
use mathlib.Core.List.{List, [], ◌∷◌}
use Prim.Native.Nat.{ℕ}
use lib.ListN.{drop}
use Rattle.layout.specs.Text.{bytes, words, no_words, same_folded, header_words, begins, header}
use Rattle.headers.specs.Headers.{kind_told}
use Rattle.keywords.specs.Keywords.{first_is, FirstWord, follow, KeyTaken}
use Rattle.graph.specs.declared.Kind.{Kind}
use Rattle.graph.specs.declared.Kind.TheVariants.{Bipartite, General}

-- No word comes any more.
pub folded_end : (ws : List (List ℕ)) → no_words ws ≡ same_folded ws []
unfolding same_folded
folded_end [] = refl
folded_end (w ∷ ws) = refl

-- Four words, one after the other.
pub four_taken :
    {l a b c d : List ℕ} {from first second third fourth : (Option ℕ)}
    → KeyTaken l from a first → KeyTaken l first b second → KeyTaken l second c third → KeyTaken l third d fourth
    → follow l fourth [] ≡ follow l from (a ∷ b ∷ c ∷ d ∷ [])
four_taken {l} {a} {b} {c} {d} t u v w = w.rest [] ∙ v.rest (d ∷ []) ∙ u.rest (c ∷ d ∷ []) ∙ t.rest (b ∷ c ∷ d ∷ [])

-- What may follow the first word of a line.
pub first_followed : (ks : List (List ℕ)) (l : List ℕ) (r : (Option ℕ)) → FirstWord l (bytes "%%MatrixMarket") r → follow l r ks ≡ header_words ks (words l)
unfolding header_words
first_followed ks l (Some at) F = sym (ap (header_words ks) F.ahead ∙ ap (λ (b : Bool). b && same_folded (words (drop at l)) ks) F.is)
first_followed ks l None F = go (words l) F
  where
    go : (ws : List (List ℕ)) → first_is (bytes "%%MatrixMarket") ws ≡ false → false ≡ header_words ks ws
    go [] e = refl
    go (w ∷ ws) e = ap (λ (b : Bool). b && same_folded ws ks) (sym e)

-- A header line by its first word and the words after it.
module _ (ks : List (List ℕ)) (l : List ℕ) where
  pub header-blank : begins l ≡ false → header ks l ≡ false
  unfolding header
  header-blank h = ap (λ (b : Bool). b && header_words ks (words l)) h

  pub header-begun : begins l ≡ true → header_words ks (words l) ≡ header ks l
  unfolding header
  header-begun h = ap (λ (b : Bool). b && header_words ks (words l)) (sym h)

-- The kind that a line tells, by whether it is one of the two headers.
pub kind-told :
    (field l : List ℕ) (a b : Bool) → header (bytes "matrix" ∷ bytes "coordinate" ∷ field ∷ bytes "general" ∷ []) l ≡ a
    → header (bytes "matrix" ∷ bytes "coordinate" ∷ field ∷ bytes "symmetric" ∷ []) l ≡ b
    → cond a (Some Bipartite) (cond b (Some General) None) ≡ kind_told field l
kind-told field l a b e f =
    ap₂ (λ (x y : Bool). cond {A = Option Kind} x (Some Bipartite) (cond {A = Option Kind} y (Some General) None)) (sym e) (sym f)
