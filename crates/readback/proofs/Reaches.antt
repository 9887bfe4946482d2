-- Reading lines from the top, a line at a time.
use Rattle.std.specs.Prelude.{Ok}
use mathlib.Core.Path.{◌≡◌, sym, ap, ◌∙◌}
use mathlib.Core.Bool.{true, false}
use mathlib.Core.List.{List, [], ◌∷◌, ◌++◌, append_assoc, append-nil}
use Prim.Native.Nat.{ℕ, ◌+◌}
use native.Mathlib.Omega.{arith}
use lib.ListN.{length, length-append}
use Rattle.layout.specs.Text.{line_fits, blank_line, comment_line}
use Rattle.layout.specs.Lines.{Step, goes, State, start, sizing, reading, Layout, on_line, at_end, on_step, read_lines}

-- ---- several lines, whatever reads them

module _ {S R : Type 0} (read : ℕ → S → List (List ℕ) → R) where
  -- The lines ls lead from state s to state t: the rest is read from there, and k is the number of the first line.
  abbrev pub Reaches : S → List (List ℕ) → S → Type 0
  Reaches s ls t = (k : ℕ) (rest : List (List ℕ)) → read k s (ls ++ rest) ≡ read (k + length ls) t rest

  pub reaches_none : (s : S) → Reaches s [] s
  reaches_none s k rest = let e : k ≡ k + 0 = omega arith in ap (λ (j : ℕ). read j s rest) e

  pub reaches_append : (s t u : S) (ks ls : List (List ℕ)) → Reaches s ks t → Reaches t ls u → Reaches s (ks ++ ls) u
  reaches_append s t u ks ls f g k rest =
      let e : k + length ks + length ls ≡ k + length (ks ++ ls) = omega (arith, length-append ks ls) in
      ap (read k s) (append_assoc ks ls rest) ∙ f k (ls ++ rest) ∙ g (k + length ks) rest ∙ ap (λ (j : ℕ). read j u rest) e

  -- Nothing follows them.
  pub reaches_all : (s t : S) (ls : List (List ℕ)) → Reaches s ls t → (k : ℕ) → read k s ls ≡ read (k + length ls) t []
  reaches_all s t ls f k = ap (read k s) (sym (append-nil ls)) ∙ f k []

-- ---- the lines of a layout

module _ {H B R : Type 0} (L : Layout H B R) where
  -- What one line does.
  pub on_start : (l : List ℕ) (h : H) → line_fits l ≡ true → L.header_line l ≡ goes h → on_line L start l ≡ goes (sizing h)
  unfolding on_line
  on_start l h fits is = rw (fits, is)

  pub on_sizing : (h : H) (l : List ℕ) (b : B) → line_fits l ≡ true → blank_line l ≡ false → comment_line l ≡ false → L.size_line h l ≡ goes b
      → on_line L (sizing h) l ≡ goes (reading b)
  unfolding on_line
  on_sizing h l b fits full plain is = rw (fits, full, plain, is)

  pub on_reading : (b : B) (l : List ℕ) (c : B) → line_fits l ≡ true → blank_line l ≡ false → L.more b ≡ true → L.later_line b l ≡ goes c
      → on_line L (reading b) l ≡ goes (reading c)
  unfolding on_line
  on_reading b l c fits full more is = rw (fits, full, more, is)

  pub at-end : (k : ℕ) (b : B) → L.more b ≡ false → read_lines L k (reading b) [] ≡ Ok (L.result b)
  unfolding read_lines at_end
  at-end k b h = rw h

  pub reaches_one : (s t : State H B) (l : List ℕ) → on_line L s l ≡ goes t → Reaches (read_lines L) s (l ∷ []) t
  unfolding read_lines
  reaches_one s t l h k rest = ap (λ (o : Step (State H B)). on_step k o (λ u. read_lines L (k + 1) u rest)) h

  -- Lines that lead to a state where none is to come give its result.
  pub reaches_end : (s : State H B) (ls : List (List ℕ)) (b : B) (k : ℕ) → Reaches (read_lines L) s ls (reading b) → L.more b ≡ false
      → read_lines L k s ls ≡ Ok (L.result b)
  reaches_end s ls b k f h = reaches_all (read_lines L) s (reading b) ls f k ∙ at-end (k + length ls) b h

  -- A whole text: its header line, its size line, and lines that lead to a state where none is to come.
  pub reaches_text : (h : H) (b c : B) (k : ℕ) (l n : List ℕ) (ls : List (List ℕ)) → on_line L start l ≡ goes (sizing h) → on_line L (sizing h) n ≡ goes (reading b)
      → Reaches (read_lines L) (reading b) ls (reading c) → L.more c ≡ false → read_lines L k start (l ∷ n ∷ ls) ≡ Ok (L.result c)
  reaches_text h b c k l n ls header size rest last =
      reaches_end start (l ∷ n ∷ ls) c k
      (reaches_append (read_lines L) start (sizing h) (reading c) (l ∷ []) (n ∷ ls) (reaches_one start (sizing h) l header)
      (reaches_append (read_lines L) (sizing h) (reading b) (reading c) (n ∷ []) ls (reaches_one (sizing h) (reading b) n size) rest))
      last
