-- How lines that yield are read, line by line: what a proof over the lines of a text goes by.
use Rattle.std.specs.Prelude.{Ok}
use mathlib.Core.Path.{◌≡◌, refl, sym}
use mathlib.Core.Bool.{Bool, true, false, cond, ◌||◌}
use mathlib.Core.List.{List, [], ◌∷◌}
use Prim.Native.Nat.{ℕ, ◌+◌}
use Rattle.graph.specs.declared.Fault.TheVariants.{Header, SizeLine, LaterLine}
use Rattle.graph.specs.Refusal.{refuses}
use Rattle.graph.proofs.Passing.{zero_one}
use Rattle.layout.specs.Text.{line_fits, blank_line, comment_line}
use Rattle.layout.specs.Lines.{Step, goes, stops, State, start, sizing, reading, Layout, sized, begun, on_line, at_end, on_step, read_lines}

-- From state s the lines ls are all read, and b is what has been read at the end.
pub data Reads {H B R : Type 0} (L : Layout H B R) : State H B → List (List ℕ) → B → Type 0 where
  done : {b : B} → L.more b ≡ false → Reads L (reading b) [] b
  by_header : {l : List ℕ} {ls : List (List ℕ)} {h : H} {b : B} → line_fits l ≡ true → L.header_line l ≡ goes h → Reads L (sizing h) ls b →
      Reads L start (l ∷ ls) b
  skipped : {l : List ℕ} {ls : List (List ℕ)} {h : H} {b : B} → line_fits l ≡ true → blank_line l || comment_line l ≡ true → Reads L (sizing h) ls b →
      Reads L (sizing h) (l ∷ ls) b
  by_size : {l : List ℕ} {ls : List (List ℕ)} {h : H} {c b : B} → line_fits l ≡ true → blank_line l || comment_line l ≡ false → L.size_line h l ≡ goes c →
      Reads L (reading c) ls b → Reads L (sizing h) (l ∷ ls) b
  blank-line : {l : List ℕ} {ls : List (List ℕ)} {c b : B} → line_fits l ≡ true → blank_line l ≡ true → Reads L (reading c) ls b →
      Reads L (reading c) (l ∷ ls) b
  by_line : {l : List ℕ} {ls : List (List ℕ)} {c d b : B} → line_fits l ≡ true → blank_line l ≡ false → L.more c ≡ true → L.later_line c l ≡ goes d →
      Reads L (reading d) ls b → Reads L (reading c) (l ∷ ls) b

module _ {H B R : Type 0} (L : Layout H B R) where
  -- ---- lines that are read yield

  pub reads_yield : {s : State H B} {ls : List (List ℕ)} {b : B} → Reads L s ls b → (k : ℕ) → read_lines L k s ls ≡ Ok (L.result b)
  unfolding read_lines on_line at_end
  reads_yield (done last) k = rw last
  reads_yield (by_header fits is rest) k = rw (fits, is) (reads_yield rest (k + 1))
  reads_yield (skipped fits over rest) k = rw (fits, over) (reads_yield rest (k + 1))
  reads_yield (by_size fits full is rest) k = rw (fits, full, is) (reads_yield rest (k + 1))
  reads_yield (blank-line fits empty rest) k = rw (fits, empty) (reads_yield rest (k + 1))
  reads_yield (by_line fits full more is rest) k = rw (fits, full, more, is) (reads_yield rest (k + 1))

  -- ---- and lines that yield are read

  -- What has been read at the end, and that it gives the result.
  pub record Read (s : State H B) (ls : List (List ℕ)) (r : R) : Type 0 where
    pub last : B
    pub reads : Reads L s ls last
    pub result : L.result last ≡ r

  end_read : (k : ℕ) (s : State H B) (r : R) → read_lines L k s [] ≡ Ok r → Read s [] r
  unfolding read_lines at_end
  end_read k start r e = zero_one (cc)
  end_read k (sizing h) r e = zero_one (cc)
  end_read k (reading b) r e = go (L.more b) refl e
    where
      go : (m : Bool) → L.more b ≡ m → cond m (refuses LaterLine k) (Ok (L.result b)) ≡ Ok r → Read (reading b) [] r
      go true is e = zero_one (cc)
      go false is e = record { last = b; reads = done is; result = cc }

  module _ (l : List ℕ) (ls : List (List ℕ)) (r : R) where
    -- The line l, of which each test has an outcome, leads to a state t from which the rest is read.
    start_read : (f : Bool) (o : Step H) → line_fits l ≡ f → L.header_line l ≡ o → (t : State H B) → cond f (sized o) (stops Header) ≡ goes t → Read t ls r
        → Read start (l ∷ ls) r
    start_read true (goes h) fits is t e w =
        let q : sizing h ≡ t = cc in
        let v : Read (sizing h) ls r = rw (sym q) at w in
        record { last = v.last; reads = by_header fits is v.reads; result = v.result }
    start_read true (stops f) fits is t e w = zero_one (cc)
    start_read false o fits is t e w = zero_one (cc)

    size_read : (h : H) (f over : Bool) (o : Step B) → line_fits l ≡ f → blank_line l || comment_line l ≡ over → L.size_line h l ≡ o → (t : State H B)
        → cond f (cond over (goes (sizing h)) (begun o)) (stops SizeLine) ≡ goes t → Read t ls r → Read (sizing h) (l ∷ ls) r
    size_read h true true o fits is-over is t e w =
        let q : sizing h ≡ t = cc in
        let v : Read (sizing h) ls r = rw (sym q) at w in
        record { last = v.last; reads = skipped fits is-over v.reads; result = v.result }
    size_read h true false (goes c) fits is-over is t e w =
        let q : reading c ≡ t = cc in
        let v : Read (reading c) ls r = rw (sym q) at w in
        record { last = v.last; reads = by_size fits is-over is v.reads; result = v.result }
    size_read h true false (stops f) fits is-over is t e w = zero_one (cc)
    size_read h false over o fits is-over is t e w = zero_one (cc)

    later_read : (c : B) (f empty m : Bool) (o : Step B) → line_fits l ≡ f → blank_line l ≡ empty → L.more c ≡ m → L.later_line c l ≡ o → (t : State H B)
        → cond f (cond empty (goes (reading c)) (cond m (begun o) (stops LaterLine))) (stops LaterLine) ≡ goes t → Read t ls r → Read (reading c) (l ∷ ls) r
    later_read c true true m o fits is-empty more is t e w =
        let q : reading c ≡ t = cc in
        let v : Read (reading c) ls r = rw (sym q) at w in
        record { last = v.last; reads = blank-line fits is-empty v.reads; result = v.result }
    later_read c true false true (goes d) fits is-empty more is t e w =
        let q : reading d ≡ t = cc in
        let v : Read (reading d) ls r = rw (sym q) at w in
        record { last = v.last; reads = by_line fits is-empty more is v.reads; result = v.result }
    later_read c true false true (stops f) fits is-empty more is t e w = zero_one (cc)
    later_read c true false false o fits is-empty more is t e w = zero_one (cc)
    later_read c false empty m o fits is-empty more is t e w = zero_one (cc)

    line_read : (s t : State H B) → on_line L s l ≡ goes t → Read t ls r → Read s (l ∷ ls) r
    unfolding on_line
    line_read start t e w = start_read (line_fits l) (L.header_line l) refl refl t e w
    line_read (sizing h) t e w = size_read h (line_fits l) (blank_line l || comment_line l) (L.size_line h l) refl refl refl t e w
    line_read (reading c) t e w = later_read c (line_fits l) (blank_line l) (L.more c) (L.later_line c l) refl refl refl refl t e w

  pub yield_reads : (k : ℕ) (s : State H B) (ls : List (List ℕ)) (r : R) → read_lines L k s ls ≡ Ok r → Read s ls r
  unfolding read_lines
  yield_reads k s [] r e = end_read k s r e
  yield_reads k s (l ∷ ls) r e = go (on_line L s l) refl e (λ t. yield_reads (k + 1) t ls r)
    where
      go : (o : Step (State H B)) → on_line L s l ≡ o → on_step k o (λ t. read_lines L (k + 1) t ls) ≡ Ok r
          → ((t : State H B) → read_lines L (k + 1) t ls ≡ Ok r → Read t ls r) → Read s (l ∷ ls) r
      go (goes t) is e ih = line_read l ls r s t is (ih t e)
      go (stops f) is e ih = zero_one (cc)
