-- Reading a text from one line that counts to the next, for any layout: what each answer of the walk means for the whole.
use Rattle.std.specs.Prelude.{None, Some, Result, Ok, Err}
use Prim.Native.Nat.{ℕ, ◌+◌}
use mathlib.Core.Path.{◌≡◌, refl, sym, ap, ◌∙◌}
use mathlib.Core.Bool.{Bool, true, false, cond, ◌||◌}
use mathlib.Core.List.{List, [], ◌∷◌}
use native.Mathlib.Omega.{arith}
use lib.ListN.{drop}
use Rattle.graph.specs.declared.Fault.{Fault}
use Rattle.graph.specs.declared.Fault.TheVariants.{Header, SizeLine, LaterLine}
use Rattle.graph.specs.declared.Refusal.{Refusal}
use Rattle.graph.specs.Refusal.{Outcome, refuses}
use Rattle.layout.specs.Text.{lines, line_fits, blank_line, comment_line}
use Rattle.layout.specs.Lines.{Step, goes, stops, State, start, sizing, reading, Layout, sized, begun, on_line, at_end, on_step, read_lines, read_text}
use Rattle.text.specs.declared.Cursor.{Cursor}
use Rattle.text.specs.declared.Line.{Line}
use Rattle.lines.specs.declared.Missing.{Missing}
use Rattle.lines.specs.Found.{LineFound, at, long, next_data, part, found_says, Reached, Inside, FoundInside, FoundAs}
use Rattle.lines.specs.Walk.{Met, line, done, refused, opens, follows, header_met, size_met, later_met, opened_of, opened_says}
use Rattle.lines.specs.Walk.{OpenedInside, OpenedAs, LaterAs, origin, Walk}

-- The walk begins at the origin.
pub origin-reached : (s : List ℕ) → Reached s origin
origin-reached s = record { behind = omega arith; reach = omega arith }

-- What the functions that look for a line answer, by what was found.
pub opened_as : {s : List ℕ} {c : Cursor} {w : LineFound} (o : Result Line Missing) → FoundAs s c w o → (f : Fault) → OpenedAs s c (opens f w) (opened_of f o)
opened_as {s} {c} o F f = record { says = says o ∙ ap (opens f) F.says; inside = inside o F.inside }
  where
    says : (o : Result Line Missing) → opened_says s (opened_of f o) ≡ opens f (found_says s o)
    says (Ok l) = refl
    says (Err (Missing.Ended k)) = refl
    says (Err (Missing.Long k)) = refl

    inside : (o : Result Line Missing) → FoundInside s c o → OpenedInside s c (opened_of f o)
    inside (Ok l) i = i
    inside (Err m) i = tt

pub later_at : {s : List ℕ} {c : Cursor} {w : LineFound} {more : Bool} {l : Line} → FoundAs s c w (Ok l) → more ≡ true →
    LaterAs s c more (follows more w) (Ok (Some l))
later_at {w = w} {l = l} F q = record { says = ap (follows true) F.says ∙ ap (λ (b : Bool). follows b w) (sym q); inside = (F.inside, q) }

module _ {H B R : Type 0} (L : Layout H B R) where
  -- What a line does in each state, where it counts; and what reading yields by what is met.
  abbrev pub does : State H B → List ℕ → Step (State H B)
  does start l = sized (L.header_line l)
  does (sizing h) l = begun (L.size_line h l)
  does (reading b) l = begun (L.later_line b l)

  abbrev pub met : (List ℕ → Step (State H B)) → Outcome R → Met → Outcome R
  met f end (line k l ls) = on_step k (f l) (λ t. read_lines L (k + 1) t ls)
  met f end done = end
  met f end (refused g k) = refuses g k

  abbrev nothing : Outcome R
  nothing = refuses Header 0

  read_header : (k : ℕ) (ls : List (List ℕ)) → read_lines L k start ls ≡ met (does start) nothing (opens Header (next_data (λ l. false) k ls))
  unfolding read_lines on_line at_end next_data
  read_header k [] = refl
  read_header k (l ∷ ls) = go (line_fits l)
    where
      go : (fits : Bool) →
          on_step k (cond fits (does start l) (stops Header)) (λ t. read_lines L (k + 1) t ls)
          ≡ met (does start) nothing (opens Header (cond fits (at k l ls) (long k)))
      go true = refl
      go false = refl

  read_size : (h : H) (k : ℕ) (ls : List (List ℕ)) →
      read_lines L k (sizing h) ls ≡ met (does (sizing h)) nothing (opens SizeLine (next_data (λ l. blank_line l || comment_line l) k ls))
  unfolding read_lines on_line at_end next_data
  read_size h k [] = refl
  read_size h k (l ∷ ls) = go (line_fits l) (blank_line l || comment_line l) (read_size h (k + 1) ls)
    where
      go :
          (fits skipped : Bool) →
          read_lines L (k + 1) (sizing h) ls
          ≡ met (does (sizing h)) nothing (opens SizeLine (next_data (λ l. blank_line l || comment_line l) (k + 1) ls))
          → on_step k (cond fits (cond skipped (goes (sizing h)) (does (sizing h) l)) (stops SizeLine)) (λ t. read_lines L (k + 1) t ls)
          ≡ met (does (sizing h)) nothing
          (opens SizeLine (cond fits (cond skipped (next_data (λ l. blank_line l || comment_line l) (k + 1) ls) (at k l ls)) (long k)))
      go true true ih = ih
      go true false ih = refl
      go false skipped ih = refl

  pub read_later : (b : B) (m : Bool) → L.more b ≡ m → (k : ℕ) (ls : List (List ℕ)) →
      read_lines L k (reading b) ls ≡ met (does (reading b)) (Ok (L.result b)) (follows m (next_data blank_line k ls))
  unfolding read_lines on_line at_end next_data
  read_later b true q k [] = ap (λ (x : Bool). cond {A = Outcome R} x (refuses LaterLine k) (Ok (L.result b))) q
  read_later b false q k [] = ap (λ (x : Bool). cond {A = Outcome R} x (refuses LaterLine k) (Ok (L.result b))) q
  read_later b m q k (l ∷ ls) = go (line_fits l) (blank_line l) m q (read_later b m q (k + 1) ls)
    where
      go :
          (fits skipped m : Bool) → L.more b ≡ m →
          read_lines L (k + 1) (reading b) ls ≡ met (does (reading b)) (Ok (L.result b)) (follows m (next_data blank_line (k + 1) ls))
          → on_step k (cond fits (cond skipped (goes (reading b)) (cond (L.more b) (does (reading b) l) (stops LaterLine))) (stops LaterLine))
          (λ t. read_lines L (k + 1) t ls)
          ≡ met (does (reading b)) (Ok (L.result b)) (follows m (cond fits (cond skipped (next_data blank_line (k + 1) ls) (at k l ls)) (long k)))
      go true true m q ih = ih
      go true false true q ih = ap (λ (x : Bool). on_step k (cond x (does (reading b) l) (stops LaterLine)) (λ t. read_lines L (k + 1) t ls)) q
      go true false false q ih = ap (λ (x : Bool). on_step k (cond x (does (reading b) l) (stops LaterLine)) (λ t. read_lines L (k + 1) t ls)) q
      go false skipped m q ih = refl

  abbrev refusal : Refusal → Outcome R
  refusal x = refuses x.fault x.place

  -- A line that was met goes on in a state, or is refused, and so does the whole.
  module _ (s : List ℕ) (c : Cursor) (f : List ℕ → Step (State H B)) (end : Outcome R) (m : Met) (w : read_text L s ≡ met f end m) where
    met_line : {a e : ℕ} {d : Cursor} → Inside s c a e d → line d.line (part s a e) (lines (drop d.at s)) ≡ m → (o : Step (State H B)) →
        f (part s a e) ≡ o
        → on_step d.line o (λ t. read_lines L (d.line + 1) t (lines (drop d.at s))) ≡ read_text L s
    met_line {d = d} i is o q =
        sym
        (w ∙ ap (met f end) (sym is)
        ∙ ap (λ (x : Step (State H B)). on_step d.line x (λ t. read_lines L (d.line + 1) t (lines (drop d.at s)))) q)

    met_goes : {a e : ℕ} {d : Cursor} → Inside s c a e d → line d.line (part s a e) (lines (drop d.at s)) ≡ m → (t : State H B) →
        f (part s a e) ≡ goes t → Walk L s d t
    met_goes i is t q = record { reached = i.reached; whole = met_line i is (goes t) q }

    met_stops : {a e : ℕ} {d : Cursor} → Inside s c a e d → line d.line (part s a e) (lines (drop d.at s)) ≡ m → (g : Fault) → f (part s a e) ≡ stops g
        → {x : Refusal} → x ≡ record { fault = g; place = d.line } → refuses x.fault x.place ≡ read_text L s
    met_stops i is g q same = ap (λ (x : Refusal). refusal x) same ∙ met_line i is (stops g) q

    met_refused : (x : Refusal) → refused x.fault x.place ≡ m → refuses x.fault x.place ≡ read_text L s
    met_refused x is = sym (w ∙ ap (met f end) (sym is))

  -- The header line.
  module _ {s : List ℕ} where
    pub header_refused : {x : Refusal} → OpenedAs s origin (header_met s) (Err x) → refuses x.fault x.place ≡ read_text L s
    header_refused {x} F = met_refused s origin (does start) nothing (header_met s) (read_header 1 (lines s)) x F.says

    module _ {l : Line} (F : OpenedAs s origin (header_met s) (Ok l)) where
      pub header-goes : (h : H) → L.header_line (part s l.start l.end) ≡ goes h → Walk L s l.next (sizing h)
      header-goes h q =
          met_goes s origin (does start) nothing (header_met s) (read_header 1 (lines s)) F.inside F.says (sizing h) (ap sized q)

      pub header-stops : (f : Fault) → L.header_line (part s l.start l.end) ≡ stops f → {x : Refusal} → x ≡ record { fault = f; place = l.next.line } →
          refuses x.fault x.place ≡ read_text L s
      header-stops f q same =
          met_stops s origin (does start) nothing (header_met s) (read_header 1 (lines s)) F.inside F.says f (ap sized q) same

  -- The size line.
  module _ {s : List ℕ} {c : Cursor} {h : H} (w : Walk L s c (sizing h)) where
    size_whole : read_text L s ≡ met (does (sizing h)) nothing (size_met s c)
    size_whole = sym w.whole ∙ read_size h (c.line + 1) (lines (drop c.at s))

    pub size_refused : {x : Refusal} → OpenedAs s c (size_met s c) (Err x) → refuses x.fault x.place ≡ read_text L s
    size_refused {x} F = met_refused s c (does (sizing h)) nothing (size_met s c) size_whole x F.says

    module _ {l : Line} (F : OpenedAs s c (size_met s c) (Ok l)) where
      pub size_goes : (b : B) → L.size_line h (part s l.start l.end) ≡ goes b → Walk L s l.next (reading b)
      size_goes b q = met_goes s c (does (sizing h)) nothing (size_met s c) size_whole F.inside F.says (reading b) (ap begun q)

      pub size_stops : (f : Fault) → L.size_line h (part s l.start l.end) ≡ stops f → {x : Refusal} → x ≡ record { fault = f; place = l.next.line } →
          refuses x.fault x.place ≡ read_text L s
      size_stops f q same = met_stops s c (does (sizing h)) nothing (size_met s c) size_whole F.inside F.says f (ap begun q) same

  -- A later line, where the code is right on whether one is still to come.
  module _ {s : List ℕ} {c : Cursor} {b : B} (w : Walk L s c (reading b)) {more : Bool} (right : L.more b ≡ more) where
    later_whole : read_text L s ≡ met (does (reading b)) (Ok (L.result b)) (later_met s c more)
    later_whole = sym w.whole ∙ read_later b more right (c.line + 1) (lines (drop c.at s))

    pub later_refused : {x : Refusal} → LaterAs s c more (later_met s c more) (Err x) → refuses x.fault x.place ≡ read_text L s
    later_refused {x} F = met_refused s c (does (reading b)) (Ok (L.result b)) (later_met s c more) later_whole x F.says

    pub later_yields : LaterAs s c more (later_met s c more) (Ok None) → Ok (L.result b) ≡ read_text L s
    later_yields F = sym (later_whole ∙ ap (met (does (reading b)) (Ok (L.result b))) (sym F.says))

    module _ {l : Line} (F : LaterAs s c more (later_met s c more) (Ok (Some l))) where
      pub later_goes : (to : B) → L.later_line b (part s l.start l.end) ≡ goes to → Walk L s l.next (reading to)
      later_goes to q =
          met_goes s c (does (reading b)) (Ok (L.result b)) (later_met s c more) later_whole F.inside.0 F.says (reading to) (ap begun q)

      pub later_stops : (f : Fault) → L.later_line b (part s l.start l.end) ≡ stops f → {x : Refusal} → x ≡ record { fault = f; place = l.next.line } →
          refuses x.fault x.place ≡ read_text L s
      later_stops f q same =
          met_stops s c (does (reading b)) (Ok (L.result b)) (later_met s c more) later_whole F.inside.0 F.says f (ap begun q) same
