-- The number reader's loop, on plain values: the output holds the numbers read so far, and then 0.
use Rattle.std.specs.Prelude.{Ok, Err, Result, Some, None}
use Prim.Native.Nat.{ℕ, ◌+◌, ◌<◌, ◌≤◌}
use mathlib.Core.Path.{◌≡◌, refl, sym, ap, ap₂, ◌∙◌}
use mathlib.Core.Bool.{Bool, cond}
use mathlib.Core.List.{List, [], ◌∷◌, ◌++◌}
use native.Mathlib.Omega.{arith}
use lib.Dec.{ltb}
use lib.IntN.{ℤ, pos}
use lib.ListN.{length, set, length-append, replicate}
use borrow.Author.Tests.{ltb-true}
use Rattle.graph.specs.declared.Refusal.{Refusal}
use Rattle.graph.specs.declared.Fault.{Fault}
use Rattle.graph.specs.declared.Fault.TheVariants.{Header}
use Rattle.graph.specs.Refusal.{Outcome, refuses, reported, filled}
use Rattle.graph.proofs.Passing.{zero_one}
use Rattle.layout.specs.declared.Rules.{Rules}
use Rattle.layout.specs.declared.Numbers.{Numbers}
use Rattle.layout.specs.Text.{bytes, header, words, natural, integer, one_word, two_words}
use Rattle.layout.specs.Lines.{Step, goes, stops, sizing, reading, read_text}
use Rattle.layout.specs.NumberText.{number_header, number_sizes, number_value, number_layout}
use Rattle.text.specs.declared.Cursor.{Cursor}
use Rattle.text.specs.declared.Line.{Line}
use Rattle.lines.specs.Found.{part}
use Rattle.lines.specs.Walk.{OpenedAs, LaterAs, size_met, later_met, Walk}
use Rattle.lines.proofs.Walk.{size_goes, size_stops, later_refused, later_yields, later_goes, later_stops}
use Rattle.lent.proofs.Filling.{filled_none, filled_more, holds_refused, holds_yields}
use Rattle.number_reader.specs.OnLine.{count_says, value_says, NumbersReading}

-- A refusal reports itself, whatever the output holds.
pub read_refused : {rules : Rules} {what : Numbers} {n : ℕ} {s : List ℕ} {out : List ℤ} (x : Refusal) →
    refuses x.fault x.place ≡ read_text (number_layout rules what n) s → {y : Outcome (Unit {0})} → y ≡ Err x → NumbersReading rules what n s y out
read_refused x e same = record { says = same ∙ ap (λ (o : Outcome (List ℤ)). (reported (λ zs. tt {0}) o)) e; holds = holds_refused (sym e) }

-- What a line does, as an answer that has its place.
abbrev pub placed : {A : Type 0} → Cursor → Result A Fault → Outcome A
placed d (Ok a) = Ok a
placed d (Err f) = refuses f d.line

-- The header line is right where b says so.
pub header_does : (l : List ℕ) {b : Bool} → b ≡ header (bytes "matrix" ∷ bytes "array" ∷ bytes "integer" ∷ bytes "general" ∷ []) l → {t : Bool} → b ≡ t →
    number_header l ≡ cond t (goes tt) (stops Header)
header_does l says is = ap (λ (x : Bool). cond {A = Step (Unit {0})} x (goes tt) (stops Header)) (sym says ∙ is)

-- The size line tells the count that is asked for, or is refused.
module _ (rules : Rules) (what : Numbers) (n : ℕ) {s : List ℕ} {c : Cursor} (w : Walk (number_layout rules what n) s c (sizing tt)) {l : Line}
    (F : OpenedAs s c (size_met s c) (Ok l)) where
  abbrev Counts : Result (Unit {0}) Fault → Type 0
  Counts r = count_says r ≡ number_sizes n (two_words (natural rules) (natural rules) (words (part s l.start l.end)))

  pub size_read : (r : Result (Unit {0}) Fault) → Counts r → {u : Unit {0}} → Ok u ≡ placed l.next r → Walk (number_layout rules what n) s l.next (reading [])
  size_read (Ok tt) does it = size_goes (number_layout rules what n) w F [] (sym does)
  size_read (Err f) does it = zero_one (cc)

  pub size_wrong : (r : Result (Unit {0}) Fault) → Counts r → {x : Refusal} → Err x ≡ placed l.next r → {y : Outcome (Unit {0})} → y ≡ Err x →
      {out : List ℤ} → NumbersReading rules what n s y out
  size_wrong (Ok tt) does it same = zero_one (cc)
  size_wrong (Err f) does {x} it same = read_refused x (size_stops (number_layout rules what n) w F f (sym does) cc) same

-- The loop has read i numbers of n.
pub record NumberTurn (rules : Rules) (what : Numbers) (n : ℕ) (s : List ℕ) (out : List ℤ) (c : Cursor) (i : ℕ) : Type 0 where
  pub read : List ℤ
  pub walk : Walk (number_layout rules what n) s c (reading read)
  pub count : length read ≡ i
  pub room : i ≤ n
  pub holds : out ≡ filled n (pos 0) read

pub turn_starts : {rules : Rules} {what : Numbers} {n : ℕ} {s : List ℕ} {out : List ℤ} {c : Cursor} → Walk (number_layout rules what n) s c (reading []) →
    out ≡ replicate n (pos 0) → NumberTurn rules what n s out c 0
turn_starts {n = n} w z = record { read = []; walk = w; count = refl; room = omega arith; holds = z ∙ filled_none n (pos 0) }

module _ {rules : Rules} {what : Numbers} {n : ℕ} {s : List ℕ} {out : List ℤ} {c : Cursor} {i : ℕ} (T : NumberTurn rules what n s out c i) where
  right : ltb (length T.read) n ≡ ltb i n
  right = ap (λ k. ltb k n) T.count

  -- What comes next says what reading yields.
  pub turn_done : LaterAs s c (ltb i n) (later_met s c (ltb i n)) (Ok None) → NumbersReading rules what n s (Ok tt) out
  turn_done F =
      let e : Ok T.read ≡ read_text (number_layout rules what n) s = later_yields (number_layout rules what n) T.walk right F in
      record { says = ap (λ (o : Outcome (List ℤ)). (reported (λ zs. tt {0}) o)) e; holds = holds_yields (sym e) T.holds }

  pub turn_refused : {x : Refusal} → LaterAs s c (ltb i n) (later_met s c (ltb i n)) (Err x) → {y : Outcome (Unit {0})} → y ≡ Err x →
      NumbersReading rules what n s y out
  turn_refused {x} F same = read_refused x (later_refused (number_layout rules what n) T.walk right F) same

  module _ {l : Line} (F : LaterAs s c (ltb i n) (later_met s c (ltb i n)) (Ok (Some l))) where
    pub turn_below : i < n
    turn_below = ltb-true i n F.inside.1

    -- The line tells r.
    module _ (r : Result ℤ Fault) (does : (zs : List ℤ) → value_says zs r ≡ number_value rules what zs (one_word (integer rules) (words (part s l.start l.end)))) where
      pub turn_stops : {x : Refusal} → Err x ≡ placed l.next r → {y : Outcome (Unit {0})} → y ≡ Err x → NumbersReading rules what n s y out
      turn_stops {x} it {y} same = go r does it
        where
          go : (r : Result ℤ Fault) → ((zs : List ℤ) → value_says zs r ≡ number_value rules what zs (one_word (integer rules) (words (part s l.start l.end)))) →
              Err x ≡ placed l.next r → NumbersReading rules what n s y out
          go (Ok z) does it = zero_one (cc)
          go (Err f) does it = read_refused x (later_stops (number_layout rules what n) T.walk right F f (sym (does T.read)) cc) same

      pub turn_takes : {z : ℤ} → Ok z ≡ placed l.next r → {y : ℤ} → y ≡ z → NumberTurn rules what n s (set out i y) l.next (i + 1)
      turn_takes {z} it {y} same = go r does it
        where
          go : (r : Result ℤ Fault) → ((zs : List ℤ) → value_says zs r ≡ number_value rules what zs (one_word (integer rules) (words (part s l.start l.end)))) →
              Ok z ≡ placed l.next r → NumberTurn rules what n s (set out i y) l.next (i + 1)
          go (Err f) does it = zero_one (cc)
          go (Ok w) does it =
              let b = turn_below in
              let e : w ≡ z = cc in
              record {
                read = T.read ++ (w ∷ []);
                walk = later_goes (number_layout rules what n) T.walk right F (T.read ++ (w ∷ [])) (sym (does T.read));
                count = length-append T.read (w ∷ []) ∙ ap (λ k. k + 1) T.count;
                room = omega (arith, b);
                holds =
                    ap₂ (λ (xs : List ℤ) (x : ℤ). set xs i x) T.holds (same ∙ sym e)
                    ∙ ap (λ k. set (filled n (pos 0) T.read) k w) (sym T.count)
                    ∙ filled_more n (pos 0) T.read w (omega (arith, b, T.count));
              }
