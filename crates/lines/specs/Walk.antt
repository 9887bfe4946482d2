-- The walk over the lines of a text: what a reader meets next, and how far reading has come, for any layout.
use Rattle.std.specs.Prelude.{ℕ, ◌+◌, ◌≡◌, Bool, true, false, cond, ◌||◌, List, drop, Option, None, Some, Result, Ok, Err}
use Rattle.graph.specs.declared.Fault.{Fault}
use Rattle.graph.specs.declared.Fault.TheVariants.{Header, SizeLine, LaterLine}
use Rattle.graph.specs.declared.Refusal.{Refusal}
use Rattle.layout.specs.Text.{lines, blank_line, comment_line}
use Rattle.layout.specs.Lines.{State, Layout, read_lines, read_text}
use Rattle.text.specs.declared.Cursor.{Cursor}
use Rattle.text.specs.declared.Line.{Line}
use Rattle.lines.specs.declared.Missing.{Missing}
use Rattle.lines.specs.Found.{LineFound, at, ended, long, next_data, part, Reached, Inside}

-- What a reader meets: line k and the lines after it; the end, where no line is to come; or a refusal.
pub data Met : Type 0 where
  line : ℕ → List ℕ → List (List ℕ) → Met
  done : Met
  refused : Fault → ℕ → Met

-- A line that has to come, with the fault where it does not; and a later line, where more says whether one is still to come.
abbrev pub opens : Fault → LineFound → Met
opens f (at k l ls) = line k l ls
opens f (ended k) = refused f k
opens f (long k) = refused f k

abbrev pub follows : Bool → LineFound → Met
follows more (at k l ls) = cond more (line k l ls) (refused LaterLine k)
follows more (ended k) = cond more (refused LaterLine k) done
follows more (long k) = refused LaterLine k

-- What is met at the top of the text s, and at a cursor before the size line or after it.
abbrev pub header_met : List ℕ → Met
header_met s = opens Header (next_data (λ l. false) 1 (lines s))

abbrev pub size_met : List ℕ → Cursor → Met
size_met s c = opens SizeLine (next_data (λ l. blank_line l || comment_line l) (c.line + 1) (lines (drop c.at s)))

abbrev pub later_met : List ℕ → Cursor → Bool → Met
later_met s c more = follows more (next_data blank_line (c.line + 1) (lines (drop c.at s)))

-- What the answers say.
abbrev pub place_of : Missing → ℕ
place_of (Missing.Ended k) = k
place_of (Missing.Long k) = k

abbrev pub opened_of : Fault → Result Line Missing → Result Line Refusal
opened_of f (Ok l) = Ok l
opened_of f (Err m) = Err (record { fault = f; place = place_of m })

abbrev pub opened_says : List ℕ → Result Line Refusal → Met
opened_says s (Ok l) = line l.next.line (part s l.start l.end) (lines (drop l.next.at s))
opened_says s (Err r) = refused r.fault r.place

abbrev pub later_says : List ℕ → Result (Option Line) Refusal → Met
later_says s (Ok (Some l)) = line l.next.line (part s l.start l.end) (lines (drop l.next.at s))
later_says s (Ok None) = done
later_says s (Err r) = refused r.fault r.place

abbrev pub OpenedInside : List ℕ → Cursor → Result Line Refusal → Type 0
OpenedInside s c (Ok l) = Inside s c l.start l.end l.next
OpenedInside s c (Err r) = Unit {0}

abbrev pub LaterInside : List ℕ → Cursor → Bool → Result (Option Line) Refusal → Type 0
LaterInside s c more (Ok (Some l)) = Inside s c l.start l.end l.next × (more ≡ true)
LaterInside s c more (Ok None) = Unit {0}
LaterInside s c more (Err r) = Unit {0}

-- An answer tells what is met from the cursor c on.
pub record OpenedAs (s : List ℕ) (c : Cursor) (met : Met) (r : Result Line Refusal) : Type 0 where
  pub says : opened_says s r ≡ met
  pub inside : OpenedInside s c r

pub record LaterAs (s : List ℕ) (c : Cursor) (more : Bool) (met : Met) (r : Result (Option Line) Refusal) : Type 0 where
  pub says : later_says s r ≡ met
  pub inside : LaterInside s c more r

-- The top of a text.
abbrev pub origin : Cursor
origin = record { at = 0; line = 0 }

-- Reading the text s in the layout L has come to the cursor c and a state.
pub record Walk {H B R : Type 0} (L : Layout H B R) (s : List ℕ) (c : Cursor) (t : State H B) : Type 0 where
  pub reached : Reached s c
  pub whole : read_lines L (c.line + 1) t (lines (drop c.at s)) ≡ read_text L s
