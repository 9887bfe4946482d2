-- The loop that looks for the next line that counts, on plain values.
use Rattle.std.specs.Prelude.{None, Ok, Err}
use mathlib.Core.Path.{◌≡◌, refl, sym, ap, ap₂, ◌∙◌}
use mathlib.Core.Bool.{Bool, true, false, cond}
use mathlib.Core.List.{List, [], ◌∷◌}
use Prim.Native.Nat.{ℕ, ◌+◌, ◌-◌, ◌≤◌, ◌<◌}
use native.Mathlib.Omega.{arith}
use borrow.Author.Tests.{le-leb, lt-leb}
use lib.ListN.{length, drop}
use Rattle.layout.specs.Text.{lines, line_fits}
use Rattle.text.specs.Cursor.{next_line}
use Rattle.text.specs.declared.Cursor.{Cursor}
use Rattle.text.specs.declared.Line.{Line}
use Rattle.text.proofs.Lined.{Lined, done}
use Rattle.text.proofs.Pieces.{lines_none}
use Rattle.lines.specs.Found.{at, ended, long, next_data, part, Reached, Inside, FoundAs}
use Rattle.lines.specs.declared.Missing.TheVariants as Missing

-- The search has come from the cursor `from` to c.
pub record Came (s : List ℕ) (from c : Cursor) : Type 0 where
  pub behind : c.line ≤ c.at
  pub reach : c.at ≤ length s + 1
  pub onward : from.at ≤ c.at

pub came : (s : List ℕ) (c : Cursor) → Reached s c → Came s c c
came s c r = record { behind = r.behind; reach = r.reach; onward = omega arith }

-- What it looks for from `from` on is what it looks for from c on.
abbrev pub Same : (List ℕ → Bool) → List ℕ → Cursor → Cursor → Type 0
Same skip s from c = next_data skip (c.line + 1) (lines (drop c.at s)) ≡ next_data skip (from.line + 1) (lines (drop from.at s))

data_nil : (skip : List ℕ → Bool) (k : ℕ) → next_data skip k [] ≡ ended k
unfolding next_data
data_nil skip k = refl

data_cons : (skip : List ℕ → Bool) (k : ℕ) (l : List ℕ) (ls : List (List ℕ)) →
    next_data skip k (l ∷ ls) ≡ cond (line_fits l) (cond (skip l) (next_data skip (k + 1) ls) (at k l ls)) (long k)
unfolding next_data
data_cons skip k l ls = refl

module _ (s : List ℕ) (from c : Cursor) (h : Came s from c) where
  -- The lines end.
  pub search_ends : None ≡ next_line s c → (skip : List ℕ → Bool) → Same skip s from c →
      FoundAs s from (next_data skip (from.line + 1) (lines (drop from.at s))) (Err (Missing.Ended (c.line + 1)))
  search_ends none skip w = record {
    says = sym (ap (next_data skip (c.line + 1)) (lines_none s c.at (done s c none)) ∙ data_nil skip (c.line + 1)) ∙ w;
    inside = tt;
  }

  -- A line stands at c.
  module _ (l : Line) (g : Lined s c l.start l.end l.next) where
    abbrev line : List ℕ
    line = part s l.start l.end

    abbrev others : List (List ℕ)
    others = lines (drop l.next.at s)

    pub came_on : Came s from l.next
    came_on = record {
      behind = omega (arith, h.behind, g.next-at, g.next-line, g.starts, g.forward);
      reach = omega (arith, g.next-at, g.inside);
      onward = omega (arith, h.onward, g.next-at, g.starts, g.forward);
    }

    pub falls : length s + 1 - l.next.at < length s + 1 - c.at
    falls = omega (arith, g.next-at, g.starts, g.forward, g.more)

    found_inside : Inside s from l.start l.end l.next
    found_inside = record {
      forward = g.forward;
      ends = g.inside;
      reached = record { behind = came_on.behind; reach = came_on.reach };
      onward = omega (arith, h.onward, g.next-at, g.starts, g.forward);
    }

    module _ (skip : List ℕ → Bool) (w : Same skip s from c) where
      step : (fits skipped : Bool) → line_fits line ≡ fits → skip line ≡ skipped
          → cond fits (cond skipped (next_data skip (c.line + 1 + 1) others) (at (c.line + 1) line others)) (long (c.line + 1))
          ≡ next_data skip (from.line + 1) (lines (drop from.at s))
      step fits skipped p q =
          ap₂ (λ (x y : Bool). cond x (cond y (next_data skip (c.line + 1 + 1) others) (at (c.line + 1) line others)) (long (c.line + 1))) (sym p) (sym q)
          ∙ sym (ap (next_data skip (c.line + 1)) g.front ∙ data_cons skip (c.line + 1) line others) ∙ w

      pub search_long : 1024 < length line →
          FoundAs s from (next_data skip (from.line + 1) (lines (drop from.at s))) (Err (Missing.Long l.next.line))
      search_long lt = record { says = ap long g.next-line ∙ step false (skip line) (lt-leb (length line) 1024 lt) refl; inside = tt }

      module _ (le : length line ≤ 1024) where
        pub search_finds : skip line ≡ false → FoundAs s from (next_data skip (from.line + 1) (lines (drop from.at s))) (Ok l)
        search_finds q = record {
          says = ap (λ (k : ℕ). at k line others) g.next-line ∙ step true false (le-leb (length line) 1024 le) q;
          inside = found_inside;
        }

        pub search_more : skip line ≡ true → Same skip s from l.next
        search_more q = ap (λ (k : ℕ). next_data skip (k + 1) others) g.next-line ∙ step true true (le-leb (length line) 1024 le) q
