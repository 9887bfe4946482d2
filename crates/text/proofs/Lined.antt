-- The cursor's next line is the first of the lines that are left, and the cursor after it has the others.
use Rattle.std.specs.Prelude.{None, Some}
use mathlib.Core.Path.{◌≡◌, refl, sym, subst}
use mathlib.Core.Bool.{Bool, true, false, cond}
use mathlib.Core.List.{List, ◌∷◌}
use Prim.Native.Nat.{ℕ, ◌+◌, ◌-◌, ◌≤◌, ◌<◌}
use native.Mathlib.Omega.{arith}
use lib.Dec.{ltb}
use borrow.Author.Tests.{ltb-true, ltb-false}
use lib.ListN.{length, take, drop, length-drop}
use Rattle.layout.proofs.Digits.{absent}
use Rattle.layout.specs.Text.{lines}
use Rattle.text.specs.Cursor.{in_line, past, line_at, next_line}
use Rattle.text.specs.declared.Cursor.{Cursor}
use Rattle.text.specs.declared.Line.{Line}
use Rattle.text.proofs.Scans.{run-le}
use Rattle.text.proofs.Pieces.{lines-some}

-- A line from a to e stands at the cursor c, and d is the cursor after it.
pub record Lined (s : List ℕ) (c : Cursor) (a e : ℕ) (d : Cursor) : Type 0 where
  pub more : c.at < length s
  pub starts : a ≡ c.at
  pub forward : a ≤ e
  pub inside : e ≤ length s
  pub next-at : d.at ≡ e + 1
  pub next-line : d.line ≡ c.line + 1
  pub front : lines (drop c.at s) ≡ take (e - a) (drop a s) ∷ lines (drop d.at s)

module _ (s : List ℕ) (c : Cursor) where
  pub done : None ≡ next_line s c → length s ≤ c.at
  done h = go (ltb c.at (length s)) refl h
    where
      go : (b : Bool) → ltb c.at (length s) ≡ b → None ≡ cond b (Some (line_at s c)) None → length s ≤ c.at
      go true e q = absent q
      go false e q = ltb-false c.at (length s) e

  pub lined : (l : Line) → Some l ≡ next_line s c → Lined s c l.start l.end l.next
  lined l h = go (ltb c.at (length s)) refl h
    where
      go : (b : Bool) → ltb c.at (length s) ≡ b → Some l ≡ cond b (Some (line_at s c)) None → Lined s c l.start l.end l.next
      go false t q = absent (sym q)
      go true t q =
          let lt : c.at < length s = ltb-true c.at (length s) t in
          let e : l ≡ line_at s c = cc in
          subst (λ (x : Line). Lined s c x.start x.end x.next) (sym e) (record {
            more = lt;
            starts = refl;
            forward = omega arith;
            inside = omega (arith, run-le in_line (drop c.at s), length-drop c.at s);
            next-at = refl;
            next-line = refl;
            front = lines-some s c.at (past in_line s c.at) lt refl;
          })
