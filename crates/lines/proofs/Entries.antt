-- Reading an assignment text from one line that counts to the next.
use Rattle.std.specs.Prelude.{Result, Ok}
use Prim.Native.Nat.{ℕ, ◌+◌}
use mathlib.Core.Path.{◌≡◌, refl, sym, ap, ◌∙◌}
use mathlib.Core.Bool.{Bool, true, false, cond}
use mathlib.Core.List.{List, [], ◌∷◌}
use lib.ListN.{drop}
use Rattle.graph.specs.declared.Fault.TheVariants.{AssignmentLine}
use Rattle.graph.specs.Refusal.{Outcome, refuses}
use Rattle.graph.specs.Graph.{Graph}
use Rattle.layout.specs.Text.{lines, line_fits}
use Rattle.layout.specs.AssignmentText.{Progress, entry_on, on_entry, skipped, on_assignment_line, after_last, proceed, read_entries}
use Rattle.text.specs.declared.Cursor.{Cursor}
use Rattle.text.specs.declared.Line.{Line}
use Rattle.lines.specs.declared.Missing.{Missing}
use Rattle.lines.specs.Found.{LineFound, at, ended, long, next_data, found_says, FoundAs}

-- What reading yields in a state, by the next line that counts.
abbrev pub entry_met : Progress → LineFound → Outcome Graph
entry_met t (at k l ls) = proceed (on_entry k t (entry_on l)) (λ u. read_entries (k + 1) u ls)
entry_met t (ended k) = after_last k t
entry_met t (long k) = refuses AssignmentLine k

read-entries : (t : Progress) (k : ℕ) (ls : List (List ℕ)) → read_entries k t ls ≡ entry_met t (next_data skipped k ls)
unfolding read_entries on_assignment_line next_data
read-entries t k [] = refl
read-entries t k (l ∷ ls) = go (line_fits l) (skipped l) (read-entries t (k + 1) ls)
  where
    go : (fits over : Bool) → read_entries (k + 1) t ls ≡ entry_met t (next_data skipped (k + 1) ls)
        → proceed (cond fits (cond over (Ok t) (on_entry k t (entry_on l))) (refuses AssignmentLine k)) (λ u. read_entries (k + 1) u ls)
        ≡ entry_met t (cond fits (cond over (next_data skipped (k + 1) ls) (at k l ls)) (long k))
    go true true ih = ih
    go true false ih = refl
    go false over ih = refl

-- From a cursor on, by the answer that tells the next line that counts.
pub entries-found : {s : List ℕ} {c : Cursor} (r : Result Line Missing) → FoundAs s c (next_data skipped (c.line + 1) (lines (drop c.at s))) r →
    (t : Progress) → read_entries (c.line + 1) t (lines (drop c.at s)) ≡ entry_met t (found_says s r)
entries-found {s} {c} r F t = read-entries t (c.line + 1) (lines (drop c.at s)) ∙ ap (entry_met t) (sym F.says)
