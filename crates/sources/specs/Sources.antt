-- What a line after the problem line of an assignment text says.
use Rattle.std.specs.Prelude.{ℕ, ◌≡◌, List, Ok, Err, Result}
use Rattle.graph.specs.declared.Fault.{Fault}
use Rattle.graph.specs.Refusal.{refuses}
use Rattle.layout.specs.AssignmentText.{Stated, naming, joining, judged, entry_on, on_entry}
use Rattle.sources.specs.declared.SourceLine.{SourceLine}

-- What a line does after the problem line, which states so many arcs, and so many source nodes: it is the next one; or the first arc, where the sizes are
-- judged and it is the first of the graph; or it is refused.
abbrev pub SourceAs : List ℕ → ℕ → ℕ → Result SourceLine Fault → Type 0
SourceAs l arcs rows (Ok (SourceLine.Node v)) = (k : ℕ) (P : Stated) → P.arcs ≡ arcs → on_entry k (naming P rows) (entry_on l) ≡ Ok (naming P v)
SourceAs l arcs rows (Ok SourceLine.Arc) =
    (k : ℕ) (P : Stated) → P.arcs ≡ arcs → on_entry k (naming P rows) (entry_on l) ≡ judged P rows (λ g. on_entry k (joining g) (entry_on l))
SourceAs l arcs rows (Err f) = (k : ℕ) (P : Stated) → P.arcs ≡ arcs → on_entry k (naming P rows) (entry_on l) ≡ refuses f k
