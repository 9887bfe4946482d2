-- The kind of graph that a header line tells.
use Rattle.std.specs.Prelude.{cond, List, [], ◌∷◌, ℕ, Option, None, Some}
use Rattle.graph.specs.declared.Kind.{Kind}
use Rattle.graph.specs.declared.Kind.TheVariants.{Bipartite, General}
use Rattle.layout.specs.Text.{bytes, header}

-- The kind that a line tells: `%%MatrixMarket matrix coordinate`, a field, and `general` for a bipartite graph or `symmetric` for a general one.
abbrev pub kind_told : List ℕ → List ℕ → Option Kind
kind_told field l =
    cond (header (bytes "matrix" ∷ bytes "coordinate" ∷ field ∷ bytes "general" ∷ []) l) (Some Bipartite)
    (cond (header (bytes "matrix" ∷ bytes "coordinate" ∷ field ∷ bytes "symmetric" ∷ []) l) (Some General) None)
