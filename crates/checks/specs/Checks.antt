-- What a check says, and the table of the ends seen so far.
use Rattle.std.specs.Prelude.{ℕ, ◌+◌, ◌*◌, ◌-◌, ◌≤◌, ◌≡◌, Bool, cond, ◌&&◌, List, eqb, length, get_or}
use Rattle.graph.specs.Limits.{most_vertices}
use Rattle.graph.specs.Graph.{some?}

-- A row or column that the table of ends has a flag for.
pub record Flagged (r : ℕ) : Type 0 where
  pub least : 1 ≤ r
  pub greatest : r ≤ most_vertices

-- How many flags the table has, and where the flag of row r and column c stands.
abbrev pub table_flags : ℕ
table_flags = most_vertices * most_vertices

abbrev pub flag_place : ℕ → ℕ → ℕ
flag_place r c = (r - 1) * most_vertices + (c - 1)

-- One of the first n edges, with these rows and columns, has row r and column c, as `joined` says of a graph.
abbrev pub joined_in : List ℕ → List ℕ → ℕ → ℕ → ℕ → Bool
joined_in row column n r c = some? n (λ e. eqb (get_or row e 0) r && eqb (get_or column e 0) c)

-- The table of ends after the first n edges: the flag of row r and column c is 1 if one of them has these ends, else 0.
pub record Seen (flags row column : List ℕ) (n : ℕ) : Type 0 where
  pub long : length flags ≡ table_flags
  pub each : (r c : ℕ) → Flagged r → Flagged c → get_or flags (flag_place r c) 0 ≡ cond (joined_in row column n r c) 1 0
