-- When two graphs are the same sheet but for the order of their edges, and when a text of a subgraph (plan) is read alike for both.
use Rattle.std.specs.Prelude.{ℕ, ◌<◌, ◌≡◌, ◌⊎◌, List, ℤ, Option, option_map, Ok, Err}
use Rattle.graph.specs.Refusal.{Outcome, refuses}
use Rattle.graph.specs.Graph.{Graph, row_at, column_at, weight_at}
use Rattle.graph.specs.Subgraph.{mark_at}
use Rattle.layout.specs.SubgraphText.{edge_with}

-- The weight (merit) at a pair of ends, if the graph has an edge there.
abbrev pub weight_with : Graph → ℕ → ℕ → Option ℤ
weight_with g r c = option_map (weight_at g) (edge_with g r c)

-- Same kind, sizes and pairs of ends, and the same weight at each.
pub record SameSheet (g h : Graph) : Type 0 where
  pub kind : g.kind ≡ h.kind
  pub rows : g.rows ≡ h.rows
  pub columns : g.columns ≡ h.columns
  pub edges : g.edges ≡ h.edges
  pub weights : (r c : ℕ) → weight_with g r c ≡ weight_with h r c

-- The edges stand by rising row, and then by rising column.
abbrev pub Rising : Graph → Type 0
Rising g = (d e : ℕ) → d < e → e < g.edges → (row_at g d < row_at g e) ⊎ ((row_at g d ≡ row_at g e) × (column_at g d < column_at g e))

-- The mark at a pair of ends, if the graph has an edge there; and the same pairs of ends are chosen.
abbrev pub mark_with : Graph → List ℕ → ℕ → ℕ → Option ℕ
mark_with g x r c = option_map (mark_at x) (edge_with g r c)

abbrev pub SameChosen : Graph → List ℕ → Graph → List ℕ → Type 0
SameChosen g x h y = (r c : ℕ) → mark_with g x r c ≡ mark_with h y r c

-- What is read of one text as a subgraph of either graph: the same pairs of ends are chosen, or the same is refused at the same place.
abbrev pub ReadAlike : Graph → Graph → Outcome (List ℕ) → Outcome (List ℕ) → Type 0
ReadAlike g h (Ok x) (Ok y) = SameChosen g x h y
ReadAlike g h (Err refusal) (Err refusal') = (refusal.fault ≡ refusal'.fault) × (refusal.place ≡ refusal'.place)
ReadAlike g h (Ok x) (Err refusal) = ⊥
ReadAlike g h (Err refusal) (Ok y) = ⊥
