-- Cover of an edge, the prices' total, the gap, and its four slacks (leftovers). Prices are counted in half points (request U5), and so are these.
use Rattle.std.specs.Prelude.{ℕ, ◌*◌, ◌-◌, Bool, List, ℤ, pos, ◌+ℤ◌, ◌-ℤ◌, ◌*ℤ◌}
use Rattle.std.specs.Int.Signed.{le_z}
use Rattle.integers.specs.Sum.{sum, sumℤ}
use Rattle.graph.specs.Graph.{Graph, vertices, first_end, second_end, weight_at, bound_at}
use Rattle.graph.specs.Subgraph.{mark_at, degree, weight_of}
use Rattle.dual.specs.Sets.{OddSets, one, covers, capacity}
use Rattle.dual.specs.Prices.{Prices, vertex_price, edge_price, set_price}

-- A number of points in half points: twice that.
abbrev pub half_points : ℤ → ℤ
half_points z = pos 2 *ℤ z

-- What edge e is worth in half points.
abbrev pub worth_at : Graph → ℕ → ℤ
worth_at g e = half_points (weight_at g e)

-- The prices that cover edge e, added up: of both its ends, its own, and of all odd sets that cover it.
abbrev pub cover_of : Graph → Prices → ℕ → ℤ
cover_of g P e =
    vertex_price P (first_end g e) +ℤ vertex_price P (second_end g e) +ℤ edge_price P e
    +ℤ sumℤ P.sets (λ s. pos (one (covers g P.marks s e)) *ℤ set_price P s)

-- A price sheet covers an edge if they add up to at least what it is worth.
abbrev pub covered : Graph → Prices → ℕ → Bool
covered g P e = le_z (worth_at g e) (cover_of g P e)

-- What vertex v (fish) pays into the total: its bound times its price.
abbrev pub pay_of : List ℤ → Prices → ℕ → ℤ
pay_of bound P v = bound_at bound v *ℤ vertex_price P v

-- Total: what the vertices pay, plus capacity times set price, plus all edge prices.
abbrev pub total_of : Graph → List ℤ → Prices → ℤ
total_of g bound P =
    sumℤ (vertices g) (pay_of bound P)
    +ℤ sumℤ P.sets (λ s. pos (capacity g bound P.marks s) *ℤ set_price P s)
    +ℤ sumℤ g.edges (edge_price P)

-- Gap: total minus the weight of the subgraph in half points.
abbrev pub gap_of : Graph → List ℤ → List ℕ → Prices → ℤ
gap_of g bound x P = total_of g bound P -ℤ half_points (weight_of g x)

-- The slack of vertex v (a fish's leftover), whose degree (uses) is this: its price times its residual bound (unused limit).
abbrev pub vertex_slack_at : List ℤ → Prices → ℕ → ℕ → ℤ
vertex_slack_at bound P v uses = vertex_price P v *ℤ (bound_at bound v -ℤ pos uses)

-- Slack of vertices: those of all of them.
abbrev pub vertex_slack : Graph → List ℤ → List ℕ → Prices → ℤ
vertex_slack g bound x P = sumℤ (vertices g) (λ v. vertex_slack_at bound P v (degree g x v))

-- How many chosen edges odd set s covers.
abbrev pub chosen_covered : Graph → List ℕ → OddSets → ℕ → ℕ
chosen_covered g x O s = sum g.edges (λ e. mark_at x e * one (covers g O s e))

-- Slack of odd sets: price times (capacity minus the chosen edges covered).
abbrev pub set_slack : Graph → List ℤ → List ℕ → Prices → ℤ
set_slack g bound x P = sumℤ P.sets (λ s. set_price P s *ℤ (pos (capacity g bound P.marks s) -ℤ pos (chosen_covered g x P.marks s)))

-- Slack of edges: the prices of edges not chosen.
abbrev pub edge_slack : Graph → List ℕ → Prices → ℤ
edge_slack g x P = sumℤ g.edges (λ e. pos (1 - mark_at x e) *ℤ edge_price P e)

-- Slack of cover: over chosen edges, what the covering prices exceed the edge's worth by.
abbrev pub cover_slack : Graph → List ℕ → Prices → ℤ
cover_slack g x P = sumℤ g.edges (λ e. pos (mark_at x e) *ℤ (cover_of g P e -ℤ worth_at g e))
