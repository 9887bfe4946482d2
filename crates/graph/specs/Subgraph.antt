-- The degree-constrained subgraph (plan): its degrees (uses) and weight (merit), and which are feasible (valid) and optimal.
use Rattle.std.specs.Prelude.{ℕ, ◌+◌, ◌*◌, ◌≤◌, ◌<◌, ◌≡◌, List, ℤ, pos, ◌-ℤ◌, ◌*ℤ◌, length, get_or, ◌≤ℤ◌}
use Rattle.integers.specs.Sum.{sum, sumℤ, is}
use Rattle.graph.specs.Graph.{Graph, vertices, first_end, second_end, weight_at, bound_at}

-- A subgraph (plan) is one mark for each edge; the mark of edge e, 1 for chosen and 0 for not.
abbrev pub mark_at : List ℕ → ℕ → ℕ
mark_at x e = get_or x e 0

-- How often vertex v is an end of edge e: once at most where the edge's ends are different vertices, as they are in a graph that passes the tests.
abbrev pub ends_at : Graph → ℕ → ℕ → ℕ
ends_at g v e = is (first_end g e) v + is (second_end g e) v

-- The degree (uses) of vertex v: the number of chosen edges that it is an end of.
abbrev pub degree : Graph → List ℕ → ℕ → ℕ
degree g x v = sum g.edges (λ e. mark_at x e * ends_at g v e)

-- The weight (merit) of a subgraph: the sum of its chosen edges' weights.
abbrev pub weight_of : Graph → List ℕ → ℤ
weight_of g x = sumℤ g.edges (λ e. pos (mark_at x e) *ℤ weight_at g e)

-- A subgraph is feasible (a plan is valid) if it has one mark, 0 or 1, for each edge, and each vertex is an end of at most as many chosen edges as its bound.
pub record Feasible (g : Graph) (bound : List ℤ) (x : List ℕ) : Type 0 where
  pub long : length x ≡ g.edges
  pub marks : (e : ℕ) → e < g.edges → mark_at x e ≤ 1
  pub within : (v : ℕ) → v < vertices g → pos (degree g x v) ≤ℤ bound_at bound v

-- It is optimal (of largest merit) if it is feasible and no feasible subgraph weighs more.
pub record Optimal (g : Graph) (bound : List ℤ) (x : List ℕ) : Type 0 where
  pub feasible : Feasible g bound x
  pub most : (y : List ℕ) → Feasible g bound y → weight_of g y ≤ℤ weight_of g x

-- What x lacks against y: the weight of y minus its own. Against an optimal y it is what the plan lacks.
abbrev pub lacks : Graph → List ℕ → List ℕ → ℤ
lacks g y x = weight_of g y -ℤ weight_of g x
