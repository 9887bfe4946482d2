-- The marks of odd sets (groups), their rules, their capacity (group limit), and which edges they cover.
use Rattle.std.specs.Prelude.{ℕ, ◌+◌, ◌*◌, ◌-◌, ◌/◌, ◌%◌, ◌^◌, Bool, cond, not, ◌&&◌, ◌||◌, List, eqb, ℤ, get_or}
use Rattle.integers.specs.Integer.{up}
use Rattle.integers.specs.Sum.{sum}
use Rattle.graph.specs.Limits.{most_vertices, most_edges, word_bits, vertex_words, edge_words}
use Rattle.graph.specs.Graph.{Graph, vertices, first_end, second_end, bound_at, some?, every}

-- The marks of odd sets: for each 2 words that mark vertices, and 16 that mark edges.
pub record OddSets : Type 0 where
  pub vertices : List ℕ
  pub edges : List ℕ

abbrev pub odd_sets_of : List ℕ → List ℕ → OddSets
odd_sets_of vertices edges = record { vertices = vertices; edges = edges }

-- Bit k of a row of 64-bit words: bit k mod 64 of word k / 64, bit 0 being the lowest.
abbrev pub bit : List ℕ → ℕ → Bool
bit ws k = eqb (get_or ws (k / word_bits) 0 / 2 ^ (k % word_bits) % 2) 1

-- Odd set s marks vertex v, or edge e. The words of one set come after those of the one before.
abbrev pub inside : OddSets → ℕ → ℕ → Bool
inside O s v = bit O.vertices (word_bits * vertex_words * s + v)

abbrev pub marked : OddSets → ℕ → ℕ → Bool
marked O s e = bit O.edges (word_bits * edge_words * s + e)

-- A mark as a number: 1 or 0.
abbrev pub one : Bool → ℕ
one b = cond b 1 0

-- Bits above n or m are 0.
abbrev pub nothing_above : Graph → OddSets → ℕ → Bool
nothing_above g O s =
    every (most_vertices - vertices g) (λ k. not (inside O s (vertices g + k))) && every (most_edges - g.edges) (λ k. not (marked O s (g.edges + k)))

-- At least one vertex.
abbrev pub has_vertex : Graph → OddSets → ℕ → Bool
has_vertex g O s = some? (vertices g) (inside O s)

-- How many ends of edge e are inside.
abbrev pub ends_inside : Graph → OddSets → ℕ → ℕ → ℕ
ends_inside g O s e = one (inside O s (first_end g e)) + one (inside O s (second_end g e))

-- A marked edge has exactly one end inside.
abbrev pub one_end_inside : Graph → OddSets → ℕ → Bool
one_end_inside g O s = every g.edges (λ e. not (marked O s e) || eqb (ends_inside g O s e) 1)

-- The bounds of its vertices plus the number of its marked edges.
abbrev pub load : Graph → List ℤ → OddSets → ℕ → ℕ
load g bound O s = sum (vertices g) (λ v. one (inside O s v) * up (bound_at bound v)) + sum g.edges (λ e. one (marked O s e))

-- The load is odd, 2q + 1, and q is the capacity.
abbrev pub is_odd : Graph → List ℤ → OddSets → ℕ → Bool
is_odd g bound O s = eqb (load g bound O s % 2) 1

abbrev pub capacity : Graph → List ℤ → OddSets → ℕ → ℕ
capacity g bound O s = load g bound O s / 2

-- The rules of odd set s.
abbrev pub keeps_rules : Graph → List ℤ → OddSets → ℕ → Bool
keeps_rules g bound O s = nothing_above g O s && has_vertex g O s && one_end_inside g O s && is_odd g bound O s

-- Odd set s covers its marked edges and every edge with both ends inside.
abbrev pub covers : Graph → OddSets → ℕ → ℕ → Bool
covers g O s e = marked O s e || inside O s (first_end g e) && inside O s (second_end g e)
