-- What odd sets say by their words and by the ends of an edge, as they are tested.
use Rattle.std.specs.Prelude.{ℕ, ◌+◌, ◌*◌, ◌≤◌, ◌%◌, Bool, ◌&&◌, ◌||◌, eqb, length}
use Rattle.graph.specs.Limits.{vertex_words, edge_words}
use Rattle.graph.specs.Graph.{Graph}
use Rattle.dual.specs.Sets.{OddSets, odd_sets_of, inside, marked, one, nothing_above, has_vertex, one_end_inside}
use Rattle.sets.specs.declared.OddSets as declared

-- The marks of lent words, which are those of odd set k and those before it at least.
abbrev pub marks_of : declared.OddSets → OddSets
marks_of O = odd_sets_of O.vertices.now O.edges.now

abbrev pub HasSet : OddSets → ℕ → Type 0
HasSet O k = (vertex_words * k + vertex_words ≤ length O.vertices) × (edge_words * k + edge_words ≤ length O.edges)

-- How many of two ends are inside, as `ends_inside` counts of an edge.
abbrev pub inside_by : OddSets → ℕ → ℕ → ℕ → ℕ
inside_by O k first second = one (inside O k first) + one (inside O k second)

-- Odd set k covers edge e with these ends, as `covers` says.
abbrev pub covers_by : OddSets → ℕ → ℕ → ℕ → ℕ → Bool
covers_by O k e first second = marked O k e || inside O k first && inside O k second

-- Odd set k, whose load is this, keeps the rules, as `keeps_rules` says.
abbrev pub keeps_rules_by : Graph → OddSets → ℕ → ℕ → Bool
keeps_rules_by g O k load = nothing_above g O k && has_vertex g O k && one_end_inside g O k && eqb (load % 2) 1
