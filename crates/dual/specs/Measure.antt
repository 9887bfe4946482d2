-- What the measuring call yields: a refusal, or the seven numbers.
use Rattle.std.specs.Prelude.{ℕ, ◌+◌, ◌*◌, min, Bool, ◌&&◌, List, [], ◌∷◌, ◌++◌, ltb, eqb, ℤ, pos, length, get_or, Ok, Err}
use Rattle.graph.specs.declared.Fault.TheVariants.{LentLength, Price, OddSet, Uncovered}
use Rattle.graph.specs.Limits.{most_sets, vertex_words, edge_words}
use Rattle.graph.specs.Refusal.{Outcome, Told, tells, refused_with, number_of, Test, once, each, passing}
use Rattle.graph.specs.Graph.{Graph, vertices, price_in_range}
use Rattle.graph.specs.Subgraph.{weight_of}
use Rattle.graph.specs.Tests.{graph_lengths, graph_tests, bound_test, mark_test, degree_test}
use Rattle.dual.specs.declared.Measures.{Measures}
use Rattle.dual.specs.Sets.{keeps_rules}
use Rattle.dual.specs.Prices.{Prices, all_prices}
use Rattle.dual.specs.Gap.{covered, total_of, gap_of, vertex_slack, set_slack, edge_slack, cover_slack}

-- The seven numbers of a subgraph measured against a price sheet: its weight in points, and the others in half points.
abbrev pub measures : Graph → List ℤ → List ℕ → Prices → Measures
measures g bound x P = record {
  weight = weight_of g x;
  total = total_of g bound P;
  vertices = vertex_slack g bound x P;
  sets = set_slack g bound x P;
  edges = edge_slack g x P;
  cover = cover_slack g x P;
  gap = gap_of g bound x P;
}

-- What is lent to the measuring call has just the lengths that n, m and the number of sets give (9).
abbrev pub measure_lengths : Graph → List ℤ → List ℕ → Prices → Bool
measure_lengths g bound x P =
    graph_lengths g && eqb (length bound) (vertices g) && eqb (length x) g.edges
    && eqb (length P.vertex) (vertices g) && eqb (length P.edge) g.edges && eqb (length P.set) P.sets
    && eqb (length P.marks.vertices) (vertex_words * P.sets) && eqb (length P.marks.edges) (edge_words * P.sets)

-- Each price in range (13).
abbrev pub price_test : Prices → Test
price_test P = each Price (length (all_prices P)) (λ k. price_in_range (get_or (all_prices P) k (pos 0)))

-- Each odd set keeps the rules, and there are at most 16 (14): a 17th is refused at place 17.
abbrev pub set_test : Graph → List ℤ → Prices → Test
set_test g bound P = each OddSet (min P.sets (most_sets + 1)) (λ s. ltb s most_sets && keeps_rules g bound P.marks s)

-- Each edge is covered (15).
abbrev pub cover_test : Graph → Prices → Test
cover_test g P = each Uncovered g.edges (covered g P)

-- The tests of the measuring call, in their order.
abbrev pub measure_tests : Graph → List ℤ → List ℕ → Prices → List Test
measure_tests g bound x P =
    once LentLength (measure_lengths g bound x P)
    ∷ (graph_tests g ++ (bound_test g bound ∷ mark_test g x ∷ degree_test g bound x ∷ price_test P ∷ set_test g bound P ∷ cover_test g P ∷ []))

-- What the measuring call yields.
unfoldable pub measure : Graph → List ℤ → List ℕ → Prices → Outcome Measures
measure g bound x P = passing (measure_tests g bound x P) (Ok (measures g bound x P))
