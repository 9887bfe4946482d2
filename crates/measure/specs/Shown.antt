-- What the first tests of the measuring call show, and what the call yields by the later ones.
use Rattle.std.specs.Prelude.{Bool, ◌&&◌, List, [], ◌∷◌, ◌++◌, ℤ, ℕ, ◌*◌, eqb, length, Ok}
use Rattle.graph.specs.Limits.{vertex_words, edge_words}
use Rattle.graph.specs.declared.Fault.TheVariants.{LentLength}
use Rattle.graph.specs.Refusal.{Outcome, Test, once, passing}
use Rattle.graph.specs.Graph.{Graph, vertices}
use Rattle.graph.specs.Tests.{graph_lengths, graph_tests, bound_test, mark_test, degree_test}
use Rattle.graph.specs.Passed.{Passed, Bounded, MarksHold}
use Rattle.dual.specs.declared.Measures.{Measures}
use Rattle.dual.specs.Prices.{Prices}
use Rattle.dual.specs.Measure.{measures, price_test, set_test, cover_test}
use Rattle.dual.specs.Passed.{PriceLengths}

-- The lengths that are not the graph's are just those that n, m and the number of sets give.
abbrev pub lengths_besides : Graph → List ℤ → List ℕ → Prices → Bool
lengths_besides g bound x P =
    eqb (length bound) (vertices g) && eqb (length x) g.edges && eqb (length P.vertex) (vertices g)
    && eqb (length P.edge) g.edges && eqb (length P.set) P.sets && eqb (length P.marks.vertices) (vertex_words * P.sets)
    && eqb (length P.marks.edges) (edge_words * P.sets)

-- The tests 9, 4, 6, 7, 8, 10 and 11; others tells of the lengths that are not the graph's.
abbrev pub subgraph_tests : Graph → List ℤ → List ℕ → Bool → List Test
subgraph_tests g bound x others =
    once LentLength (graph_lengths g && others) ∷ (graph_tests g ++ (bound_test g bound ∷ mark_test g x ∷ []))

-- What they show: of the graph, its bounds, the subgraph's marks, and the lengths of the price sheet.
pub record SubgraphShown (g : Graph) (bound : List ℤ) (x : List ℕ) (P : Prices) : Type 0 where
  pub passed : Passed g
  pub bounded : Bounded (vertices g) bound
  pub marks : MarksHold g.edges x
  pub lengths : PriceLengths g P

-- The tests 12 and 13, of the degrees and the prices, and 14 and 15, of the odd sets and the cover.
abbrev pub price_tests : Graph → List ℤ → List ℕ → Prices → List Test
price_tests g bound x P = degree_test g bound x ∷ price_test P ∷ []

abbrev pub last_tests : Graph → List ℤ → Prices → List Test
last_tests g bound P = set_test g bound P ∷ cover_test g P ∷ []

-- What the call yields where the first tests pass, and where only that of the cover is left.
abbrev pub yields_later : Graph → List ℤ → List ℕ → Prices → Outcome Measures
yields_later g bound x P = passing (price_tests g bound x P ++ last_tests g bound P) (Ok (measures g bound x P))

abbrev pub yields_covered : Graph → List ℤ → List ℕ → Prices → Outcome Measures
yields_covered g bound x P = passing (cover_test g P ∷ []) (Ok (measures g bound x P))
