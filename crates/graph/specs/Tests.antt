-- The tests that calls make on a graph's numbers, on bounds and on a subgraph, in the order of document 01.
use Rattle.std.specs.Prelude.{ℕ, Bool, true, false, not, ◌&&◌, List, [], ◌∷◌, ◌++◌, leb, eqb, ℤ, pos, length}
use Rattle.std.specs.Int.Signed.{le_z}
use Rattle.graph.specs.declared.Kind.{Kind}
use Rattle.graph.specs.declared.Kind.TheVariants.{Bipartite, General}
use Rattle.graph.specs.declared.Fault.TheVariants.{LentLength, Sizes, Ends, Weight, SameEnds, Bound, Mark, Degree, NotBipartite, BoundNotOne}
use Rattle.graph.specs.Refusal.{Test, once, each}
use Rattle.graph.specs.Graph.{Graph, vertices, row_at, column_at, weight_at, bound_at, sizes_in_range, ends_in_range, weight_in_range, bound_in_range, bound_is_one, joined}
use Rattle.graph.specs.Subgraph.{mark_at, degree}

-- The lent lengths (9): what is lent of the graph is as long as the number of edges passed.
abbrev pub graph_lengths : Graph → Bool
graph_lengths g = eqb (length g.row) g.edges && eqb (length g.column) g.edges && eqb (length g.weight) g.edges

-- The tests on a graph's numbers: sizes (4), ends (6), weights (7), and no edge with the ends of an earlier one (8).
abbrev pub graph_tests : Graph → List Test
graph_tests g =
    once Sizes (sizes_in_range g.kind g.rows g.columns g.edges)
    ∷ each Ends g.edges (λ e. ends_in_range g.kind g.rows g.columns (row_at g e) (column_at g e))
    ∷ each Weight g.edges (λ e. weight_in_range (weight_at g e))
    ∷ each SameEnds g.edges (λ e. not (joined g e (row_at g e) (column_at g e)))
    ∷ []

-- The bounds (10).
abbrev pub bound_test : Graph → List ℤ → Test
bound_test g bound = each Bound (vertices g) (λ v. bound_in_range (bound_at bound v))

-- Each bound is 1 (19).
abbrev pub one_test : Graph → List ℤ → Test
one_test g bound = each BoundNotOne (vertices g) (λ v. bound_is_one (bound_at bound v))

-- The solver takes bipartite graphs only (16), and so does the writer of assignment texts.
abbrev pub is_bipartite : Kind → Bool
is_bipartite Bipartite = true
is_bipartite General = false

abbrev pub kind_test : Graph → Test
kind_test g = once NotBipartite (is_bipartite g.kind)

-- The tests of a call that takes a graph with bounds: the lengths (9), of which the call tests others itself, the graph's numbers (4, 6, 7, 8), and the
-- bounds (10).
abbrev pub bounded_tests : Graph → List ℤ → Bool → List Test
bounded_tests g bound others =
    once LentLength (graph_lengths g && (eqb (length bound) (vertices g) && others)) ∷ (graph_tests g ++ (bound_test g bound ∷ []))

-- The tests of a call that takes a bipartite graph with bounds: the lengths (9), of which the call tests others itself, the graph's numbers (4, 6, 7, 8), the
-- bounds (10), and the kind (16).
abbrev pub bipartite_tests : Graph → List ℤ → Bool → List Test
bipartite_tests g bound others =
    once LentLength (graph_lengths g && (eqb (length bound) (vertices g) && others)) ∷ (graph_tests g ++ (bound_test g bound ∷ kind_test g ∷ []))

-- The marks (11), and the degrees (12).
abbrev pub mark_test : Graph → List ℕ → Test
mark_test g x = each Mark g.edges (λ e. leb (mark_at x e) 1)

abbrev pub degree_test : Graph → List ℤ → List ℕ → Test
degree_test g bound x = each Degree (vertices g) (λ v. le_z (pos (degree g x v)) (bound_at bound v))
