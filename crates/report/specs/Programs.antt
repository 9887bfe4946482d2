-- What the programs write, from the texts of the files they read. An absent file is an empty text.
use Rattle.std.specs.Prelude.{ℕ, ◌+◌, ◌≡◌, Bool, true, List, [], ◌∷◌, eqb, leb, ℤ, length, replicate, take, drop, Ok, Err}
use Rattle.graph.specs.declared.Fault.{Fault}
use Rattle.graph.specs.declared.Fault.TheVariants.{LentLength}
use Rattle.graph.specs.Limits.{most_vertices, most_edges, longest_text, subgraph_bytes, workspace_numbers}
use Rattle.graph.specs.Refusal.{Outcome, once, passing, filled}
use Rattle.graph.specs.Graph.{Graph, vertices}
use Rattle.graph.specs.Subgraph.{Optimal}
use Rattle.graph.specs.Index.{index_numbers, build_index}
use Rattle.layout.specs.declared.Numbers.TheVariants as Numbers
use Rattle.layout.specs.GraphText.{read_graph, graph_text}
use Rattle.layout.specs.NumberText.{read_numbers, number_text}
use Rattle.layout.specs.SubgraphText.{read_subgraph, subgraph_text}
use Rattle.layout.specs.TidyText.{tidy_graph}
use Rattle.layout.specs.AssignmentText.{write_assignment, read_assignment}
use Rattle.dual.specs.declared.Measures.{Measures}
use Rattle.dual.specs.Prices.{Prices}
use Rattle.dual.specs.Measure.{measure}
use Rattle.dual.specs.Solve.{Lent, solve, without_sets}
use Rattle.dual.specs.PriceGeneral.{price_general, DoublyPriced}
use Rattle.report.specs.declared.Source.{Source}
use Rattle.report.specs.Report.{refused_line, measured_line, Composed}

-- How far a program comes: it has a value, or the first refusal has ended it.
pub data Run (A : Type 0) : Type 0 where
  has : A → Run A
  ends : Source → Fault → ℕ → Run A

-- What is reported of a value; a refusal stays.
abbrev pub run_reported : {A B : Type 0} → (A → B) → Run A → Run B
run_reported f (has a) = has (f a)
run_reported f (ends source fault place) = ends source fault place

-- What a lent output of n numbers holds afterwards, as `output` says it of a call: the value's numbers and then z, or only z after a refusal.
abbrev pub run_output : {A N : Type 0} → ℕ → N → (A → List N) → Run A → List N
run_output n z f (has a) = filled n z (f a)
run_output n z f (ends source fault place) = replicate n z

-- What comes from a text, or from no reader.
abbrev pub came_from : {A : Type 0} → Source → Outcome A → Run A
came_from source (Ok a) = has a
came_from source (Err refusal) = ends source refusal.fault refusal.place

abbrev pub and_then : {A B : Type 0} → Run A → (A → Run B) → Run B
and_then (has a) next = next a
and_then (ends source fault place) next = ends source fault place

-- What is written at the end: a text of the value, or the line of the refusal.
abbrev pub written : {A : Type 0} → (A → List ℕ) → Run A → List ℕ
written text (has a) = text a
written text (ends source fault place) = refused_line source fault place

-- The graph of sheet.mtx, and the bounds of limits.mtx, one for each vertex.
pub record Problem : Type 0 where
  pub graph : Graph
  pub bound : List ℤ

-- The bounds of n vertices, where the output has b numbers.
abbrev pub read_bounds : ℕ → ℕ → List ℕ → Outcome (List ℤ)
read_bounds b n limits = passing (once LentLength (eqb b most_vertices) ∷ []) (read_numbers Numbers.Bounds n n limits)

-- Both, where the outputs have r, c, w and b numbers.
unfoldable pub read_problem : ℕ → ℕ → ℕ → ℕ → List ℕ → List ℕ → Run Problem
read_problem r c w b sheet limits =
    and_then (came_from Source.Sheet (read_graph r c w sheet))
    (λ g. and_then (came_from Source.Limits (read_bounds b (vertices g) limits)) (λ bound. has (record { graph = g; bound = bound })))

-- The programs lend as many as the largest problem has.
abbrev pub problem_in : List ℕ → List ℕ → Run Problem
problem_in sheet limits = read_problem most_edges most_edges most_edges most_vertices sheet limits

-- `mark` also reads plan.mtx and prices.mtx, first the prices of the vertices and then those of the edges, and takes no odd sets.
abbrev pub mark_prices : Graph → List ℤ → List ℕ → List ℤ → Run Measures
mark_prices g bound x prices =
    came_from Source.Input (measure g bound x (without_sets (take (vertices g) prices) (drop (vertices g) prices)))

abbrev pub mark_plan : Graph → List ℤ → List ℕ → List ℕ → Run Measures
mark_plan g bound x prices =
    and_then (came_from Source.Prices (read_numbers Numbers.Prices (vertices g + g.edges) (vertices g + g.edges) prices)) (mark_prices g bound x)

abbrev pub mark_problem : Graph → List ℤ → List ℕ → List ℕ → Run Measures
mark_problem g bound plan prices = and_then (came_from Source.Plan (read_subgraph g g.edges plan)) (λ x. mark_plan g bound x prices)

-- What `mark` writes.
unfoldable pub mark_output : List ℕ → List ℕ → List ℕ → List ℕ → List ℕ
mark_output sheet limits plan prices =
    written measured_line (and_then (problem_in sheet limits) (λ P. mark_problem P.graph P.bound plan prices))

-- `solve` builds the graph's index, and lends the solver just the lengths that the graph gives.
abbrev pub lent_for : Graph → Lent
lent_for g = record { chosen = g.edges; vertex_prices = vertices g; edge_prices = g.edges; workspace = workspace_numbers }

abbrev pub solve_indexed : Graph → List ℤ → List ℕ → Run (Unit {0})
solve_indexed g bound index = came_from Source.Input (solve g bound index (lent_for g))

abbrev pub solve_problem : Graph → List ℤ → Run (Unit {0})
solve_problem g bound = and_then (came_from Source.Input (build_index g (index_numbers g))) (solve_indexed g bound)

-- What `solve` writes where x is the subgraph that it picks.
unfoldable pub solve_output : List ℕ → List ℕ → List ℕ → List ℕ
solve_output sheet limits x =
    written (λ g. subgraph_text g x)
    (and_then (problem_in sheet limits) (λ P. and_then (solve_problem P.graph P.bound) (λ u. has P.graph)))

-- What holds of that subgraph: it is optimal, wherever the solver accepts what is read.
pub record Picked (sheet limits x : List ℕ) : Type 0 where
  pub optimal : (P : Problem) → problem_in sheet limits ≡ has P → solve_problem P.graph P.bound ≡ has tt → Optimal P.graph P.bound x

-- `solve` composes in a buffer of just 16,384 bytes.
abbrev pub subgraph_room : ℕ → Bool
subgraph_room n = eqb n subgraph_bytes

-- What `solve` leaves of a buffer, and what it answers. Where there is no room it picks nothing.
pub record SolveComposed (sheet limits before after : List ℕ) (r : ℕ) : Type 0 where
  pub chosen : List ℕ
  pub picked : subgraph_room (length before) ≡ true → Picked sheet limits chosen
  pub composed : Composed subgraph_room (solve_output sheet limits chosen) before after r

-- `rewrite` composes in a buffer of at least 32,768 bytes: what it writes is `rewrite_output` of the text of old.mtx (layout, Rewrite.antt).
abbrev pub text_room : ℕ → Bool
text_room n = leb longest_text n

-- `tidy`, `to_dimacs`, `from_dimacs` and `price_tanks` compose in a buffer of just 32,768 bytes.
abbrev pub whole_text_room : ℕ → Bool
whole_text_room n = eqb n longest_text

-- `tidy` reads sheet.mtx, and lends the call that tidies its graph 32,768 bytes.
abbrev pub tidy_run : Graph → Run (List ℕ)
tidy_run g = came_from Source.Input (tidy_graph g longest_text)

-- What `tidy` writes.
unfoldable pub tidy_output : List ℕ → List ℕ
tidy_output sheet = written (λ text. text) (and_then (came_from Source.Sheet (read_graph most_edges most_edges most_edges sheet)) tidy_run)

-- `to_dimacs` lends the call that writes the assignment text of its problem as many.
abbrev pub to_dimacs_run : Problem → Run (List ℕ)
to_dimacs_run P = came_from Source.Input (write_assignment P.graph P.bound longest_text)

-- What `to_dimacs` writes.
unfoldable pub to_dimacs_output : List ℕ → List ℕ → List ℕ
to_dimacs_output sheet limits = written (λ text. text) (and_then (problem_in sheet limits) to_dimacs_run)

-- What `from_dimacs` writes of the text of crosses.asn: the text of its graph, in the graph's own order.
unfoldable pub from_dimacs_output : List ℕ → List ℕ
from_dimacs_output crosses = written graph_text (came_from Source.Assignment (read_assignment most_edges most_edges most_edges most_vertices crosses))

-- A price text has first the prices of the vertices and then those of the edges, and no odd sets.
abbrev pub prices_from : Graph → List ℤ → Prices
prices_from g zs = without_sets (take (vertices g) zs) (drop (vertices g) zs)

-- `price_tanks` lends the call that prices its problem's graph just the lengths that the graph gives.
abbrev pub price_problem : Graph → List ℤ → Run (Unit {0})
price_problem g bound = came_from Source.Input (price_general g bound (vertices g) g.edges)

-- What `price_tanks` writes where these are the prices that the call picks, those of the vertices first.
unfoldable pub price_output : List ℕ → List ℕ → List ℤ → List ℕ
price_output sheet limits prices = written (λ u. number_text prices) (and_then (problem_in sheet limits) (λ P. price_problem P.graph P.bound))

-- What holds of those prices, wherever the call accepts what is read: there is one for each vertex and each edge, and they come from the doubled graph.
pub record PricesPicked (sheet limits : List ℕ) (prices : List ℤ) : Type 0 where
  pub long : (P : Problem) → problem_in sheet limits ≡ has P → price_problem P.graph P.bound ≡ has tt → length prices ≡ vertices P.graph + P.graph.edges
  pub priced : (P : Problem) → problem_in sheet limits ≡ has P → price_problem P.graph P.bound ≡ has tt →
      DoublyPriced P.graph P.bound (prices_from P.graph prices)

-- What `price_tanks` leaves of a buffer, and what it answers. Where there is no room it picks nothing.
pub record PriceComposed (sheet limits before after : List ℕ) (r : ℕ) : Type 0 where
  pub prices : List ℤ
  pub picked : whole_text_room (length before) ≡ true → PricesPicked sheet limits prices
  pub composed : Composed whole_text_room (price_output sheet limits prices) before after r
