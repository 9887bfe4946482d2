-- The promises: each sentence of the three demands, of the two programs and of the requests, as a statement over what the calls yield and leave, in their
-- order. What a call's contract says, that its answer and all that is lent to it are what these definitions yield, is proved of its code, and so is that
-- it touches memory only within what is lent, and ends.
use Rattle.std.specs.Prelude.{ℕ, suc, ◌+◌, ◌*◌, ◌-◌, ◌≤◌, ◌<◌, ◌≡◌, ◌≢◌, ◌⊎◌, ◌↔◌, true, List, [], ◌∷◌, ◌++◌, map, ℤ, pos, ◌-ℤ◌, ◌*ℤ◌, length, get_or, replicate, take, drop, ◌≤ℤ◌, Some, Ok}
use Rattle.std.specs.Int.Signed.{le_z}
use Rattle.integers.specs.Sum.{sum, sumℤ, is}
use Rattle.graph.specs.declared.Kind.TheVariants.{Bipartite, General}
use Rattle.graph.specs.declared.Fault.{Fault}
use Rattle.graph.specs.declared.Fault.TheVariants.{LentLength, NotBipartite, NotDoubled}
use Rattle.graph.specs.Limits.{most_side, most_vertices, most_edges, most_doubled_edges, most_numbers, most_sets, vertex_words, edge_words, longest_text, subgraph_bytes}
use Rattle.graph.specs.Limits.{greatest_solver_price, greatest_old_price}
use Rattle.graph.specs.Refusal.{number_of, Outcome, told, refused_with, Test, once, passing, filled, output}
use Rattle.graph.specs.Graph.{Graph, vertices, first_end, second_end, weight_at, bound_at, up_to, price_in_range}
use Rattle.graph.specs.Subgraph.{mark_at, ends_at, Feasible, Optimal, weight_of, lacks}
use Rattle.graph.specs.Tests.{graph_lengths, graph_tests, bound_test}
use Rattle.graph.specs.Doubled.{doubled, doubled_bounds}
use Rattle.graph.specs.Index.{chained, build_tests, build_index, index_tests, test_index}
use Rattle.layout.specs.declared.Numbers.{Numbers}
use Rattle.layout.specs.declared.Numbers.TheVariants as Numbers
use Rattle.layout.specs.declared.Rules.{Rules}
use Rattle.layout.specs.declared.Rules.TheVariants.{New, Old}
use Rattle.layout.specs.declared.Field.TheVariants as Field
use Rattle.layout.specs.Text.{bytes, newline, blank, lines, words, natural, integer, signed, unlines, text_fits}
use Rattle.layout.specs.Lines.{read_text}
use Rattle.layout.specs.GraphText.{graph_layout, graph_reader_tests, read_graph_by, read_graph, graph_text}
use Rattle.layout.specs.NumberText.{in_range, number_layout, number_reader_tests, read_numbers_by, read_numbers, number_text}
use Rattle.layout.specs.SubgraphText.{subgraph_text, subgraph_layout, subgraph_reader_tests, read_subgraph_by, read_subgraph, writer_tests, write_subgraph}
use Rattle.layout.specs.TidyText.{tidy_tests, tidy_graph}
use Rattle.layout.specs.AssignmentText.{assignment_tests, write_assignment, read_arcs, assignment_reader_tests, read_assignment, unit_bounds}
use Rattle.layout.specs.Rewrite.{ending, word_anew, line_anew, lines_anew, text_anew, rewrite_output}
use Rattle.dual.specs.declared.Measures.{Measures}
use Rattle.dual.specs.Prices.{Prices, vertex_price, edge_price, set_price}
use Rattle.dual.specs.Sets.{keeps_rules}
use Rattle.dual.specs.Gap.{half_points, worth_at, cover_of, covered, total_of, gap_of, vertex_slack, set_slack, edge_slack, cover_slack}
use Rattle.dual.specs.Measure.{measure, measure_tests}
use Rattle.dual.specs.Solve.{Lent, Outputs, solver_tests, solve, without_sets, solver_prices, SolverPrice, Zero, Left}
use Rattle.dual.specs.PriceGeneral.{general_tests, price_general, GeneralLeft}
use Rattle.duality.specs.Meaning.{Meaning}
use Rattle.tidying.specs.Alike.{SameSheet, Rising, ReadAlike}
use Rattle.report.specs.declared.Source.{Source}
use Rattle.report.specs.declared.Source.TheVariants as Source
use Rattle.report.specs.Report.{refused_line, measured_line}
use Rattle.report.specs.Programs.{has, ends, Problem, problem_in, prices_from, mark_output, lent_for, solve_problem, solve_output, Picked, SolveComposed}
use Rattle.report.specs.Programs.{tidy_output, to_dimacs_output, from_dimacs_output, price_problem, price_output, PricesPicked, PriceComposed}

-- ---- Demand 1

-- How often a number stands in a list.
abbrev pub occurs : ℕ → List ℕ → ℕ
occurs k [] = 0
occurs k (x ∷ xs) = is x k + occurs k xs

-- The numbers of the refusal table.
abbrev pub refusal_numbers : List ℕ
refusal_numbers = 1 ∷ 2 ∷ 3 ∷ 4 ∷ 5 ∷ 6 ∷ 7 ∷ 8 ∷ 9 ∷ 10 ∷ 11 ∷ 12 ∷ 13 ∷ 14 ∷ 15 ∷ 16 ∷ 17 ∷ 18 ∷ 19 ∷ 20 ∷ 21 ∷ 24 ∷ []

-- "Each call .. gives a listed refusal or a result": what a call yields is a result or a refusal, of a fault. The number of each fault stands in the
-- table once, each number of the table is that of a fault, which are listed here in its order, and no two faults have the same.
pub record Listed : Type 0 where
  pub in_table : (f : Fault) → occurs (number_of f) refusal_numbers ≡ 1
  pub faults : List Fault
  pub numbers : map number_of faults ≡ refusal_numbers
  pub apart : (f h : Fault) → number_of f ≡ number_of h → f ≡ h

-- A call refuses with this number of the table at this place. Its result says the same: by its contract it is what the call yields.
abbrev pub Refuses : {A : Type 0} → Outcome A → ℕ → ℕ → Type 0
Refuses o number place = told o ≡ refused_with number place

-- An output that is to hold f of what a call yields, and may have any length n, holds only z, which is 0, after a refusal.
abbrev pub ZeroOnRefusal : {A N : Type 0} → N → (A → List N) → Type 0
ZeroOnRefusal {A} {N} z f = (n : ℕ) (W : Outcome A) (i p : ℕ) → Refuses W i p → output n z f W ≡ replicate n z

-- "After a refusal every lent output and workspace number is 0": whatever a call yields, its outputs hold only 0 after a refusal: numbers of a graph
-- (rows and columns, weights, and the bounds that come in with it); marks, an index or bytes; and bounds or prices. So do the solver's, and its workspace,
-- and those of the call that prices a general graph.
pub record ZeroAfterRefusal : Type 0 where
  pub graph_numbers : (f : Graph → List ℕ) → ZeroOnRefusal 0 f
  pub graph_integers : (f : Graph → List ℤ) → ZeroOnRefusal (pos 0) f
  pub numbers : ZeroOnRefusal 0 (λ (xs : List ℕ). xs)
  pub integers : ZeroOnRefusal (pos 0) (λ (zs : List ℤ). zs)
  pub solver : (g : Graph) (bound : List ℤ) (index : List ℕ) (lent : Lent) (S : Outputs) (workspace : List ℤ) → Left g bound index lent S workspace →
      (i p : ℕ) → Refuses (solve g bound index lent) i p → Zero lent S × (workspace ≡ replicate lent.workspace (pos 0))
  pub general_pricer : (g : Graph) (bound : List ℤ) (v e : ℕ) (vertex edge : List ℤ) → GeneralLeft g bound v e vertex edge →
      (i p : ℕ) → Refuses (price_general g bound v e) i p → (vertex ≡ replicate v (pos 0)) × (edge ≡ replicate e (pos 0))

-- ---- Demand 2

-- The tests ts pass, or the first that refuses does so with this number at this place: each is made over all items before the next, and the lowest
-- place is told.
abbrev pub Passing : List Test → Type 0
Passing ts = passing ts (Ok tt) ≡ Ok (tt {0})

abbrev pub Refusing : List Test → ℕ → ℕ → Type 0
Refusing ts number place = Refuses (passing ts (Ok (tt {0}))) number place

-- "Texts are read as the Matrix Market layout defines": where what is lent is as long as it should be, and a text is not too long, it is read line by
-- line from the top, as its layout says. So is an assignment text (request U7).
pub record ReadAsDefined : Type 0 where
  pub graph : (text : List ℕ) → text_fits text ≡ true → read_graph most_edges most_edges most_edges text ≡ read_text (graph_layout New Field.Integer) text
  pub numbers : (what : Numbers) (count : ℕ) (text : List ℕ) → up_to most_numbers count ≡ true → text_fits text ≡ true →
      read_numbers what count count text ≡ read_text (number_layout New what count) text
  pub subgraph : (g : Graph) (text : List ℕ) → Passing (once LentLength (graph_lengths g) ∷ graph_tests g) → text_fits text ≡ true →
      read_subgraph g g.edges text ≡ read_text (subgraph_layout New g) text
  pub assignment : (text : List ℕ) → text_fits text ≡ true → read_assignment most_edges most_edges most_edges most_vertices text ≡ read_arcs text

-- "A written plan reads back as the same plan": what the writer yields reads back as the marks that were written, so no two subgraphs are written alike.
pub record ReadsBack : Type 0 where
  pub back : (g : Graph) (x : List ℕ) (n : ℕ) (text : List ℕ) → write_subgraph g x n ≡ Ok text → read_subgraph g (length x) text ≡ Ok x
  pub apart : (g : Graph) (x y : List ℕ) (n k : ℕ) (text : List ℕ) → write_subgraph g x n ≡ Ok text → write_subgraph g y k ≡ Ok text → x ≡ y

-- "The solver's plan is within the limits and of largest merit."
abbrev pub LargestMerit : Type 0
LargestMerit =
    (g : Graph) (bound : List ℤ) (index : List ℕ) (lent : Lent) (S : Outputs) (workspace : List ℤ) → Left g bound index lent S workspace →
    solve g bound index lent ≡ Ok tt → Feasible g bound S.chosen × ((y : List ℕ) → Feasible g bound y → weight_of g y ≤ℤ weight_of g S.chosen)

-- "Refusals come in the listed situations and in no others": a call refuses with a number at a place just where its tests do, and a reader also where
-- the lines do.
pub record RefusedJustWhereListed : Type 0 where
  pub solver : (g : Graph) (bound : List ℤ) (index : List ℕ) (lent : Lent) (i p : ℕ) → Refuses (solve g bound index lent) i p ↔ Refusing (solver_tests g bound index lent) i p
  pub general_pricer : (g : Graph) (bound : List ℤ) (v e : ℕ) (i p : ℕ) → Refuses (price_general g bound v e) i p ↔ Refusing (general_tests g bound v e) i p
  pub measuring : (g : Graph) (bound : List ℤ) (x : List ℕ) (P : Prices) (i p : ℕ) → Refuses (measure g bound x P) i p ↔ Refusing (measure_tests g bound x P) i p
  pub writer : (g : Graph) (x : List ℕ) (n : ℕ) (i p : ℕ) → Refuses (write_subgraph g x n) i p ↔ Refusing (writer_tests g x n) i p
  pub tidier : (g : Graph) (n : ℕ) (i p : ℕ) → Refuses (tidy_graph g n) i p ↔ Refusing (tidy_tests g n) i p
  pub index_builder : (g : Graph) (n : ℕ) (i p : ℕ) → Refuses (build_index g n) i p ↔ Refusing (build_tests g n) i p
  pub index_tester : (g : Graph) (index : List ℕ) (i p : ℕ) → Refuses (test_index g index) i p ↔ Refusing (index_tests g index) i p
  pub graph_reader : (r c w : ℕ) (text : List ℕ) (i p : ℕ) → Refuses (read_graph r c w text) i p ↔
      (Refusing (graph_reader_tests r c w text) i p ⊎ (Passing (graph_reader_tests r c w text) × Refuses (read_text (graph_layout New Field.Integer) text) i p))
  pub number_reader : (what : Numbers) (count n : ℕ) (text : List ℕ) (i p : ℕ) → Refuses (read_numbers what count n text) i p ↔
      (Refusing (number_reader_tests count n text) i p ⊎ (Passing (number_reader_tests count n text) × Refuses (read_text (number_layout New what count) text) i p))
  pub subgraph_reader : (g : Graph) (n : ℕ) (text : List ℕ) (i p : ℕ) → Refuses (read_subgraph g n text) i p ↔
      (Refusing (subgraph_reader_tests g n text) i p ⊎ (Passing (subgraph_reader_tests g n text) × Refuses (read_text (subgraph_layout New g) text) i p))
  pub assignment_writer : (g : Graph) (bound : List ℤ) (n : ℕ) (i p : ℕ) → Refuses (write_assignment g bound n) i p ↔ Refusing (assignment_tests g bound n) i p
  pub assignment_reader : (r c w b : ℕ) (text : List ℕ) (i p : ℕ) → Refuses (read_assignment r c w b text) i p ↔
      (Refusing (assignment_reader_tests r c w b text) i p ⊎ (Passing (assignment_reader_tests r c w b text) × Refuses (read_arcs text) i p))

-- ---- Demand 3

-- What the solver's prices show: they are even, in range and cover every edge, and a feasible subgraph y, measured against them without odd sets, is
-- accepted and has the solver's weight exactly where its gap is 0.
pub record Certifies (g : Graph) (bound : List ℤ) (S : Outputs) : Type 0 where
  pub vertex_range : (v : ℕ) → v < vertices g → SolverPrice (vertex_price (solver_prices S) v)
  pub edge_range : (e : ℕ) → e < g.edges → SolverPrice (edge_price (solver_prices S) e)
  pub covering : (e : ℕ) → e < g.edges → worth_at g e ≤ℤ cover_of g (solver_prices S) e
  pub exact : (y : List ℕ) → Feasible g bound y →
      (M : Measures) × (measure g bound y (solver_prices S) ≡ Ok M) × ((M.gap ≡ pos 0) ↔ (weight_of g y ≡ weight_of g S.chosen))

-- "The solver's prices are in range and cover every pair, and a plan within the limits has the solver's merit exactly when its measured gap is 0."
abbrev pub SolverCertifies : Type 0
SolverCertifies =
    (g : Graph) (bound : List ℤ) (index : List ℕ) (lent : Lent) (S : Outputs) (workspace : List ℤ) → Left g bound index lent S workspace →
    solve g bound index lent ≡ Ok tt → Certifies g bound S

-- A graph with its bounds passes: its lengths, its numbers and the bounds'.
pub record Accepts (g : Graph) (bound : List ℤ) : Type 0 where
  pub graph : Passing (once LentLength (graph_lengths g) ∷ graph_tests g)
  pub bound_long : length bound ≡ vertices g
  pub bounds : Passing (bound_test g bound ∷ [])

-- A price sheet covers a graph: each price is in range, there are at most 16 odd sets, each of which keeps the rules, and every edge is covered.
pub record Covers (g : Graph) (bound : List ℤ) (P : Prices) : Type 0 where
  pub vertex_long : length P.vertex ≡ vertices g
  pub edge_long : length P.edge ≡ g.edges
  pub set_long : length P.set ≡ P.sets
  pub vertex_words_long : length P.marks.vertices ≡ vertex_words * P.sets
  pub edge_words_long : length P.marks.edges ≡ edge_words * P.sets
  pub vertex_range : (v : ℕ) → v < vertices g → price_in_range (vertex_price P v) ≡ true
  pub edge_range : (e : ℕ) → e < g.edges → price_in_range (edge_price P e) ≡ true
  pub set_range : (s : ℕ) → s < P.sets → price_in_range (set_price P s) ≡ true
  pub few_sets : P.sets ≤ most_sets
  pub rules : (s : ℕ) → s < P.sets → keeps_rules g bound P.marks s ≡ true
  pub covering : (e : ℕ) → e < g.edges → worth_at g e ≤ℤ cover_of g P e

-- "On either sort of sheet the gap and leftovers are as defined, none below 0, they add up to the gap, and the gap is at least what the plan lacks", which
-- request U5 counts in half points, so that it is at least twice what the plan lacks: a feasible subgraph is measured against such prices, and the numbers mean what they should.
abbrev pub MeasuredMeans : Type 0
MeasuredMeans =
    (g : Graph) (bound : List ℤ) (x : List ℕ) (P : Prices) → Accepts g bound → Feasible g bound x → Covers g bound P →
    (M : Measures) × (measure g bound x P ≡ Ok M) × Meaning g bound x P M

-- What a plan lacks is a number: every graph and bounds that pass have an optimal subgraph, and any two of them weigh the same.
pub record OptimumExists : Type 0 where
  pub some : (g : Graph) (bound : List ℤ) → Accepts g bound → (x : List ℕ) × Optimal g bound x
  pub same : (g : Graph) (bound : List ℤ) (x y z : List ℕ) → Optimal g bound x → Optimal g bound y → lacks g x z ≡ lacks g y z

-- ---- The two programs

-- A text is that of a plan of largest merit, and reads back as that plan.
pub record WritesBest (g : Graph) (bound : List ℤ) (plan text : List ℕ) : Type 0 where
  pub best : Optimal g bound plan
  pub written : text ≡ subgraph_text g plan
  pub reads : read_subgraph g g.edges text ≡ Ok plan

-- What is left of a buffer of 16,384 bytes is such a text and then 0, and r is the text's length.
pub record LeavesBest (g : Graph) (bound : List ℤ) (after : List ℕ) (r : ℕ) : Type 0 where
  pub plan : List ℕ
  pub text : List ℕ
  pub writes : WritesBest g bound plan text
  pub content : after ≡ filled subgraph_bytes 0 text
  pub size : r ≡ length text

-- "`solve` reads sheet.mtx and limits.mtx and writes the plan": a two-sided sheet with its limits is taken by the solver, and whichever plan it picks, its
-- text is written, and left in the program's buffer. Of a one-sided sheet the refusal 16 is written, and of a file that is refused its refusal.
pub record SolveWrites : Type 0 where
  pub taken : (sheet limits : List ℕ) (P : Problem) → problem_in sheet limits ≡ has P → P.graph.kind ≡ Bipartite →
      solve_problem P.graph P.bound ≡ has tt
  pub plan : (sheet limits x : List ℕ) (P : Problem) → problem_in sheet limits ≡ has P → P.graph.kind ≡ Bipartite → Picked sheet limits x →
      WritesBest P.graph P.bound x (solve_output sheet limits x)
  pub left : (sheet limits before after : List ℕ) (r : ℕ) (P : Problem) → problem_in sheet limits ≡ has P → P.graph.kind ≡ Bipartite →
      SolveComposed sheet limits before after r → length before ≡ subgraph_bytes → LeavesBest P.graph P.bound after r
  pub one_sided : (sheet limits x : List ℕ) (P : Problem) → problem_in sheet limits ≡ has P → P.graph.kind ≡ General →
      solve_output sheet limits x ≡ refused_line Source.Input NotBipartite 0
  pub line16 : refused_line Source.Input NotBipartite 0 ≡ unlines (bytes "refused 16 at 0 in input" ∷ [])
  pub refused : (sheet limits x : List ℕ) (file : Source) (f : Fault) (place : ℕ) → problem_in sheet limits ≡ ends file f place →
      solve_output sheet limits x ≡ refused_line file f place

-- What `mark` reads of the four texts: a graph with its bounds, a plan x, and the prices zs, those of the vertices first.
pub record MarkReads (sheet limits plan prices : List ℕ) (P : Problem) (x : List ℕ) (zs : List ℤ) : Type 0 where
  pub problem_read : problem_in sheet limits ≡ has P
  pub plan_read : read_subgraph P.graph P.graph.edges plan ≡ Ok x
  pub prices_read : read_numbers Numbers.Prices (vertices P.graph + P.graph.edges) (vertices P.graph + P.graph.edges) prices ≡ Ok zs

-- "`mark` also reads plan.mtx and prices.mtx, takes no groups, and writes one line": where the plan is valid and the prices cover every pair, the line of
-- its merit, the total, the leftovers and the gap, as they are defined.
abbrev pub MarkWrites : Type 0
MarkWrites =
    (sheet limits plan prices : List ℕ) (P : Problem) (x : List ℕ) (zs : List ℤ) → MarkReads sheet limits plan prices P x zs →
    Feasible P.graph P.bound x →
    ((e : ℕ) → e < P.graph.edges → worth_at P.graph e ≤ℤ cover_of P.graph (prices_from P.graph zs) e) →
    (M : Measures) × (measure P.graph P.bound x (prices_from P.graph zs) ≡ Ok M)
    × Meaning P.graph P.bound x (prices_from P.graph zs) M × (mark_output sheet limits plan prices ≡ measured_line M)

-- ---- Request U1

-- The edge numbers of an index of n vertices, which follow its n + 1 offsets; and those of vertex v, which stand there from its offset to the next.
abbrev pub edge_numbers : ℕ → List ℕ → List ℕ
edge_numbers n index = drop (suc n) index

abbrev pub numbers_under : ℕ → List ℕ → ℕ → List ℕ
numbers_under n index v = take (get_or index (suc v) 0 - get_or index v 0) (drop (get_or index v 0) (edge_numbers n index))

-- The index is laid out so: n + 1 offsets and then 2m edge numbers, which are those under the vertices, one vertex after the other; an offset counts the
-- numbers under the vertices before; and under a vertex there are as many as it has edges, and they rise.
pub record LaidOut (g : Graph) (index : List ℕ) : Type 0 where
  pub long : length index ≡ suc (vertices g) + 2 * g.edges
  pub first : get_or index 0 0 ≡ 0
  pub last : get_or index (vertices g) 0 ≡ 2 * g.edges
  pub counts : (v : ℕ) → v ≤ vertices g → get_or index v 0 ≡ sum v (λ u. length (numbers_under (vertices g) index u))
  pub grouped : edge_numbers (vertices g) index ≡ chained (vertices g) (numbers_under (vertices g) index)
  pub many : (v : ℕ) → v < vertices g → length (numbers_under (vertices g) index v) ≡ sum g.edges (λ e. ends_at g v e)
  pub rising : (v : ℕ) → v < vertices g → (i j : ℕ) → i < j → j < length (numbers_under (vertices g) index v) →
      get_or (numbers_under (vertices g) index v) i 0 < get_or (numbers_under (vertices g) index v) j 0

-- "n + 1 offsets, then 2m pair numbers, grouped by fish, rising within a fish. Offset i counts the pair numbers of fish before fish i; the last is 2m":
-- so is an index that passes.
abbrev pub IndexLaidOut : Type 0
IndexLaidOut = (g : Graph) (index : List ℕ) → test_index g index ≡ Ok tt → LaidOut g index

-- The index lists each edge twice, once under each end, and under no other vertex.
pub record ListsEdges (g : Graph) (index : List ℕ) : Type 0 where
  pub twice : (e : ℕ) → e < g.edges → occurs (suc e) (edge_numbers (vertices g) index) ≡ 2
  pub under_first : (e : ℕ) → e < g.edges → occurs (suc e) (numbers_under (vertices g) index (first_end g e)) ≡ 1
  pub under_second : (e : ℕ) → e < g.edges → occurs (suc e) (numbers_under (vertices g) index (second_end g e)) ≡ 1
  pub under_no_other : (v e : ℕ) → v < vertices g → e < g.edges → first_end g e ≢ v → second_end g e ≢ v → occurs (suc e) (numbers_under (vertices g) index v) ≡ 0

-- "An index that passes lists each pair exactly twice, once under each end."
abbrev pub IndexListsEdges : Type 0
IndexListsEdges = (g : Graph) (index : List ℕ) → test_index g index ≡ Ok tt → ListsEdges g index

-- A call refuses a lent index with 18, at the first position where it differs from the one that is right. Positions count from 1.
pub record RefusedWhereUnlike (W : Outcome (Unit {0})) (index other : List ℕ) : Type 0 where
  pub position : ℕ
  pub among : position < length index
  pub unlike : get_or other position 0 ≢ get_or index position 0
  pub before : (k : ℕ) → k < position → get_or other k 0 ≡ get_or index k 0
  pub refused : Refuses W 18 (suc position)

-- "18, the lent index is not the sheet's, place the first position that differs": just one list is a graph's index, the one that is built. It passes, and
-- no other does, by the call that tests one and by the solver; where one index is taken, any other of its length is refused so.
pub record OneIndex : Type 0 where
  pub passes : (g : Graph) (n : ℕ) (index : List ℕ) → build_index g n ≡ Ok index → test_index g index ≡ Ok tt
  pub only : (g : Graph) (index : List ℕ) → test_index g index ≡ Ok tt → build_index g (length index) ≡ Ok index
  pub other : (g : Graph) (index other : List ℕ) → test_index g index ≡ Ok tt → length other ≡ length index → other ≢ index →
      RefusedWhereUnlike (test_index g other) index other
  pub solver_only : (g : Graph) (bound : List ℤ) (index : List ℕ) (lent : Lent) → solve g bound index lent ≡ Ok tt →
      build_index g (length index) ≡ Ok index
  pub solver_other : (g : Graph) (bound : List ℤ) (index other : List ℕ) (lent : Lent) → solve g bound index lent ≡ Ok tt →
      length other ≡ length index → other ≢ index → RefusedWhereUnlike (solve g bound other lent) index other

-- ---- Request U2

-- "One way to write a number": two words that are read as the same number are the same, and it is what the writer writes.
pub record OneWay : Type 0 where
  pub size : (u v : List ℕ) (n : ℕ) → natural New u ≡ Some n → natural New v ≡ Some n → u ≡ v
  pub number : (u v : List ℕ) (z : ℤ) → integer New u ≡ Some z → integer New v ≡ Some z → u ≡ v
  pub written : (w : List ℕ) (z : ℤ) → integer New w ≡ Some z → w ≡ signed z

-- "A program first rewrites the numbers .. of old.mtx": what the old rules take as a sheet, as limits or prices of a count, or as a plan of a sheet, the
-- new ones take after rewriting, with the same result.
pub record OldTextsRewritten : Type 0 where
  pub graph : (text : List ℕ) (g : Graph) → read_graph_by Old Field.Integer most_edges most_edges most_edges text ≡ Ok g →
      read_graph most_edges most_edges most_edges (rewrite_output text) ≡ Ok g
  pub numbers : (what : Numbers) (count : ℕ) (text : List ℕ) (zs : List ℤ) → read_numbers_by Old what count count text ≡ Ok zs →
      read_numbers what count count (rewrite_output text) ≡ Ok zs
  pub subgraph : (g : Graph) (text x : List ℕ) → read_subgraph_by Old g g.edges text ≡ Ok x → read_subgraph g g.edges (rewrite_output text) ≡ Ok x

-- What the new rules take is rewritten to itself; prices where none is over 2,000,000, since the old rules, by which a text is rewritten, take no more.
pub record NewTextsKept : Type 0 where
  pub graph : (text : List ℕ) (g : Graph) → read_graph most_edges most_edges most_edges text ≡ Ok g → rewrite_output text ≡ text
  pub bounds : (count : ℕ) (text : List ℕ) (zs : List ℤ) → read_numbers Numbers.Bounds count count text ≡ Ok zs → rewrite_output text ≡ text
  pub prices : (count : ℕ) (text : List ℕ) (zs : List ℤ) → read_numbers Numbers.Prices count count text ≡ Ok zs →
      ((k : ℕ) → k < length zs → get_or zs k (pos 0) ≤ℤ pos greatest_old_price) → rewrite_output text ≡ text
  pub subgraph : (g : Graph) (text x : List ℕ) → read_subgraph g g.edges text ≡ Ok x → rewrite_output text ≡ text

-- "And copies all other bytes": a text anew has the text's lines, of which those before the size line are the same, and each of the others has its words
-- anew; the bytes that end lines, and the blanks between words, are the same.
pub record CopiesTheRest : Type 0 where
  pub lines_of_text : (text : List ℕ) → lines (text_anew text) ≡ lines_anew (lines text)
  pub line_ends : (text : List ℕ) → ending newline (text_anew text) ≡ ending newline text
  pub words_of_line : (l : List ℕ) → words (line_anew l) ≡ map word_anew (words l)
  pub blanks_of_line : (l : List ℕ) → ending blank (line_anew l) ≡ ending blank l

-- The old rules refuse a text as a sheet, as a plan of every sheet, and as limits and as prices of every count.
pub record RefusedByAll (text : List ℕ) : Type 0 where
  pub graph : (g : Graph) → read_graph_by Old Field.Integer most_edges most_edges most_edges text ≢ Ok g
  pub subgraph : (g : Graph) (x : List ℕ) → read_subgraph_by Old g g.edges text ≢ Ok x
  pub numbers : (what : Numbers) (count : ℕ) (zs : List ℤ) → read_numbers_by Old what count count text ≢ Ok zs

-- "Or writes only the line `cannot read`": just where they do.
abbrev pub CannotRead : Type 0
CannotRead = (text : List ℕ) → (rewrite_output text ≡ unlines (bytes "cannot read" ∷ [])) ↔ RefusedByAll text

-- "As a plan of every sheet": the text of a plan without its sheet is taken just where some sheet takes the plan.
abbrev pub PlanOfSomeSheet : Type 0
PlanOfSomeSheet =
    (rules : Rules) (text : List ℕ) →
    ((g : Graph) × (x : List ℕ) × (read_subgraph_by rules g g.edges text ≡ Ok x)) ↔
    ((p : Graph) × (read_graph_by rules Field.Pattern most_edges most_edges most_edges text ≡ Ok p))

-- A sheet that is read passes the tests that every call makes of a graph.
abbrev pub ReadSheetsPass : Type 0
ReadSheetsPass =
    (text : List ℕ) (g : Graph) → read_graph most_edges most_edges most_edges text ≡ Ok g → Passing (once LentLength (graph_lengths g) ∷ graph_tests g)

-- ---- Request U3

-- A text is accepted as a sheet, which it yields.
abbrev pub ReadAs : List ℕ → Graph → Type 0
ReadAs text g = read_graph most_edges most_edges most_edges text ≡ Ok g

-- A text is a tidy form of a graph: it is read as the same sheet, its pairs by rising row and then column, and is what this is written as.
pub record TidyFormOf (g : Graph) (text : List ℕ) : Type 0 where
  pub graph : Graph
  pub read : ReadAs text graph
  pub same : SameSheet g graph
  pub rising : Rising graph
  pub written : text ≡ graph_text graph

-- "A writer that puts any accepted sheet into its single tidy form": whatever the call yields is a tidy form of the graph, so is what `tidy` writes of any
-- accepted sheet, and no other text is one.
pub record AnySheetTidied : Type 0 where
  pub call : (g : Graph) (n : ℕ) (text : List ℕ) → tidy_graph g n ≡ Ok text → TidyFormOf g text
  pub program : (sheet : List ℕ) (g : Graph) → ReadAs sheet g → TidyFormOf g (tidy_output sheet)
  pub single : (g : Graph) (text other : List ℕ) → TidyFormOf g text → TidyFormOf g other → text ≡ other

-- "Tidying a tidy text changes nothing."
pub record TidyKept : Type 0 where
  pub call : (g h : Graph) (n : ℕ) (text : List ℕ) → tidy_graph g n ≡ Ok text → ReadAs text h → tidy_graph h n ≡ Ok text
  pub program : (sheet : List ℕ) (g : Graph) → ReadAs sheet g → tidy_output (tidy_output sheet) ≡ tidy_output sheet

-- "Two accepted texts tidy to the same bytes exactly when they have the same kind, sizes and pairs of ends, and the same merit at each."
abbrev pub TidiedAlike : Type 0
TidiedAlike = (sheet other : List ℕ) (g h : Graph) → ReadAs sheet g → ReadAs other h → (tidy_output sheet ≡ tidy_output other) ↔ SameSheet g h

-- "Plan texts still read as the same pairs of ends": a plan text is read alike for a sheet and for the tidied sheet.
abbrev pub PlansKept : Type 0
PlansKept =
    (sheet plan : List ℕ) (g h : Graph) → ReadAs sheet g → ReadAs (tidy_output sheet) h →
    ReadAlike g h (read_subgraph g g.edges plan) (read_subgraph h h.edges plan)

-- ---- Request U5

-- "A pair is covered if its prices reach twice its merit", "gap = total - 2 times merit": so it is where the measuring call yields its numbers, of which the
-- weight is in points.
pub record CountedInHalfPoints : Type 0 where
  pub reached : (g : Graph) (bound : List ℤ) (x : List ℕ) (P : Prices) (M : Measures) → measure g bound x P ≡ Ok M →
      (e : ℕ) → e < g.edges → (pos 2 *ℤ weight_at g e) ≤ℤ cover_of g P e
  pub gap : (g : Graph) (bound : List ℤ) (x : List ℕ) (P : Prices) (M : Measures) → measure g bound x P ≡ Ok M →
      (M.weight ≡ weight_of g x) × (M.gap ≡ M.total -ℤ pos 2 *ℤ M.weight)

-- "The solver's prices are even, 0 to 2,000,000": a price z is twice a natural number, and not over 2,000,000.
abbrev pub EvenPrice : ℤ → Type 0
EvenPrice z = (k : ℕ) × (z ≡ pos (2 * k)) × (2 * k ≤ greatest_solver_price)

abbrev pub SolverPricesEven : Type 0
SolverPricesEven =
    (g : Graph) (bound : List ℤ) (index : List ℕ) (lent : Lent) (S : Outputs) (workspace : List ℤ) → Left g bound index lent S workspace →
    solve g bound index lent ≡ Ok tt →
    ((v : ℕ) → v < vertices g → EvenPrice (get_or S.vertex_prices v (pos 0))) × ((e : ℕ) → e < g.edges → EvenPrice (get_or S.edge_prices e (pos 0)))

-- "The gap sentence of the mission now compares with twice what the plan lacks": the gap is at least that, so that a gap of 0 or 1 shows a plan best, and
-- against the solver's prices it is just that.
pub record TwiceWhatIsLacking : Type 0 where
  pub least : (g : Graph) (bound : List ℤ) (x : List ℕ) (P : Prices) (M : Measures) → measure g bound x P ≡ Ok M →
      (y : List ℕ) → Optimal g bound y → (pos 2 *ℤ lacks g y x) ≤ℤ M.gap
  pub best : (g : Graph) (bound : List ℤ) (x : List ℕ) (P : Prices) (M : Measures) → measure g bound x P ≡ Ok M →
      M.gap ≤ℤ pos 1 → Optimal g bound x
  pub exact : (g : Graph) (bound : List ℤ) (index : List ℕ) (lent : Lent) (S : Outputs) (workspace : List ℤ) → Left g bound index lent S workspace →
      solve g bound index lent ≡ Ok tt → (y : List ℕ) → Feasible g bound y →
      (M : Measures) × (measure g bound y (solver_prices S) ≡ Ok M) × (M.gap ≡ pos 2 *ℤ lacks g S.chosen y)

-- A stored price sheet, whose prices are in points, in half points: each price doubled.
abbrev pub in_half_points : Prices → Prices
in_half_points P = record {
  vertex = map half_points P.vertex;
  edge = map half_points P.edge;
  sets = P.sets;
  set = map half_points P.set;
  marks = P.marks;
}

-- "Owners double stored price texts; prices, totals, leftovers and gaps .. double too": a price of the old range, doubled, is in range; doubled prices cover
-- an edge just where the prices in points reached its weight, and their total, the gap and the slacks are those in points, doubled.
pub record StoredPricesDoubled : Type 0 where
  pub range : (z : ℤ) → in_range Old Numbers.Prices z ≡ true → price_in_range (half_points z) ≡ true
  pub cover : (g : Graph) (P : Prices) (e : ℕ) → covered g (in_half_points P) e ≡ le_z (weight_at g e) (cover_of g P e)
  pub total : (g : Graph) (bound : List ℤ) (P : Prices) → total_of g bound (in_half_points P) ≡ half_points (total_of g bound P)
  pub gap : (g : Graph) (bound : List ℤ) (x : List ℕ) (P : Prices) → gap_of g bound x (in_half_points P) ≡ half_points (total_of g bound P -ℤ weight_of g x)
  pub of_vertices : (g : Graph) (bound : List ℤ) (x : List ℕ) (P : Prices) → vertex_slack g bound x (in_half_points P) ≡ half_points (vertex_slack g bound x P)
  pub of_sets : (g : Graph) (bound : List ℤ) (x : List ℕ) (P : Prices) → set_slack g bound x (in_half_points P) ≡ half_points (set_slack g bound x P)
  pub of_edges : (g : Graph) (x : List ℕ) (P : Prices) → edge_slack g x (in_half_points P) ≡ half_points (edge_slack g x P)
  pub of_cover : (g : Graph) (x : List ℕ) (P : Prices) →
      cover_slack g x (in_half_points P) ≡ half_points (sumℤ g.edges (λ e. pos (mark_at x e) *ℤ (cover_of g P e -ℤ weight_at g e)))

-- ---- Request U7

-- A graph with its bounds goes out as a text, the output having n bytes; and a text that comes in yields a graph, whose bounds are then `unit_bounds`.
abbrev pub GoesOutAs : Graph → List ℤ → List ℕ → Type 0
GoesOutAs g bound text = (n : ℕ) × (write_assignment g bound n ≡ Ok text)

abbrev pub ComesInAs : List ℕ → Graph → Type 0
ComesInAs text g = read_assignment most_edges most_edges most_edges most_vertices text ≡ Ok g

-- "A sheet converted and brought back has the same kind, sizes and pairs in the same order": a graph that goes out comes back as the same graph, with the
-- bounds that it went out with. So no two are written alike.
pub record ThereAndBack : Type 0 where
  pub graph : (g : Graph) (bound : List ℤ) (text : List ℕ) → GoesOutAs g bound text → ComesInAs text g
  pub bounds : (g : Graph) (bound : List ℤ) (text : List ℕ) → GoesOutAs g bound text → unit_bounds g ≡ bound
  pub apart : (g h : Graph) (bound other : List ℤ) (text : List ℕ) → GoesOutAs g bound text → GoesOutAs h other text → (g ≡ h) × (bound ≡ other)

-- "Only two-sided sheets with every limit 1 can go out": a text is yielded just where the graph passes its tests and is bipartite, each vertex has a bound
-- and it is 1, and 32,768 bytes are lent.
pub record CanGoOut (g : Graph) (bound : List ℤ) (n : ℕ) : Type 0 where
  pub graph : Passing (once LentLength (graph_lengths g) ∷ graph_tests g)
  pub two_sided : g.kind ≡ Bipartite
  pub bound_long : length bound ≡ vertices g
  pub ones : (v : ℕ) → v < vertices g → bound_at bound v ≡ pos 1
  pub lent : n ≡ longest_text

abbrev pub OnlyUnitBounds : Type 0
OnlyUnitBounds = (g : Graph) (bound : List ℤ) (n : ℕ) → ((text : List ℕ) × (write_assignment g bound n ≡ Ok text)) ↔ CanGoOut g bound n

-- "Coming back sets every limit to 1, in an output of 128 numbers, 0 after fish n": what that output holds after a text has come in.
abbrev pub bounds_after : List ℕ → List ℤ
bounds_after text = output most_vertices (pos 0) unit_bounds (read_assignment most_edges most_edges most_edges most_vertices text)

abbrev pub BoundsComeInAsOne : Type 0
BoundsComeInAsOne =
    (text : List ℕ) (g : Graph) → ComesInAs text g →
    (vertices g ≤ most_vertices) × (bounds_after text ≡ replicate (vertices g) (pos 1) ++ replicate (most_vertices - vertices g) (pos 0))

-- A graph that comes in passes every test that calls make of a graph, and its bounds theirs, so that it can be solved with its index, tidied and sent out
-- again.
pub record ReadAssignmentsPass : Type 0 where
  pub accepted : (text : List ℕ) (g : Graph) → ComesInAs text g → Accepts g (unit_bounds g)
  pub solved : (text : List ℕ) (g : Graph) → ComesInAs text g → (n : ℕ) (index : List ℕ) → build_index g n ≡ Ok index →
      solve g (unit_bounds g) index (lent_for g) ≡ Ok tt
  pub tidied : (text : List ℕ) (g : Graph) → ComesInAs text g → (tidy : List ℕ) × (tidy_graph g longest_text ≡ Ok tidy)
  pub sent_out : (text : List ℕ) (g : Graph) → ComesInAs text g → (out : List ℕ) × (write_assignment g (unit_bounds g) longest_text ≡ Ok out)

-- "Convert a sheet to that layout and back": a two-sided sheet whose limits text gives every limit as 1 is written by `to_dimacs`, and of that text
-- `from_dimacs` writes the sheet, its pairs in the sheet's own order.
pub record UnitSheet (sheet limits : List ℕ) (g : Graph) : Type 0 where
  pub read : ReadAs sheet g
  pub two_sided : g.kind ≡ Bipartite
  pub ones : read_numbers Numbers.Bounds (vertices g) (vertices g) limits ≡ Ok (unit_bounds g)

pub record SheetsThereAndBack : Type 0 where
  pub out : (sheet limits : List ℕ) (g : Graph) → UnitSheet sheet limits g → GoesOutAs g (unit_bounds g) (to_dimacs_output sheet limits)
  pub back : (sheet limits : List ℕ) (g : Graph) → UnitSheet sheet limits g → from_dimacs_output (to_dimacs_output sheet limits) ≡ graph_text g
  pub read : (sheet limits : List ℕ) (g : Graph) → UnitSheet sheet limits g → ReadAs (from_dimacs_output (to_dimacs_output sheet limits)) g

-- ---- Request U8

-- "Put every family on both sides of a two-sided sheet, each pair once in each direction, with the same limits and merits; solve it": the doubled graph of
-- every graph that the call accepts passes the tests with its bounds, and the solver takes it with its index.
pub record DoubledPasses : Type 0 where
  pub accepted : (g : Graph) (bound : List ℤ) (v e : ℕ) → price_general g bound v e ≡ Ok tt → Accepts (doubled g) (doubled_bounds bound)
  pub solved : (g : Graph) (bound : List ℤ) (v e : ℕ) → price_general g bound v e ≡ Ok tt → (n : ℕ) (index : List ℕ) →
      build_index (doubled g) n ≡ Ok index → solve (doubled g) (doubled_bounds bound) index (lent_for (doubled g)) ≡ Ok tt

-- What holds of the prices that the call leaves, which have no odd sets: they are from 0 to 2,000,000 half points and cover every edge, and their total, in
-- half points, is the number that every optimal subgraph of the doubled graph weighs in points.
pub record TankPrices (g : Graph) (bound vertex edge : List ℤ) : Type 0 where
  pub vertex_range : (u : ℕ) → u < vertices g → (pos 0 ≤ℤ get_or vertex u (pos 0)) × (get_or vertex u (pos 0) ≤ℤ pos greatest_solver_price)
  pub edge_range : (k : ℕ) → k < g.edges → (pos 0 ≤ℤ get_or edge k (pos 0)) × (get_or edge k (pos 0) ≤ℤ pos greatest_solver_price)
  pub covering : (k : ℕ) → k < g.edges → worth_at g k ≤ℤ cover_of g (without_sets vertex edge) k
  pub best : (x : List ℕ) × Optimal (doubled g) (doubled_bounds bound) x
  pub total : (x : List ℕ) → Optimal (doubled g) (doubled_bounds bound) x → total_of g bound (without_sets vertex edge) ≡ weight_of (doubled g) x

-- "The result has no groups, covers every pair, and its total equals the largest merit of the doubled sheet."
abbrev pub TankPricesCover : Type 0
TankPricesCover =
    (g : Graph) (bound : List ℤ) (v e : ℕ) (vertex edge : List ℤ) → GeneralLeft g bound v e vertex edge → price_general g bound v e ≡ Ok tt →
    TankPrices g bound vertex edge

-- "So that merit is never less than twice the best tank plan's."
abbrev pub TwiceTheBest : Type 0
TwiceTheBest =
    (g : Graph) (bound : List ℤ) (v e : ℕ) → price_general g bound v e ≡ Ok tt → (x : List ℕ) → Optimal (doubled g) (doubled_bounds bound) x →
    (y : List ℕ) → Feasible g bound y → (pos 2 *ℤ weight_of g y) ≤ℤ weight_of (doubled g) x

-- So every feasible subgraph, measured against these prices, is accepted, and its gap is at least twice what it lacks.
abbrev pub TankPlansMeasured : Type 0
TankPlansMeasured =
    (g : Graph) (bound : List ℤ) (v e : ℕ) (vertex edge : List ℤ) → GeneralLeft g bound v e vertex edge → price_general g bound v e ≡ Ok tt →
    (y : List ℕ) → Feasible g bound y →
    (M : Measures) × (measure g bound y (without_sets vertex edge) ≡ Ok M) × Meaning g bound y (without_sets vertex edge) M

-- A graph is a tank sheet that is priced: it is general, and has at most 64 vertices and 512 edges.
pub record TankSheet (g : Graph) : Type 0 where
  pub one_sided : g.kind ≡ General
  pub few : g.rows ≤ most_side
  pub few_edges : g.edges ≤ most_doubled_edges

-- What `price_tanks` writes: of a tank sheet with its limits the text of the prices that the call picks, which reads back as them, is left in the program's
-- buffer, and is taken by `mark`: a valid plan that is read is measured against them. Of any other sheet the refusal 24 is written, and of a file that is
-- refused its refusal.
pub record PriceTanksWrites : Type 0 where
  pub taken : (sheet limits : List ℕ) (P : Problem) → problem_in sheet limits ≡ has P → TankSheet P.graph → price_problem P.graph P.bound ≡ has tt
  pub written : (sheet limits : List ℕ) (prices : List ℤ) (P : Problem) → problem_in sheet limits ≡ has P → TankSheet P.graph →
      PricesPicked sheet limits prices → price_output sheet limits prices ≡ number_text prices
  pub reads : (sheet limits : List ℕ) (prices : List ℤ) (P : Problem) → problem_in sheet limits ≡ has P → TankSheet P.graph →
      PricesPicked sheet limits prices →
      read_numbers Numbers.Prices (vertices P.graph + P.graph.edges) (vertices P.graph + P.graph.edges) (price_output sheet limits prices) ≡ Ok prices
  pub marked : (sheet limits plan x : List ℕ) (prices : List ℤ) (P : Problem) → problem_in sheet limits ≡ has P → TankSheet P.graph →
      PricesPicked sheet limits prices → read_subgraph P.graph P.graph.edges plan ≡ Ok x → Feasible P.graph P.bound x →
      (M : Measures) × (measure P.graph P.bound x (prices_from P.graph prices) ≡ Ok M)
      × Meaning P.graph P.bound x (prices_from P.graph prices) M
      × (mark_output sheet limits plan (price_output sheet limits prices) ≡ measured_line M)
  pub left : (sheet limits before after : List ℕ) (r : ℕ) (P : Problem) → problem_in sheet limits ≡ has P → TankSheet P.graph →
      PriceComposed sheet limits before after r → length before ≡ longest_text →
      (prices : List ℤ) × PricesPicked sheet limits prices × (after ≡ filled longest_text 0 (number_text prices)) × (r ≡ length (number_text prices))
  pub other : (sheet limits : List ℕ) (prices : List ℤ) (P : Problem) → problem_in sheet limits ≡ has P → (TankSheet P.graph → ⊥) →
      price_output sheet limits prices ≡ refused_line Source.Input NotDoubled 0
  pub line24 : refused_line Source.Input NotDoubled 0 ≡ unlines (bytes "refused 24 at 0 in input" ∷ [])
  pub refused : (sheet limits : List ℕ) (prices : List ℤ) (file : Source) (f : Fault) (place : ℕ) → problem_in sheet limits ≡ ends file f place →
      price_output sheet limits prices ≡ refused_line file f place

-- ---- All of them

-- Every promise, in the order of this file.
pub record Promises : Type 0 where
  pub listed : Listed
  pub zero_after_refusal : ZeroAfterRefusal
  pub read_as_defined : ReadAsDefined
  pub reads_back : ReadsBack
  pub largest_merit : LargestMerit
  pub refused_just_where_listed : RefusedJustWhereListed
  pub solver_certifies : SolverCertifies
  pub measured_means : MeasuredMeans
  pub optimum_exists : OptimumExists
  pub solve_writes : SolveWrites
  pub mark_writes : MarkWrites
  pub index_laid_out : IndexLaidOut
  pub index_lists_edges : IndexListsEdges
  pub one_index : OneIndex
  pub one_way : OneWay
  pub old_texts_rewritten : OldTextsRewritten
  pub new_texts_kept : NewTextsKept
  pub copies_the_rest : CopiesTheRest
  pub cannot_read : CannotRead
  pub plan_of_some_sheet : PlanOfSomeSheet
  pub read_sheets_pass : ReadSheetsPass
  pub any_sheet_tidied : AnySheetTidied
  pub tidy_kept : TidyKept
  pub tidied_alike : TidiedAlike
  pub plans_kept : PlansKept
  pub counted_in_half_points : CountedInHalfPoints
  pub solver_prices_even : SolverPricesEven
  pub twice_what_is_lacking : TwiceWhatIsLacking
  pub stored_prices_doubled : StoredPricesDoubled
  pub there_and_back : ThereAndBack
  pub only_unit_bounds : OnlyUnitBounds
  pub bounds_come_in_as_one : BoundsComeInAsOne
  pub read_assignments_pass : ReadAssignmentsPass
  pub sheets_there_and_back : SheetsThereAndBack
  pub doubled_passes : DoubledPasses
  pub tank_prices_cover : TankPricesCover
  pub twice_the_best : TwiceTheBest
  pub tank_plans_measured : TankPlansMeasured
  pub price_tanks_writes : PriceTanksWrites
