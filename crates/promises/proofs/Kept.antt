-- The promises are kept.
use Rattle.graph.specs.declared.Refusal.{Refusal}
use Rattle.std.specs.Prelude.{Ok, Err}
use Prim.Native.Nat.{ℕ, ◌*◌, ◌<◌}
use mathlib.Core.Path.{◌≡◌, refl, sym, ap, ap₂, ◌∙◌, subst}
use mathlib.Core.Logic.{◌⊎◌, inl, inr, ◌↔◌}
use mathlib.Core.Bool.{true, ◌&&◌}
use mathlib.Core.List.{List, [], ◌∷◌}
use native.Mathlib.Omega.{arith}
use lib.Dec.{eqb}
use lib.IntN.{ℤ, pos, ◌-ℤ◌}
use lib.ListN.{length, replicate, length-replicate, get_or-replicate}
use lib.Signed.{◌≤ℤ◌}
use borrow.Author.Tests.{eq-eqb}
use Rattle.integers.proofs.Order.{between-true, ≤ℤ-antisym}
use Rattle.integers.proofs.Sum.{sum-none}
use Rattle.graph.specs.declared.Fault.{Fault}
use Rattle.graph.specs.declared.Fault.TheVariants.{TextLength, Header, SizeLine, Sizes, LaterLine, Ends, Weight, SameEnds}
use Rattle.graph.specs.declared.Fault.TheVariants.{LentLength, Bound, Mark, Degree, Price, OddSet, Uncovered, NotBipartite, Disagreement, WrongIndex}
use Rattle.graph.specs.declared.Fault.TheVariants.{BoundNotOne, AssignmentLine, Sources, NotDoubled}
use Rattle.graph.specs.Limits.{most_vertices, most_edges, most_numbers, greatest_price}
use Rattle.graph.specs.Refusal.{number_of, Outcome, refuses, Told, told, refused_with, Test, once, passing, output}
use Rattle.graph.specs.Graph.{Graph, vertices, bound_at, up_to}
use Rattle.graph.specs.Subgraph.{mark_at, ends_at, degree, Feasible, weight_of}
use Rattle.graph.specs.Tests.{graph_lengths, graph_tests, bound_test}
use Rattle.graph.specs.Index.{index_of, index_numbers, index_test, build_tests, build_index, index_tests, test_index}
use Rattle.graph.specs.Passed.{Passed, Bounded}
use Rattle.graph.proofs.Passing.{zero_one, passes, pass, passes_join, go_on, passing-on, once-passes, once-yields}
use Rattle.graph.proofs.Passed.{graph_passed, bounds_passed, bounds_test}
use Rattle.graph.proofs.Index.{given_index, index_built, index_tested}
use Rattle.graph.proofs.Told.{told_same}
use Rattle.graph.proofs.Ranges.{◌also◌}
use Rattle.layout.specs.declared.Rules.TheVariants.{New}
use Rattle.layout.specs.declared.Field.TheVariants as Field
use Rattle.layout.specs.Text.{text_fits}
use Rattle.layout.specs.Lines.{read_text}
use Rattle.layout.specs.GraphText.{graph_layout, graph_reader_tests, read_graph_by, read_graph}
use Rattle.layout.specs.NumberText.{number_layout, number_reader_tests, read_numbers_by, read_numbers}
use Rattle.layout.specs.SubgraphText.{subgraph_text, subgraph_layout, subgraph_reader_tests, read_subgraph_by, read_subgraph, writer_tests, write_subgraph}
use Rattle.layout.specs.TidyText.{tidy_text, tidy_tests, tidy_graph}
use Rattle.layout.specs.AssignmentText.{assignment_text, assignment_tests, write_assignment, read_arcs, assignment_reader_tests, read_assignment}
use Rattle.dual.specs.Prices.{Prices}
use Rattle.dual.specs.Measure.{measure, measures, measure_tests}
use Rattle.dual.specs.Solve.{solver_tests, solve}
use Rattle.dual.specs.PriceGeneral.{general_tests, price_general}
use Rattle.cases.proofs.Trying.{some_optimal}
use Rattle.duality.proofs.Passed.{Priced, measure-takes}
use Rattle.duality.proofs.Measured.{measured, certified}
use Rattle.readback.proofs.ReadBack.{read_back, written_apart}
use Rattle.patterns.proofs.Texts.{passed_passing}
use Rattle.promises.specs.Promises.{occurs, refusal_numbers, Listed, Refuses, ZeroOnRefusal, ZeroAfterRefusal, Passing, Refusing, ReadAsDefined, ReadsBack}
use Rattle.promises.specs.Promises.{LargestMerit, RefusedJustWhereListed, SolverCertifies, Accepts, Covers, MeasuredMeans, OptimumExists}
use Rattle.promises.specs.Promises.{LaidOut, IndexLaidOut, ListsEdges, IndexListsEdges, OneIndex}
use Rattle.promises.proofs.Listing.{laid_out, lists_edges}
use Rattle.promises.proofs.Solver.{tester_refuses, taken-built, solver_refuses_other}

-- ---- Demand 1

in-table : (f : Fault) → occurs (number_of f) refusal_numbers ≡ 1
in-table TextLength = refl
in-table Header = refl
in-table SizeLine = refl
in-table Sizes = refl
in-table LaterLine = refl
in-table Ends = refl
in-table Weight = refl
in-table SameEnds = refl
in-table LentLength = refl
in-table Bound = refl
in-table Mark = refl
in-table Degree = refl
in-table Price = refl
in-table OddSet = refl
in-table Uncovered = refl
in-table NotBipartite = refl
in-table Disagreement = refl
in-table WrongIndex = refl
in-table BoundNotOne = refl
in-table AssignmentLine = refl
in-table Sources = refl
in-table NotDoubled = refl

same-fault : {f h : Fault} → ◌≡◌ {A = Outcome (Unit {0})} (refuses f 0) (refuses h 0) → f ≡ h
same-fault {f} {h} e =
    let q : ◌≡◌ {A = Refusal} (record { fault = f; place = 0 }) (record { fault = h; place = 0 }) = cc in
    ap (λ (r : Refusal). r.fault) q

pub numbers_listed : Listed
numbers_listed = record {
  in_table = in-table;
  faults =
      TextLength ∷ Header ∷ SizeLine ∷ Sizes ∷ LaterLine ∷ Ends ∷ Weight ∷ SameEnds ∷ LentLength ∷ Bound ∷ Mark ∷ Degree ∷ Price ∷ OddSet ∷ Uncovered
      ∷ NotBipartite ∷ Disagreement ∷ WrongIndex ∷ BoundNotOne ∷ AssignmentLine ∷ Sources ∷ NotDoubled ∷ [];
  numbers = refl;
  apart = λ f h e. same-fault (told_same (refuses f 0) (refuses h 0) (ap (λ (n : ℕ). refused_with n 0) e));
}

-- What refuses with a number does so with a fault.
refused_by : {A : Type 0} (o : Outcome A) (i p : ℕ) → Refuses o i p → (f : Fault) × (o ≡ refuses f p)
refused_by (Ok a) i p e = zero_one (cc)
refused_by (Err refusal) i p e = (refusal.fault, ap (refuses refusal.fault) (let s : refusal.place ≡ p = cc in s))

-- The output of a call that yields anything.
pub zero_on_refusal : {A N : Type 0} (z : N) (f : A → List N) → ZeroOnRefusal z f
zero_on_refusal z f n W i p e = ap (output n z f) (refused_by W i p e).1

pub zero-after-refusal : ZeroAfterRefusal
zero-after-refusal = record {
  graph_numbers = zero_on_refusal 0;
  graph_integers = zero_on_refusal (pos 0);
  numbers = zero_on_refusal 0 (λ (xs : List ℕ). xs);
  integers = zero_on_refusal (pos 0) (λ (zs : List ℤ). zs);
  solver = λ g bound index lent S workspace L i p e.
      let r = refused_by (solve g bound index lent) i p e in (L.refused r.0 p r.1, L.cleared);
  general_pricer = λ g bound v e vertex edge L i p h. let r = refused_by (price_general g bound v e) i p h in L.refused r.0 p r.1;
}

-- ---- Demand 2

-- Tests that have been shown to pass yield the rest.
passes_on : {A : Type 0} (ts : List Test) (o : Outcome A) → Passing ts → passing ts o ≡ o
passes_on ts o p = pass ts (passes ts (Ok tt) tt p).0 o

graph_by_lines : (text : List ℕ) → text_fits text ≡ true → read_graph most_edges most_edges most_edges text ≡ read_text (graph_layout New Field.Integer) text
unfolding read_graph_by
graph_by_lines text fits = once-passes TextLength (text_fits text) [] (read_text (graph_layout New Field.Integer) text) fits

numbers_by_lines : (what : _) (count : ℕ) (text : List ℕ) → up_to most_numbers count ≡ true → text_fits text ≡ true →
    read_numbers what count count text ≡ read_text (number_layout New what count) text
unfolding read_numbers_by
numbers_by_lines what count text sizes fits =
    once-passes LentLength (eqb count count) (once Sizes (up_to most_numbers count) ∷ once TextLength (text_fits text) ∷ [])
    (read_text (number_layout New what count) text) (eq-eqb count count refl)
    ∙ once-passes Sizes (up_to most_numbers count) (once TextLength (text_fits text) ∷ []) (read_text (number_layout New what count) text) sizes
    ∙ once-passes TextLength (text_fits text) [] (read_text (number_layout New what count) text) fits

subgraph_by_lines : (g : Graph) (text : List ℕ) → Passing (once LentLength (graph_lengths g) ∷ graph_tests g) → text_fits text ≡ true →
    read_subgraph g g.edges text ≡ read_text (subgraph_layout New g) text
unfolding read_subgraph_by
subgraph_by_lines g text p fits =
    let w = once-yields LentLength (graph_lengths g) (graph_tests g) (Ok tt) tt p in
    let rest = passing (once TextLength (text_fits text) ∷ []) (read_text (subgraph_layout New g) text) in
    once-passes LentLength (graph_lengths g && eqb g.edges g.edges) (graph_tests g) rest (w.0 also eq-eqb g.edges g.edges refl)
    ∙ passes_on (graph_tests g) rest w.1
    ∙ once-passes TextLength (text_fits text) [] (read_text (subgraph_layout New g) text) fits

assignment_by_lines : (text : List ℕ) → text_fits text ≡ true → read_assignment most_edges most_edges most_edges most_vertices text ≡ read_arcs text
unfolding read_assignment
assignment_by_lines text fits = once-passes TextLength (text_fits text) [] (read_arcs text) fits

pub read-as-defined : ReadAsDefined
read-as-defined = record { graph = graph_by_lines; numbers = numbers_by_lines; subgraph = subgraph_by_lines; assignment = assignment_by_lines }

pub reads-back : ReadsBack
reads-back = record { back = read_back; apart = written_apart }

pub largest-merit : LargestMerit
largest-merit g bound index lent S workspace L e = let O = (L.solved e).optimal in (O.feasible, O.most)

-- What is told of a refusal does not depend on what would be yielded.
told-alike : {A B : Type 0} {n q i p : ℕ} → ◌≡◌ {A = Told A} (refused_with n q) (refused_with i p) → ◌≡◌ {A = Told B} (refused_with n q) (refused_with i p)
told-alike {n = n} {q} {i} {p} e = let a : n ≡ i = cc in let b : q ≡ p = cc in ap₂ refused_with a b

-- A call refuses just where its tests do, or where they pass and what follows them refuses.
module _ {A : Type 0} (ts : List Test) (rest : Outcome A) (i p : ℕ) where
  pub refused_just : Refuses (passing ts rest) i p ↔ (Refusing ts i p ⊎ (Passing ts × Refuses rest i p))
  refused_just = (λ e. there (passing ts (Ok tt)) refl (sym (ap told (passing-on ts rest)) ∙ e), λ w. ap told (passing-on ts rest) ∙ back w)
    where
      there : (o : Outcome (Unit {0})) → passing ts (Ok tt) ≡ o → Refuses (go_on o rest) i p → Refusing ts i p ⊎ (Passing ts × Refuses rest i p)
      there (Ok u) is e = inr (is, e)
      there (Err refusal) is e = inl (ap told is ∙ told-alike e)

      same : (o : Outcome (Unit {0})) → Refuses o i p → Refuses (go_on o rest) i p
      same (Ok u) e = zero_one (cc)
      same (Err refusal) e = told-alike e

      back : Refusing ts i p ⊎ (Passing ts × Refuses rest i p) → Refuses (go_on (passing ts (Ok tt)) rest) i p
      back (inl e) = same (passing ts (Ok tt)) e
      back (inr w) = ap (λ (o : Outcome (Unit {0})). told (go_on o rest)) w.0 ∙ w.1

  -- Where what follows is a result, its tests alone decide.
  pub tests_alone : (a : A) → rest ≡ Ok a → Refuses (passing ts rest) i p ↔ Refusing ts i p
  tests_alone a is = (λ e. alone (refused_just.0 e), λ e. refused_just.1 (inl e))
    where
      alone : Refusing ts i p ⊎ (Passing ts × Refuses rest i p) → Refusing ts i p
      alone (inl e) = e
      alone (inr w) = zero_one (let z : told (Ok a) ≡ refused_with i p = sym (ap told is) ∙ w.1 in cc)

solver_refuses : (g : Graph) (bound : List ℤ) (index : List ℕ) (lent : _) (i p : ℕ) → Refuses (solve g bound index lent) i p ↔ Refusing (solver_tests g bound index lent) i p
unfolding solve
solver_refuses g bound index lent i p = (λ e. e, λ e. e)

general-pricer_refuses : (g : Graph) (bound : List ℤ) (v e i p : ℕ) → Refuses (price_general g bound v e) i p ↔ Refusing (general_tests g bound v e) i p
unfolding price_general
general-pricer_refuses g bound v e i p = (λ h. h, λ h. h)

measuring-refuses : (g : Graph) (bound : List ℤ) (x : List ℕ) (P : Prices) (i p : ℕ) → Refuses (measure g bound x P) i p ↔ Refusing (measure_tests g bound x P) i p
unfolding measure
measuring-refuses g bound x P i p = tests_alone (measure_tests g bound x P) (Ok (measures g bound x P)) i p (measures g bound x P) refl

writer_refuses : (g : Graph) (x : List ℕ) (n : ℕ) (i p : ℕ) → Refuses (write_subgraph g x n) i p ↔ Refusing (writer_tests g x n) i p
unfolding write_subgraph
writer_refuses g x n i p = tests_alone (writer_tests g x n) (Ok (subgraph_text g x)) i p (subgraph_text g x) refl

graph_reader_refuses : (r c w : ℕ) (text : List ℕ) (i p : ℕ) → Refuses (read_graph r c w text) i p ↔
    (Refusing (graph_reader_tests r c w text) i p ⊎ (Passing (graph_reader_tests r c w text) × Refuses (read_text (graph_layout New Field.Integer) text) i p))
unfolding read_graph_by
graph_reader_refuses r c w text i p = refused_just (graph_reader_tests r c w text) (read_text (graph_layout New Field.Integer) text) i p

number_reader_refuses : (what : _) (count n : ℕ) (text : List ℕ) (i p : ℕ) → Refuses (read_numbers what count n text) i p ↔
    (Refusing (number_reader_tests count n text) i p ⊎ (Passing (number_reader_tests count n text) × Refuses (read_text (number_layout New what count) text) i p))
unfolding read_numbers_by
number_reader_refuses what count n text i p = refused_just (number_reader_tests count n text) (read_text (number_layout New what count) text) i p

subgraph_reader_refuses : (g : Graph) (n : ℕ) (text : List ℕ) (i p : ℕ) → Refuses (read_subgraph g n text) i p ↔
    (Refusing (subgraph_reader_tests g n text) i p ⊎ (Passing (subgraph_reader_tests g n text) × Refuses (read_text (subgraph_layout New g) text) i p))
unfolding read_subgraph_by
subgraph_reader_refuses g n text i p = refused_just (subgraph_reader_tests g n text) (read_text (subgraph_layout New g) text) i p

tidier_refuses : (g : Graph) (n : ℕ) (i p : ℕ) → Refuses (tidy_graph g n) i p ↔ Refusing (tidy_tests g n) i p
unfolding tidy_graph
tidier_refuses g n i p = tests_alone (tidy_tests g n) (Ok (tidy_text g)) i p (tidy_text g) refl

index_builder_refuses : (g : Graph) (n : ℕ) (i p : ℕ) → Refuses (build_index g n) i p ↔ Refusing (build_tests g n) i p
unfolding build_index
index_builder_refuses g n i p = tests_alone (build_tests g n) (Ok (index_of g)) i p (index_of g) refl

index_tester_refuses : (g : Graph) (index : List ℕ) (i p : ℕ) → Refuses (test_index g index) i p ↔ Refusing (index_tests g index) i p
unfolding test_index
index_tester_refuses g index i p = (λ e. e, λ e. e)

assignment_writer_refuses : (g : Graph) (bound : List ℤ) (n : ℕ) (i p : ℕ) → Refuses (write_assignment g bound n) i p ↔ Refusing (assignment_tests g bound n) i p
unfolding write_assignment
assignment_writer_refuses g bound n i p = tests_alone (assignment_tests g bound n) (Ok (assignment_text g)) i p (assignment_text g) refl

assignment_reader_refuses : (r c w b : ℕ) (text : List ℕ) (i p : ℕ) → Refuses (read_assignment r c w b text) i p ↔
    (Refusing (assignment_reader_tests r c w b text) i p ⊎ (Passing (assignment_reader_tests r c w b text) × Refuses (read_arcs text) i p))
unfolding read_assignment
assignment_reader_refuses r c w b text i p = refused_just (assignment_reader_tests r c w b text) (read_arcs text) i p

pub refused-just-where-listed : RefusedJustWhereListed
refused-just-where-listed = record {
  solver = solver_refuses;
  general_pricer = general-pricer_refuses;
  measuring = measuring-refuses;
  writer = writer_refuses;
  tidier = tidier_refuses;
  index_builder = index_builder_refuses;
  index_tester = index_tester_refuses;
  graph_reader = graph_reader_refuses;
  number_reader = number_reader_refuses;
  subgraph_reader = subgraph_reader_refuses;
  assignment_writer = assignment_writer_refuses;
  assignment_reader = assignment_reader_refuses;
}

-- ---- Demand 3

pub solver-certifies : SolverCertifies
solver-certifies g bound index lent S workspace L e =
    let D = L.solved e in
    record {
      vertex_range = D.vertex_range;
      edge_range = D.edge_range;
      covering = D.covering;
      exact = λ y F. let c = certified L e y F in (c.numbers, c.measured, c.gap_is_zero);
    }

-- What has passed, as the laws of measuring take it, and back.
pub passing-passed : {g : Graph} → Passing (once LentLength (graph_lengths g) ∷ graph_tests g) → Passed g
passing-passed {g} p =
    let w = once-yields LentLength (graph_lengths g) (graph_tests g) (Ok tt) tt p in
    graph_passed g w.0 (passes (graph_tests g) (Ok tt) tt w.1).0

pub passed_accepted : {g : Graph} {bound : List ℤ} → Passed g → Bounded (vertices g) bound → Accepts g bound
passed_accepted {g} {bound} P B =
    record { graph = passed_passing P; bound_long = B.long; bounds = pass (bound_test g bound ∷ []) (bounds_test g bound B) (Ok tt) }

accepted_graph : {g : Graph} {bound : List ℤ} → Accepts g bound → Passed g
accepted_graph A = passing-passed A.graph

accepted_bounds : {g : Graph} {bound : List ℤ} → Accepts g bound → Bounded (vertices g) bound
accepted_bounds {g} {bound} A = bounds_passed g bound A.bound_long (passes (bound_test g bound ∷ []) (Ok tt) tt A.bounds).0

covering_prices : {g : Graph} {bound : List ℤ} {P : Prices} → Covers g bound P → Priced g bound P
covering_prices C = record {
  lengths = record { vertex = C.vertex_long; edge = C.edge_long; set = C.set_long; set_vertices = C.vertex_words_long; set_edges = C.edge_words_long };
  vertex_range = λ v l. between-true (pos 0) (pos greatest_price) _ (C.vertex_range v l);
  edge_range = λ e l. between-true (pos 0) (pos greatest_price) _ (C.edge_range e l);
  set_range = λ s l. between-true (pos 0) (pos greatest_price) _ (C.set_range s l);
  few_sets = C.few_sets;
  rules = C.rules;
  covering = C.covering;
}

pub measured-means : MeasuredMeans
measured-means g bound x P A F C =
    let taken = measure-takes (accepted_graph A) (accepted_bounds A) F (covering_prices C) in
    (measures g bound x P, taken, measured taken)

-- No edge chosen is feasible.
none_chosen : (g : Graph) (bound : List ℤ) → Accepts g bound → Feasible g bound (replicate g.edges 0)
none_chosen g bound A = record {
  long = length-replicate g.edges 0;
  marks = λ e l. omega (arith, unmarked e l);
  within = λ v l. unused v ((accepted_bounds A).range v l).0;
}
  where
    unmarked : (e : ℕ) → e < g.edges → mark_at (replicate g.edges 0) e ≡ 0
    unmarked e l = get_or-replicate g.edges e 0 0 l

    unused : (v : ℕ) → pos 0 ≤ℤ bound_at bound v → pos (degree g (replicate g.edges 0) v) ≤ℤ bound_at bound v
    unused v least =
        let e : degree g (replicate g.edges 0) v ≡ 0 =
        sum-none g.edges (λ e. mark_at (replicate g.edges 0) e * ends_at g v e) (λ e l. omega (arith, ap (λ k. k * ends_at g v e) (unmarked e l))) in
        rw e least

pub optimum-exists : OptimumExists
optimum-exists = record {
  some = λ g bound A. some_optimal g bound (replicate g.edges 0) (none_chosen g bound A);
  same = λ g bound x y z X Y. ap (λ w. w -ℤ weight_of g z) (≤ℤ-antisym (Y.most x X.feasible) (X.most y Y.feasible));
}

-- ---- Request U1

pub index-laid-out : IndexLaidOut
index-laid-out g index e = let p = index_tested g index e in subst (LaidOut g) (sym p.is) (laid_out g p.passed.sound)

pub index-lists-edges : IndexListsEdges
index-lists-edges g index e = let p = index_tested g index e in subst (ListsEdges g) (sym p.is) (lists_edges g p.passed.sound)

built_passes : (g : Graph) (n : ℕ) (index : List ℕ) → build_index g n ≡ Ok index → test_index g index ≡ Ok tt
unfolding test_index
built_passes g n index e =
    let p = index_built g n index e in
    let long = eq-eqb (length index) (index_numbers g) (p.long ∙ p.lent) in
    pass (index_tests g index) (λ k l. p.lengths also long, passes_join (graph_tests g) (index_test g index ∷ []) p.tests (given_index g index p.is))
    (Ok tt)

passed_built : (g : Graph) (index : List ℕ) → test_index g index ≡ Ok tt → build_index g (length index) ≡ Ok index
unfolding build_index
passed_built g index e =
    let p = index_tested g index e in
    pass (build_tests g (length index)) (λ k l. p.lengths also eq-eqb (length index) (index_numbers g) p.lent, p.tests) (Ok (index_of g))
    ∙ ap (λ (xs : List ℕ). Ok xs) (sym p.is)

pub one_index : OneIndex
one_index = record {
  passes = built_passes;
  only = passed_built;
  other = tester_refuses;
  solver_only = taken-built;
  solver_other = λ g bound index other lent e. solver_refuses_other g bound index lent e other;
}
