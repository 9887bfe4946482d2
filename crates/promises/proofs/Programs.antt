-- The promises of the two programs are kept.
use Rattle.std.specs.Prelude.{Ok, Err}
use Prim.Native.Nat.{ℕ, ◌+◌, ◌<◌}
use mathlib.Core.Path.{◌≡◌, refl, sym, ap, ap₂, ◌∙◌, subst}
use mathlib.Core.Bool.{Bool}
use mathlib.Core.List.{List, [], ◌∷◌}
use native.Mathlib.Omega.{arith}
use borrow.Author.Tests.{eq-eqb}
use lib.IntN.{ℤ, pos}
use lib.ListN.{length, get_or, take, drop, length-drop}
use lib.Seq.{length-take-le, get_or-take, get_or-drop}
use lib.Signed.{◌≤ℤ◌}
use Rattle.integers.proofs.Order.{between-true}
use Rattle.graph.specs.declared.Kind.TheVariants.{Bipartite, General}
use Rattle.graph.specs.declared.Fault.TheVariants.{NotBipartite}
use Rattle.graph.specs.Limits.{most_vertices, most_edges, subgraph_bytes, greatest_bound, greatest_price}
use Rattle.graph.specs.Refusal.{Outcome, refuses}
use Rattle.graph.specs.Graph.{Graph, vertices, bound_at}
use Rattle.graph.specs.Index.{index_of, index_numbers}
use Rattle.graph.specs.Passed.{Passed, Bounded}
use Rattle.graph.proofs.Passing.{zero_one}
use Rattle.graph.proofs.Index.{index_built}
use Rattle.layout.specs.declared.Rules.TheVariants.{New}
use Rattle.layout.specs.declared.Numbers.TheVariants as Numbers
use Rattle.layout.specs.Text.{bytes, digits, spaced, unlines}
use Rattle.layout.specs.GraphText.{read_graph}
use Rattle.layout.specs.NumberText.{read_numbers}
use Rattle.layout.specs.SubgraphText.{read_subgraph, subgraph_text}
use Rattle.dual.specs.declared.Measures.{Measures}
use Rattle.dual.specs.Gap.{worth_at, cover_of}
use Rattle.dual.specs.Measure.{measure, measures}
use Rattle.dual.specs.Solve.{solve}
use Rattle.duality.proofs.Passed.{PriceRange, Priced, unset_priced, measure-takes}
use Rattle.duality.proofs.Measured.{measured}
use Rattle.readback.proofs.Accepted.{Accepted}
use Rattle.readback.proofs.ReadBack.{text_back}
use Rattle.patterns.proofs.NumbersHeld.{NumbersHeld, numbers_held}
use Rattle.report.specs.declared.Source.{Source}
use Rattle.report.specs.declared.Source.TheVariants as Source
use Rattle.report.specs.Report.{refused_line, measured_line, composed_bytes, composed_length}
use Rattle.report.specs.Programs.{Run, has, ends, came_from, and_then, written, Problem, read_bounds, read_problem, problem_in, lent_for}
use Rattle.report.specs.Programs.{prices_from, mark_prices, mark_plan, mark_problem, mark_output, solve_indexed, solve_problem, solve_output, Picked}
use Rattle.promises.specs.Promises.{ReadAs, WritesBest, SolveWrites, MarkReads, MarkWrites}
use Rattle.promises.proofs.Solver.{lent-right, general-refused, solver_takes, index_builds}
use Rattle.promises.proofs.Tidied.{sheet-passed}

-- ---- what a program has come to

came : {A : Type 0} (source : Source) (o : Outcome A) (a : A) → came_from source o ≡ has a → o ≡ Ok a
came source (Ok b) a e = ap Ok (let q : b ≡ a = cc in q)
came source (Err refusal) a e = zero_one (cc)

then_has : {A B : Type 0} (r : Run A) (next : A → Run B) (b : B) → and_then r next ≡ has b → (a : A) × (r ≡ has a) × (next a ≡ has b)
then_has (has a) next b e = (a, refl, e)
then_has (ends source f p) next b e = zero_one (cc)

-- ---- the problem

-- A problem is read of two texts: its graph is that of the sheet, and its bounds are the numbers of the limits.
pub record ProblemRead (sheet limits : List ℕ) (P : Problem) : Type 0 where
  pub graph : ReadAs sheet P.graph
  pub bounds : read_numbers Numbers.Bounds (vertices P.graph) (vertices P.graph) limits ≡ Ok P.bound

module _ (sheet limits : List ℕ) (P : Problem) where
  abbrev with_bound : Graph → List ℤ → Run Problem
  with_bound g bound = has (record { graph = g; bound = bound })

  abbrev with_limits : Graph → Run Problem
  with_limits g = and_then (came_from Source.Limits (read_bounds most_vertices (vertices g) limits)) (with_bound g)

  pub read-problem : ProblemRead sheet limits P → problem_in sheet limits ≡ has P
  unfolding read_problem
  read-problem R =
      ap (λ (o : Outcome Graph). and_then (came_from Source.Sheet o) with_limits) R.graph
      ∙ ap (λ (o : Outcome (List ℤ)). and_then (came_from Source.Limits o) (with_bound P.graph)) R.bounds

  problem-read : problem_in sheet limits ≡ has P → ProblemRead sheet limits P
  unfolding read_problem
  problem-read e =
      let a = then_has (came_from Source.Sheet (read_graph most_edges most_edges most_edges sheet)) with_limits P e in
      let g = a.0 in
      let b = then_has (came_from Source.Limits (read_bounds most_vertices (vertices g) limits)) (with_bound g) P a.2 in
      let is : record { graph = g; bound = b.0 } ≡ P = let h = b.2 in cc in
      subst (ProblemRead sheet limits) is (record {
        graph = came Source.Sheet (read_graph most_edges most_edges most_edges sheet) g a.1;
        bounds = came Source.Limits (read_bounds most_vertices (vertices g) limits) b.0 b.1;
      })

module _ (sheet limits : List ℕ) (P : Problem) (e : problem_in sheet limits ≡ has P) where
  pub problem_passed : Passed P.graph
  problem_passed = sheet-passed sheet P.graph (problem-read sheet limits P e).graph

  pub problem_bounded : Bounded (vertices P.graph) P.bound
  problem_bounded =
      let n = vertices P.graph in
      let H = numbers_held New Numbers.Bounds n n limits P.bound (problem-read sheet limits P e).bounds in
      record { long = H.long; range = λ v l. between-true (pos 0) (pos greatest_bound) (bound_at P.bound v) (H.range v l) }

-- ---- `solve`

-- The solver's run on a problem: the index is built, and the rest is the solver's.
solve-runs : {g : Graph} → Passed g → (bound : List ℤ) → solve_problem g bound ≡ came_from Source.Input (solve g bound (index_of g) (lent_for g))
solve-runs {g} S bound = ap (λ (o : Outcome (List ℕ)). and_then (came_from Source.Input o) (solve_indexed g bound)) (index_builds S)

-- What it writes, by what the two files come to.
solve-by : (sheet limits x : List ℕ) (q : Run Problem) → problem_in sheet limits ≡ q → solve_output sheet limits x
    ≡ written (λ (g : Graph). subgraph_text g x) (and_then q (λ P. and_then (solve_problem P.graph P.bound) (λ u. has P.graph)))
unfolding solve_output
solve-by sheet limits x q e =
    ap (λ (r : Run Problem). written (λ (g : Graph). subgraph_text g x) (and_then r (λ P. and_then (solve_problem P.graph P.bound) (λ u. has P.graph)))) e

module _ (sheet limits : List ℕ) (P : Problem) (e : problem_in sheet limits ≡ has P) where
  abbrev graph : Graph
  graph = P.graph

  solves : graph.kind ≡ Bipartite → solve_problem graph P.bound ≡ has tt
  solves kind =
      let S = problem_passed sheet limits P e in
      solve-runs S P.bound
      ∙ ap (came_from Source.Input)
      (solver_takes S (problem_bounded sheet limits P e) (lent-right graph) kind (index_numbers graph) (index_of graph) (index_builds S))

  module _ (x : List ℕ) where
    -- Where both are read, by what the solver's run comes to.
    writes : (r : Run (Unit {0})) → solve_problem graph P.bound ≡ r →
        solve_output sheet limits x ≡ written (λ (g : Graph). subgraph_text g x) (and_then r (λ u. has graph))
    writes r is =
        solve-by sheet limits x (has P) e
        ∙ ap (λ (q : Run (Unit {0})). written (λ (g : Graph). subgraph_text g x) (and_then q (λ u. has graph))) is

    plan_written : graph.kind ≡ Bipartite → Picked sheet limits x → WritesBest graph P.bound x (solve_output sheet limits x)
    plan_written kind picked =
        let best = picked.optimal P e (solves kind) in
        let F = best.feasible in
        let text = writes (has tt) (solves kind) in
        let a : Accepted graph x = record { passed = problem_passed sheet limits P e; marks = record { long = F.long; each = F.marks } } in
        record {
          best = best;
          written = text;
          reads = ap₂ (read_subgraph graph) (sym F.long) text ∙ text_back a;
        }

    general-written : graph.kind ≡ General → solve_output sheet limits x ≡ refused_line Source.Input NotBipartite 0
    general-written kind =
        let S = problem_passed sheet limits P e in
        let I = index_built graph (index_numbers graph) (index_of graph) (index_builds S) in
        writes (ends Source.Input NotBipartite 0)
        (solve-runs S P.bound
        ∙ ap (came_from Source.Input) (general-refused S (problem_bounded sheet limits P e) (lent-right graph) (index_of graph) I.long kind))

-- The refusal 16 in bytes.
line_16 : refused_line Source.Input NotBipartite 0 ≡ unlines (bytes "refused 16 at 0 in input" ∷ [])
unfolding refused_line digits spaced unlines
line_16 = refl

pub solve-writes : SolveWrites
solve-writes = record {
  taken = solves;
  plan = λ sheet limits x P e kind picked. plan_written sheet limits P e x kind picked;
  left = λ sheet limits before after r P e kind C long.
      let room = eq-eqb (length before) subgraph_bytes long in
      let x = C.chosen in
      let text = solve_output sheet limits x in
      record {
        plan = x;
        text = text;
        writes = plan_written sheet limits P e x kind (C.picked room);
        content = C.composed.content ∙ ap₂ (λ (b : Bool) (n : ℕ). composed_bytes b n text) room long;
        size = C.composed.size ∙ ap (λ (b : Bool). composed_length b text) room;
      };
  one_sided = λ sheet limits x P e kind. general-written sheet limits P e x kind;
  line16 = line_16;
  refused = λ sheet limits x file f place e. solve-by sheet limits x (ends file f place) e;
}

-- ---- `mark`

-- How many of the prices that are read are those of vertices, and of edges.
pub prices_long : (g : Graph) (zs : List ℤ) → length zs ≡ vertices g + g.edges →
    (length (take (vertices g) zs) ≡ vertices g) × (length (drop (vertices g) zs) ≡ g.edges)
prices_long g zs long = (length-take-le (vertices g) zs (omega arith), omega (arith, length-drop (vertices g) zs))

-- Those that are read pass, where they cover every edge.
prices_priced : (g : Graph) (bound zs : List ℤ) → NumbersHeld New Numbers.Prices (vertices g + g.edges) zs →
    ((e : ℕ) → e < g.edges → worth_at g e ≤ℤ cover_of g (prices_from g zs) e) → Priced g bound (prices_from g zs)
prices_priced g bound zs H covering =
    let long = prices_long g zs H.long in
    unset_priced long.0 long.1
    (λ v l. rw (get_or-take (vertices g) zs v (pos 0) l) (range v (omega arith)))
    (λ e l. rw (get_or-drop (vertices g) zs e (pos 0)) (range (vertices g + e) (omega arith)))
    covering
  where
    range : (k : ℕ) → k < vertices g + g.edges → PriceRange (get_or zs k (pos 0))
    range k l = between-true (pos 0) (pos greatest_price) (get_or zs k (pos 0)) (H.range k l)

module _ (sheet limits plan prices : List ℕ) (P : Problem) (x : List ℕ) (zs : List ℤ) (R : MarkReads sheet limits plan prices P x zs) where
  -- What it writes, by what the measuring call yields.
  mark_writes_line : (M : Measures) → measure P.graph P.bound x (prices_from P.graph zs) ≡ Ok M → mark_output sheet limits plan prices ≡ measured_line M
  unfolding mark_output
  mark_writes_line M is =
      ap (λ (q : Run Problem). written measured_line (and_then q (λ Q. mark_problem Q.graph Q.bound plan prices))) R.problem_read
      ∙ ap (λ (o : Outcome (List ℕ)). written measured_line (and_then (came_from Source.Plan o) (λ y. mark_plan P.graph P.bound y prices))) R.plan_read
      ∙ ap (λ (o : Outcome (List ℤ)). written measured_line (and_then (came_from Source.Prices o) (mark_prices P.graph P.bound x))) R.prices_read
      ∙ ap (λ (o : Outcome Measures). written measured_line (came_from Source.Input o)) is

pub mark-writes : MarkWrites
mark-writes sheet limits plan prices P x zs R F covering =
    let g = P.graph in
    let e = R.problem_read in
    let k = vertices g + g.edges in
    let H = numbers_held New Numbers.Prices k k prices zs R.prices_read in
    let taken = measure-takes (problem_passed sheet limits P e) (problem_bounded sheet limits P e) F (prices_priced g P.bound zs H covering) in
    let M = measures g P.bound x (prices_from g zs) in
    (M, taken, measured taken, mark_writes_line sheet limits plan prices P x zs R M taken)
