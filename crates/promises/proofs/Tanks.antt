-- The promises of request U8 are kept.
use Rattle.std.specs.Prelude.{Ok}
use Prim.Native.Nat.{ℕ, ◌+◌, ◌<◌}
use mathlib.Core.Path.{◌≡◌, refl, sym, ap, ap₂, ◌∙◌, subst}
use mathlib.Core.Bool.{Bool, true}
use mathlib.Core.List.{List, [], ◌∷◌}
use native.Mathlib.Omega.{arith}
use borrow.Author.Tests.{eq-eqb}
use lib.IntN.{ℤ, pos}
use lib.ListN.{length, get_or, take, drop, take-append-drop}
use Rattle.integers.proofs.Order.{order, ≤ℤ-antisym, le-between}
use Rattle.graph.specs.declared.Fault.TheVariants.{NotDoubled}
use Rattle.graph.specs.Limits.{longest_text}
use Rattle.graph.specs.Graph.{Graph, vertices, price_in_range}
use Rattle.graph.specs.Subgraph.{Feasible}
use Rattle.graph.specs.Doubled.{doubled}
use Rattle.layout.specs.declared.Numbers.TheVariants as Numbers
use Rattle.layout.specs.Text.{bytes, digits, spaced, unlines}
use Rattle.layout.specs.NumberText.{read_numbers, number_text}
use Rattle.layout.specs.SubgraphText.{read_subgraph}
use Rattle.dual.specs.declared.Measures.{Measures}
use Rattle.dual.specs.Measure.{measure, measures}
use Rattle.dual.specs.Solve.{without_sets}
use Rattle.duality.specs.Meaning.{Meaning}
use Rattle.duality.proofs.Passed.{PriceRange, unset_priced, together, measure-takes}
use Rattle.duality.proofs.Measured.{measured}
use Rattle.doubling.specs.Doublable.{Doublable}
use Rattle.doubling.proofs.Doubled.{general-vertices, doubled-passed, doubled-bounded}
use Rattle.doubling.proofs.Tested.{general-passed, general-takes, undoubled_refused}
use Rattle.doubling.proofs.Prices.{SolverRange, vertex-range, edge-range, priced_covers, total_weight}
use Rattle.doubling.proofs.Twice.{twice_weight}
use Rattle.readback.proofs.NumbersBack.{numbers_back}
use Rattle.report.specs.declared.Source.TheVariants as Source
use Rattle.report.specs.Report.{refused_line, measured_line, composed_bytes, composed_length}
use Rattle.report.specs.Programs.{Run, has, ends, came_from, and_then, written, Problem, problem_in, prices_from, mark_output}
use Rattle.report.specs.Programs.{price_problem, price_output, PricesPicked}
use Rattle.promises.specs.Promises.{DoubledPasses, TankPricesCover, TwiceTheBest, TankPlansMeasured, TankSheet, PriceTanksWrites}
use Rattle.promises.proofs.Solver.{lent-right, solver_takes}
use Rattle.promises.proofs.Kept.{passed_accepted}
use Rattle.promises.proofs.Programs.{problem_passed, problem_bounded, prices_long, mark-writes}

-- ---- the call

pub doubled-passes : DoubledPasses
doubled-passes = record {
  accepted = λ g bound v e h.
      let G = general-passed g bound v e h in
      let D = G.doublable in
      passed_accepted (doubled-passed D) (doubled-bounded D G.bounded);
  solved = λ g bound v e h n index built.
      let G = general-passed g bound v e h in
      let D = G.doublable in
      solver_takes (doubled-passed D) (doubled-bounded D G.bounded) (lent-right (doubled g)) refl n index built;
}

pub tank-prices-cover : TankPricesCover
tank-prices-cover g bound v e vertex edge L h =
    let G = general-passed g bound v e h in
    let D = G.doublable in
    let F = (L.priced h).from in
    let x = (L.priced h).solution.chosen in
    let X = F.solved.optimal in
    record {
      vertex_range = vertex-range D F;
      edge_range = edge-range D F;
      covering = priced_covers D F;
      best = (x, X);
      total = λ y Y. total_weight D F G.bounded.long ∙ ≤ℤ-antisym (Y.most x X.feasible) (X.most y Y.feasible);
    }

pub twice-the-best : TwiceTheBest
twice-the-best g bound v e h x X y Y = let G = general-passed g bound v e h in twice_weight G.doublable G.bounded.long X Y

-- A price in the solver's range is in range.
price_range : {z : ℤ} → SolverRange z → PriceRange z
price_range p = (p.0, omega (order, p.1))

price_passes : {z : ℤ} → SolverRange z → price_in_range z ≡ true
price_passes p = let r = price_range p in le-between r.0 r.1

pub tank-plans-measured : TankPlansMeasured
tank-plans-measured g bound v e vertex edge L h y Y =
    let G = general-passed g bound v e h in
    let D = G.doublable in
    let F = (L.priced h).from in
    let P =
    unset_priced (L.vertex_long ∙ G.vertex_long) (L.edge_long ∙ G.edge_long) (λ u l. price_range (vertex-range D F u l))
    (λ k l. price_range (edge-range D F k l)) (priced_covers D F) in
    let taken = measure-takes D.passed G.bounded Y P in
    (measures g bound y (without_sets vertex edge), taken, measured taken)

-- ---- `price_tanks`

-- What it writes, by what the two files come to.
price_by : (sheet limits : List ℕ) (prices : List ℤ) (q : Run Problem) → problem_in sheet limits ≡ q →
    price_output sheet limits prices ≡ written (λ u. number_text prices) (and_then q (λ P. price_problem P.graph P.bound))
unfolding price_output
price_by sheet limits prices q e = ap (λ (r : Run Problem). written (λ u. number_text prices) (and_then r (λ P. price_problem P.graph P.bound))) e

module _ (sheet limits : List ℕ) (P : Problem) (e : problem_in sheet limits ≡ has P) where
  abbrev tank : Graph
  tank = P.graph

  -- Where both are read, by what the call's run comes to.
  prices_written : (prices : List ℤ) (r : Run (Unit {0})) → price_problem tank P.bound ≡ r →
      price_output sheet limits prices ≡ written (λ u. number_text prices) r
  prices_written prices r is = price_by sheet limits prices (has P) e ∙ ap (λ (q : Run (Unit {0})). written (λ u. number_text prices) q) is

  other_written : (prices : List ℤ) → (TankSheet tank → ⊥) → price_output sheet limits prices ≡ refused_line Source.Input NotDoubled 0
  other_written prices never =
      prices_written prices (ends Source.Input NotDoubled 0)
      (ap (came_from Source.Input)
      (undoubled_refused (problem_passed sheet limits P e) (problem_bounded sheet limits P e)
      (λ D. never (record { one_sided = D.general; few = D.few; few_edges = D.few_edges }))))

  module _ (T : TankSheet tank) where
    tank_doublable : Doublable tank
    tank_doublable = record { passed = problem_passed sheet limits P e; general = T.one_sided; few = T.few; few_edges = T.few_edges }

    tank_taken : price_problem tank P.bound ≡ has tt
    tank_taken = ap (came_from Source.Input) (general-takes tank_doublable (problem_bounded sheet limits P e))

    module _ (prices : List ℤ) (C : PricesPicked sheet limits prices) where
      tank_long : length prices ≡ vertices tank + tank.edges
      tank_long = C.long P e tank_taken

      tank_range : (k : ℕ) → k < length prices → price_in_range (get_or prices k (pos 0)) ≡ true
      tank_range =
          let n = vertices tank in
          let F = (C.priced P e tank_taken).from in
          let D = tank_doublable in
          let long = prices_long tank prices tank_long in
          subst (λ (zs : List ℤ). (k : ℕ) → k < length zs → price_in_range (get_or zs k (pos 0)) ≡ true) (take-append-drop n prices)
          (together (λ z. price_in_range z ≡ true) (take n prices) (drop n prices) (λ v l. price_passes (vertex-range D F v (omega (arith, long.0))))
          (λ k l. price_passes (edge-range D F k (omega (arith, long.1)))))

      tank_written : price_output sheet limits prices ≡ number_text prices
      tank_written = prices_written prices (has tt) tank_taken

      tank_reads : read_numbers Numbers.Prices (vertices tank + tank.edges) (vertices tank + tank.edges) (price_output sheet limits prices) ≡ Ok prices
      tank_reads =
          let D = tank_doublable in
          ap₂ (λ (n : ℕ) (text : List ℕ). read_numbers Numbers.Prices n n text) (sym tank_long) tank_written
          ∙ numbers_back Numbers.Prices prices (omega (arith, tank_long, general-vertices D, D.passed.sound.sizes.rows.least))
          (omega (arith, tank_long, general-vertices D, D.few, D.few_edges)) tank_range

      tank_marked : (plan x : List ℕ) → read_subgraph tank tank.edges plan ≡ Ok x → Feasible tank P.bound x →
          (M : Measures) × (measure tank P.bound x (prices_from tank prices) ≡ Ok M) × Meaning tank P.bound x (prices_from tank prices) M
          × (mark_output sheet limits plan (price_output sheet limits prices) ≡ measured_line M)
      tank_marked plan x read F =
          mark-writes sheet limits plan (price_output sheet limits prices) P x prices (record { problem_read = e; plan_read = read; prices_read = tank_reads }) F
          (priced_covers tank_doublable (C.priced P e tank_taken).from)

-- The refusal 24 in bytes.
line_24 : refused_line Source.Input NotDoubled 0 ≡ unlines (bytes "refused 24 at 0 in input" ∷ [])
unfolding refused_line digits spaced unlines
line_24 = refl

pub price-tanks-writes : PriceTanksWrites
price-tanks-writes = record {
  taken = tank_taken;
  written = λ sheet limits prices P e T C. tank_written sheet limits P e T prices C;
  reads = λ sheet limits prices P e T C. tank_reads sheet limits P e T prices C;
  marked = λ sheet limits plan x prices P e T C. tank_marked sheet limits P e T prices C plan x;
  left = λ sheet limits before after r P e T C long.
      let room = eq-eqb (length before) longest_text long in
      let zs = C.prices in
      let picked = C.picked room in
      let text = tank_written sheet limits P e T zs picked in (
        zs,
        picked,
        C.composed.content ∙ ap₂ (λ (b : Bool) (n : ℕ). composed_bytes b n (price_output sheet limits zs)) room long
            ∙ ap (composed_bytes true longest_text) text,
        C.composed.size ∙ ap (λ (b : Bool). composed_length b (price_output sheet limits zs)) room ∙ ap length text,
      );
  other = λ sheet limits prices P e never. other_written sheet limits P e prices never;
  line24 = line_24;
  refused = λ sheet limits prices file f place e. price_by sheet limits prices (ends file f place) e;
}
