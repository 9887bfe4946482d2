-- What the measuring call's numbers mean, and that the solver's prices certify its subgraph.
use Rattle.std.specs.Prelude.{Ok}
use Prim.Native.Nat.{ℕ}
use mathlib.Core.Path.{◌≡◌, refl, sym, ap, ◌∙◌, subst}
use mathlib.Core.List.{List}
use lib.IntN.{ℤ, pos, ◌-ℤ◌}
use lib.ListN.{length}
use Rattle.integers.specs.Integer.{up, dn}
use Rattle.integers.proofs.Order.{up-diff, up-times, ≤ℤ-antisym, order}
use Rattle.graph.specs.Graph.{Graph, vertices}
use Rattle.graph.specs.Subgraph.{Feasible, Optimal, weight_of, lacks}
use Rattle.dual.specs.declared.Measures.{Measures}
use Rattle.dual.specs.Prices.{Prices}
use Rattle.dual.specs.Gap.{half_points, total_of, gap_of}
use Rattle.dual.specs.Measure.{measure, measures}
use Rattle.dual.specs.Solve.{Lent, Outputs, solve, solver_prices, SolverPrice, Solved, Left}
use Rattle.duality.proofs.Conditions.{Incident, DualFeasible}
use Rattle.duality.specs.Meaning.{Meaning, Certified}
use Rattle.duality.proofs.Passed.{passed_incident, PriceRange, Priced, unset_priced, priced_dual, measure-passed, measure-takes, solve-passed}
use Rattle.duality.proofs.Duality.{slacks_add, within-capacity, vertex_slack-nonneg, set_slack-nonneg, edge_slack-nonneg, cover_slack-nonneg}
use Rattle.duality.proofs.Duality.{gap_bound, no_gap}

-- ---- differences, in half points

same_total : (t a b : ℤ) → t -ℤ half_points a ≡ pos 0 → t -ℤ half_points b ≡ half_points (a -ℤ b)
same_total t a b e =
    omega (
      order,
      ap up e,
      ap dn e,
      up-diff t (half_points a),
      up-diff t (half_points b),
      up-diff a b,
      up-times 2 a,
      up-times 2 b,
      up-times 2 (a -ℤ b),
    )

diff_zero : (a b : ℤ) → half_points (a -ℤ b) ≡ pos 0 → a ≡ b
diff_zero a b e = omega (order, ap up e, ap dn e, up-diff a b, up-times 2 (a -ℤ b))

zero_diff : (a b : ℤ) → a ≡ b → half_points (a -ℤ b) ≡ pos 0
zero_diff a b e = omega (order, ap up e, ap dn e, up-diff a b, up-times 2 (a -ℤ b))

-- ---- the numbers

-- What the measuring call yields has its meaning.
pub measured : {g : Graph} {bound : List ℤ} {x : List ℕ} {P : Prices} {M : Measures} → measure g bound x P ≡ Ok M → Meaning g bound x P M
measured {g} {bound} {x} {P} {M} e =
    let p = measure-passed e in
    let E : Incident g = passed_incident p.passed in
    let F : Feasible g bound x = p.feasible in
    let D : DualFeasible g bound P = priced_dual p.priced in
    subst (Meaning g bound x P) (sym p.numbers)
    (record {
      numbers = refl;
      feasible = F;
      vertex_slack = vertex_slack-nonneg F D;
      set_slack = set_slack-nonneg F D E;
      edge_slack = edge_slack-nonneg F D;
      cover_slack = cover_slack-nonneg F D;
      slacks = sym (slacks_add E bound x P F.marks);
      lack = λ y G. gap_bound E D G x;
      sets = λ s l y G. within-capacity E G P.marks s (D.rules s l);
    })

-- A subgraph with measured gap 0 is optimal, in either kind of graph.
pub no_gap_optimal : {g : Graph} {bound : List ℤ} {x : List ℕ} (P : Prices) {M : Measures} → measure g bound x P ≡ Ok M → M.gap ≡ pos 0 → Optimal g bound x
no_gap_optimal P e none =
    let p = measure-passed e in
    no_gap (passed_incident p.passed) (priced_dual p.priced) p.feasible (ap (λ (N : Measures). N.gap) (sym p.numbers) ∙ none)

-- ---- the solver's prices

solver_price : {z : ℤ} → SolverPrice z → PriceRange z
solver_price p = (p.least, omega (order, p.greatest))

-- The solver's prices pass the measuring call's tests.
solved_priced : {g : Graph} {bound : List ℤ} {S : Outputs} → length S.vertex_prices ≡ vertices g → length S.edge_prices ≡ g.edges →
    Solved g bound S → Priced g bound (solver_prices S)
solved_priced vertex_long edge_long D =
    unset_priced vertex_long edge_long (λ v l. solver_price (D.vertex_range v l)) (λ e l. solver_price (D.edge_range e l)) D.covering

-- The solver's prices certify its subgraph: against them a feasible subgraph has gap 0 just where it weighs as much.
pub certified : {g : Graph} {bound : List ℤ} {index : List ℕ} {lent : Lent} {S : Outputs} {workspace : List ℤ} → Left g bound index lent S workspace →
    solve g bound index lent ≡ Ok tt → (y : List ℕ) → Feasible g bound y → Certified g bound S y
certified {g} {bound} {index} {lent} {S} L e y F =
    let a = solve-passed g bound index lent e in
    let D = L.solved e in
    let P = solver_prices S in
    let x = S.chosen in
    let taken = measure-takes a.passed a.bounded F (solved_priced (L.vertex_long ∙ a.vertex_long) (L.edge_long ∙ a.edge_long) D) in
    let exact : gap_of g bound y P ≡ half_points (lacks g x y) = same_total (total_of g bound P) (weight_of g x) (weight_of g y) D.gap_is_zero in
    record {
      numbers = measures g bound y P;
      measured = taken;
      exact = exact;
      gap_is_zero = (λ none. sym (diff_zero (weight_of g x) (weight_of g y) (sym exact ∙ none)), λ same. exact ∙ zero_diff (weight_of g x) (weight_of g y) (sym same));
      optimal = (
        no_gap_optimal P taken,
        λ best. exact ∙ zero_diff (weight_of g x) (weight_of g y) (≤ℤ-antisym (best.most x D.optimal.feasible) (D.optimal.most y F)),
      );
    }
