-- The promises of request U5 are kept.
use Prim.Native.Nat.{ℕ, ◌-◌}
use mathlib.Core.Path.{◌≡◌, refl, sym, ap, ◌∙◌}
use mathlib.Core.Bool.{Bool, true, false}
use mathlib.Core.List.{List, map}
use lib.IntN.{ℤ, pos, ◌-ℤ◌, ◌*ℤ◌}
use lib.ListN.{get_or, get_or-map}
use lib.Signed.{◌≤ℤ◌, le_z}
use Rattle.integers.specs.Integer.{up, dn}
use Rattle.integers.specs.Sum.{sumℤ}
use Rattle.integers.proofs.Order.{order, up-diff, up-times, nonneg, times_nonneg, le_z_true, le_z_false, between-true, le-between}
use Rattle.graph.specs.Limits.{greatest_price, greatest_old_price}
use Rattle.graph.specs.Graph.{Graph, vertices, first_end, second_end, weight_at, bound_at, price_in_range}
use Rattle.graph.specs.Subgraph.{mark_at, weight_of, degree}
use Rattle.layout.specs.declared.Rules.TheVariants.{Old}
use Rattle.layout.specs.declared.Numbers.TheVariants as Numbers
use Rattle.layout.specs.NumberText.{in_range}
use Rattle.dual.specs.declared.Measures.{Measures}
use Rattle.dual.specs.Prices.{Prices}
use Rattle.dual.specs.Sets.{one, covers, capacity}
use Rattle.dual.specs.Gap.{half_points, worth_at, cover_of, total_of, gap_of, vertex_slack, set_slack, edge_slack, cover_slack, chosen_covered}
use Rattle.dual.specs.Solve.{SolverPrice}
use Rattle.duality.proofs.HalfPoints.{Half, half_self, half_add, half_diff, half_times, times_half, half_sum}
use Rattle.duality.proofs.Passed.{measure-passed}
use Rattle.duality.proofs.Measured.{measured, certified}
use Rattle.promises.specs.Promises.{CountedInHalfPoints, EvenPrice, SolverPricesEven, TwiceWhatIsLacking, in_half_points, StoredPricesDoubled}

pub counted-in-half-points : CountedInHalfPoints
counted-in-half-points = record {
  reached = λ g bound x P M e. (measure-passed e).priced.covering;
  gap = λ g bound x P M e.
      let same = (measure-passed e).numbers in
      (ap (λ (N : Measures). N.weight) same, ap (λ (N : Measures). N.gap) same ∙ sym (ap (λ (N : Measures). N.total -ℤ half_points N.weight) same));
}

-- A price of the solver's is twice the points that it is.
even_price : {z : ℤ} → SolverPrice z → EvenPrice z
even_price p =
    let n = nonneg p.least in
    let u = ap up p.even ∙ (up-times 2 p.points).0 in
    (up p.points, n ∙ ap pos u, omega (order, u, ap dn n, p.greatest))

pub solver_prices-even : SolverPricesEven
solver_prices-even g bound index lent S workspace L e =
    let D = L.solved e in
    (λ v l. even_price (D.vertex_range v l), λ d l. even_price (D.edge_range d l))

-- Whole points that are less than one, twice, are none.
half_lack : (a b : ℤ) {z : ℤ} → half_points (a -ℤ b) ≤ℤ z → z ≤ℤ pos 1 → a ≤ℤ b
half_lack a b h k = omega (order, h, k, up-diff a b, up-times 2 (a -ℤ b))

pub twice-what-is-lacking : TwiceWhatIsLacking
twice-what-is-lacking = record {
  least = λ g bound x P M e y best. (measured e).lack y best.feasible;
  best = λ g bound x P M e small.
      let m = measured e in
      record { feasible = m.feasible; most = λ y F. half_lack (weight_of g y) (weight_of g x) (m.lack y F) small };
  exact = λ g bound index lent S workspace L e y F. let c = certified L e y F in (c.numbers, c.measured, c.exact);
}

-- ---- doubled prices

-- A price of a doubled row.
price_doubled : (xs : List ℤ) (k : ℕ) → Half (get_or (map half_points xs) k (pos 0)) (get_or xs k (pos 0))
price_doubled xs k = record { is = get_or-map half_points xs k (pos 0) }

-- A price of the old range, doubled, is in range.
range_doubled : (z : ℤ) → in_range Old Numbers.Prices z ≡ true → price_in_range (half_points z) ≡ true
range_doubled z h =
    let w = between-true (pos 0) (pos greatest_old_price) z h in
    let most : half_points z ≤ℤ pos greatest_price = omega (order, w.1, up-times 2 z, ap dn (nonneg w.0)) in
    le-between (times_nonneg 2 w.0) most

-- An order is the same in half points.
half_order : (a b : ℤ) → le_z (half_points a) (half_points b) ≡ le_z a b
half_order a b = go (le_z (half_points a) (half_points b)) refl (le_z a b) refl
  where
    go : (t : Bool) → le_z (half_points a) (half_points b) ≡ t → (u : Bool) → le_z a b ≡ u → t ≡ u
    go true p true q = refl
    go false p false q = refl
    go true p false q =
        let l = le_z_true (half_points a) (half_points b) p in
        let m = le_z_false a b q in
        absurd (omega (order, l, m, up-times 2 a, up-times 2 b))
    go false p true q =
        let l = le_z_false (half_points a) (half_points b) p in
        let m = le_z_true a b q in
        absurd (omega (order, l, m, up-times 2 a, up-times 2 b))

module _ (g : Graph) (P : Prices) where
  cover_doubled : (e : ℕ) → Half (cover_of g (in_half_points P) e) (cover_of g P e)
  cover_doubled e =
      half_add
      (half_add (half_add (price_doubled P.vertex (first_end g e)) (price_doubled P.vertex (second_end g e))) (price_doubled P.edge e))
      (half_sum P.sets (λ s. half_times (pos (one (covers g P.marks s e))) (price_doubled P.set s)))

  module _ (bound : List ℤ) where
    total_doubled : Half (total_of g bound (in_half_points P)) (total_of g bound P)
    total_doubled =
        half_add
        (half_add
        (half_sum (vertices g) (λ v. half_times (bound_at bound v) (price_doubled P.vertex v)))
        (half_sum P.sets (λ s. half_times (pos (capacity g bound P.marks s)) (price_doubled P.set s))))
        (half_sum g.edges (price_doubled P.edge))

    module _ (x : List ℕ) where
      gap_doubled : Half (gap_of g bound x (in_half_points P)) (total_of g bound P -ℤ weight_of g x)
      gap_doubled = half_diff total_doubled (half_self (weight_of g x))

      vertices-doubled : Half (vertex_slack g bound x (in_half_points P)) (vertex_slack g bound x P)
      vertices-doubled = half_sum (vertices g) (λ v. times_half (bound_at bound v -ℤ pos (degree g x v)) (price_doubled P.vertex v))

      sets_doubled : Half (set_slack g bound x (in_half_points P)) (set_slack g bound x P)
      sets_doubled =
          half_sum P.sets (λ s. times_half (pos (capacity g bound P.marks s) -ℤ pos (chosen_covered g x P.marks s)) (price_doubled P.set s))

  module _ (x : List ℕ) where
    edges-doubled : Half (edge_slack g x (in_half_points P)) (edge_slack g x P)
    edges-doubled = half_sum g.edges (λ e. half_times (pos (1 - mark_at x e)) (price_doubled P.edge e))

    covers-doubled : Half (cover_slack g x (in_half_points P)) (sumℤ g.edges (λ e. pos (mark_at x e) *ℤ (cover_of g P e -ℤ weight_at g e)))
    covers-doubled = half_sum g.edges (λ e. half_times (pos (mark_at x e)) (half_diff (cover_doubled e) (half_self (weight_at g e))))

pub stored-prices-doubled : StoredPricesDoubled
stored-prices-doubled = record {
  range = range_doubled;
  cover = λ g P e. ap (le_z (worth_at g e)) (cover_doubled g P e).is ∙ half_order (weight_at g e) (cover_of g P e);
  total = λ g bound P. (total_doubled g P bound).is;
  gap = λ g bound x P. (gap_doubled g P bound x).is;
  of_vertices = λ g bound x P. (vertices-doubled g P bound x).is;
  of_sets = λ g bound x P. (sets_doubled g P bound x).is;
  of_edges = λ g x P. (edges-doubled g P x).is;
  of_cover = λ g x P. (covers-doubled g P x).is;
}
