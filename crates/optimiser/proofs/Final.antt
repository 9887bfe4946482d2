-- Where the method ends, its subgraph is optimal, and the prices that it hands out are even, in range, cover every edge and leave no gap.
use Prim.Native.Nat.{ℕ, ◌+◌, ◌*◌, ◌-◌, ◌≤◌, ◌<◌}
use mathlib.Core.Path.{◌≡◌, refl, ap, ap₂, ◌∙◌}
use mathlib.Core.Logic.{⊎_elim}
use mathlib.Core.List.{List}
use native.Mathlib.Omega.{arith}
use native.Mathlib.Nat.{eq-zero-or-pos}
use native.Mathlib.Decide.{dec_lt}
use lib.IntN.{ℤ, pos, negsuc, ◌+ℤ◌, ◌-ℤ◌, ◌*ℤ◌, *ℤ-zero}
use lib.Signed.{◌≤ℤ◌}
use Rattle.integers.specs.Integer.{up, dn}
use Rattle.integers.proofs.Order.{order, up-add, up-diff, up-times, zero_times, nonneg}
use Rattle.graph.specs.Limits.{greatest_weight}
use Rattle.graph.specs.Graph.{Graph, vertices, first_end, second_end, weight_at, bound_at}
use Rattle.graph.specs.Subgraph.{Feasible, mark_at, degree}
use Rattle.graph.specs.Passed.{Bounded}
use Rattle.dual.specs.Prices.{Prices, vertex_price, edge_price}
use Rattle.dual.specs.Gap.{half_points, worth_at, cover_of, gap_of}
use Rattle.dual.specs.Solve.{outputs_of, without_sets, SolverPrice, Solved}
use Rattle.duality.proofs.Conditions.{Incident, DualFeasible}
use Rattle.duality.proofs.Passed.{passed_incident}
use Rattle.duality.proofs.Duality.{complementary, no_gap}
use Rattle.method.specs.Method.{level, weightless, value, cost, natural_bound, Solvable, Good, Served}
use Rattle.method.proofs.Solvable.{value-least, value-most}
use Rattle.pricing.specs.Pricing.{HandedOut}
use Rattle.pricing.proofs.Paying.{times_one, times_none}

-- A weight is its value less two levels.
weight_value : (z : ℤ) → 0 < up (z +ℤ pos (weightless)) → up z + weightless ≡ up (z +ℤ pos (weightless)) + dn z
weight_value z h = go (z +ℤ pos (weightless)) (up-add z (pos (weightless))) h
  where
    go : (y : ℤ) → up y + (dn z + 0) ≡ (up z + weightless) + dn y → 0 < up y → up z + weightless ≡ up y + dn z
    go (pos n) e l = omega arith
    go (negsuc n) e l = absurd (omega arith)

-- What is above b makes a up.
made_up : (k a b : ℕ) → k ≡ 1 → b ≤ a → k * (a - b) + b ≡ a
made_up k a b e l = omega (arith, times_one k (a - b) e)

module _ {g : Graph} {bound : List ℤ} {x : List ℕ} {price : ℕ → ℕ} {vertex edge : List ℤ} (net : Solvable g)
    {least most : ℕ → ℕ} (bounded : Bounded (vertices g) bound) (none-least : (v : ℕ) → v < vertices g → least v ≡ 0)
    (most-is : (v : ℕ) → v < vertices g → most v ≡ natural_bound bound v) (good : Good g least most x price)
    (done : (v : ℕ) → v < g.rows → Served g least most x price v) (out : HandedOut g x price vertex edge) where
  -- No price is below 0, and none above the greatest weight.
  lowest : (v : ℕ) → v < vertices g → level ≤ price v
  lowest v l = good.plain v l (none-least v l)

  highest : (v : ℕ) → v < vertices g → price v ≤ level + greatest_weight
  highest = good.slim none-least

  abbrev P : Prices
  P = without_sets vertex edge

  ends : Incident g
  ends = passed_incident net.passed

  no_debt : (v : ℕ) → v < vertices g → dn (bound_at bound v) ≡ 0
  no_debt v l = ap dn (nonneg (bounded.range v l).0)

  feasible : Feasible g bound x
  feasible = record {
    long = good.long;
    marks = λ e l. good.marks e;
    within = λ v l. omega (order, good.within v l, most-is v l, no_debt v l);
  }

  vertex-price : (v : ℕ) → v < vertices g → SolverPrice (vertex_price P v)
  vertex-price v l = rw (out.of_vertex v l) (record { least = omega order; greatest = omega (order, highest v l); points = pos (price v - level); even = refl })

  -- An edge's price is at most the level in points, and with its ends' prices it makes up what the edge is worth, or more where it is not chosen.
  module _ (e : ℕ) (l : e < g.edges) where
    price_small : mark_at x e * (value g e - cost g price e) ≤ greatest_weight
    price_small = ⊎_elim
        (λ z. omega (arith, times_none (mark_at x e) (value g e - cost g price e) z))
        (λ s.
        let k : mark_at x e ≡ 1 = omega (arith, good.marks e) in
        omega (
          arith,
          made_up (mark_at x e) (value g e) (cost g price e) k (good.chosen e l k),
          value-most net e l,
          lowest (first_end g e) (ends.first e l),
          lowest (second_end g e) (ends.second e l),
        ))
        (eq-zero-or-pos (mark_at x e))

    edge-price : SolverPrice (edge_price P e)
    edge-price = rw (out.of_edge e l)
        (record { least = omega order; greatest = omega (order, price_small); points = pos (mark_at x e * (value g e - cost g price e)); even = refl })

    abbrev paid : ℕ
    paid = 2 * (price (first_end g e) - level) + 2 * (price (second_end g e) - level) + 2 * (mark_at x e * (value g e - cost g price e)) + 0

    cover_is : cover_of g P e ≡ pos paid
    cover_is =
        ap₂ (λ y z. y +ℤ z +ℤ pos 0)
        (ap₂ ◌+ℤ◌ (out.of_vertex (first_end g e) (ends.first e l)) (out.of_vertex (second_end g e) (ends.second e l)))
        (out.of_edge e l)

    -- A chosen edge's prices make up what it is worth, and those of any other edge at least that.
    just : mark_at x e ≡ 1 → 2 * up (weight_at g e) ≡ paid + 2 * dn (weight_at g e)
    just k =
        omega (
          arith,
          made_up (mark_at x e) (value g e) (cost g price e) k (good.chosen e l k),
          weight_value (weight_at g e) (omega (arith, value-least net e l)),
          lowest (first_end g e) (ends.first e l),
          lowest (second_end g e) (ends.second e l),
        )

    enough : 2 * up (weight_at g e) ≤ paid + 2 * dn (weight_at g e)
    enough = ⊎_elim
        (λ z.
        omega (
          arith,
          times_none (mark_at x e) (value g e - cost g price e) z,
          good.loose e l z,
          weight_value (weight_at g e) (omega (arith, value-least net e l)),
          lowest (first_end g e) (ends.first e l),
          lowest (second_end g e) (ends.second e l),
        ))
        (λ s. omega (arith, just (omega (arith, good.marks e))))
        (eq-zero-or-pos (mark_at x e))

    covering : worth_at g e ≤ℤ cover_of g P e
    covering = rw cover_is (omega (order, enough, up-times 2 (weight_at g e)))

    -- No slack of the edge, nor of its cover.
    edge-slack : pos (1 - mark_at x e) *ℤ edge_price P e ≡ pos 0
    edge-slack = ⊎_elim
        (λ z. ap (λ y. pos (1 - mark_at x e) *ℤ y) (out.of_edge e l ∙ ap (λ n. half_points (pos n)) (times_none (mark_at x e) (value g e - cost g price e) z))
        ∙ *ℤ-zero (pos (1 - mark_at x e)))
        (λ s.
        let k : 1 - mark_at x e ≡ 0 = omega arith in
        ap (λ n. pos n *ℤ edge_price P e) k ∙ zero_times (edge_price P e))
        (eq-zero-or-pos (mark_at x e))

    cover-slack : pos (mark_at x e) *ℤ (cover_of g P e -ℤ worth_at g e) ≡ pos 0
    cover-slack = ⊎_elim
        (λ z. ap (λ n. pos n *ℤ (cover_of g P e -ℤ worth_at g e)) z ∙ zero_times (cover_of g P e -ℤ worth_at g e))
        (λ s. ap (λ y. pos (mark_at x e) *ℤ y) (nothing (omega (arith, good.marks e))) ∙ *ℤ-zero (pos (mark_at x e)))
        (eq-zero-or-pos (mark_at x e))
      where
        nothing : mark_at x e ≡ 1 → cover_of g P e -ℤ worth_at g e ≡ pos 0
        nothing k =
            ap (λ y. y -ℤ worth_at g e) cover_is ∙ omega (order, just k, up-diff (pos paid) (worth_at g e), up-times 2 (weight_at g e))

  -- A vertex with a price above 0 is saturated.
  saturated : (v : ℕ) → v < vertices g → level < price v → degree g x v ≡ natural_bound bound v
  saturated v l s = elim (dec_lt v g.rows) [ yes d ↦ (done v d).full s ∙ most-is v l | no d ↦ good.full v (omega (arith, d)) l s ∙ most-is v l ]

  vertex-slack : (v : ℕ) → v < vertices g → vertex_price P v *ℤ (bound_at bound v -ℤ pos (degree g x v)) ≡ pos 0
  vertex-slack v l = elim (dec_lt level (price v)) [
    | yes s ↦
        let e : bound_at bound v -ℤ pos (degree g x v) ≡ pos 0 =
        omega (order, no_debt v l, saturated v l s, up-diff (bound_at bound v) (pos (degree g x v))) in
        ap (λ y. vertex_price P v *ℤ y) e ∙ *ℤ-zero (vertex_price P v)
    | no s ↦
        let e : price v - level ≡ 0 = omega (arith, s) in
        ap (λ y. y *ℤ (bound_at bound v -ℤ pos (degree g x v))) (out.of_vertex v l ∙ ap (λ n. half_points (pos n)) e)
        ∙ zero_times (bound_at bound v -ℤ pos (degree g x v))
  ]

  none : gap_of g bound x P ≡ pos 0
  none = complementary ends bound x P (λ e l. good.marks e) vertex-slack (λ s l. absurd (omega arith)) edge-slack cover-slack

  dual : DualFeasible g bound P
  dual = record {
    vertex_prices = λ v l. (vertex-price v l).least;
    edge_prices = λ e l. (edge-price e l).least;
    set_prices = λ s l. absurd (omega arith);
    rules = λ s l. absurd (omega arith);
    covering = covering;
  }

  pub solved : Solved g bound (outputs_of x vertex edge)
  solved = record {
    optimal = no_gap ends dual feasible none;
    vertex_range = vertex-price;
    edge_range = edge-price;
    covering = covering;
    gap_is_zero = none;
  }
