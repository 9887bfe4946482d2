-- Prices that come from a solution of the doubled graph: they are in range and cover every edge, and their total is the solution's weight.
use Prim.Native.Nat.{ℕ, ◌+◌, ◌-◌, ◌<◌}
use mathlib.Core.Path.{◌≡◌, sym, ap, ap₂, ◌∙◌, subst}
use mathlib.Core.List.{List}
use native.Mathlib.Omega.{arith}
use lib.IntN.{ℤ, pos, ◌+ℤ◌, ◌-ℤ◌, ◌*ℤ◌}
use lib.ListN.{length}
use lib.Signed.{◌≤ℤ◌}
use Rattle.integers.specs.Integer.{up, dn}
use Rattle.integers.specs.Sum.{sumℤ}
use Rattle.integers.proofs.Order.{order, up-add, up-diff, up-times}
use Rattle.integers.proofs.Diff.{times_add}
use Rattle.integers.proofs.Sum.{sumℤ-cong, sumℤ-add, sumℤ-scale, sumℤ-split}
use Rattle.graph.specs.Limits.{greatest_solver_price}
use Rattle.graph.specs.Graph.{Graph, vertices, row_at, column_at, weight_at, bound_at}
use Rattle.graph.specs.Subgraph.{weight_of}
use Rattle.graph.specs.Doubled.{doubled, doubled_bounds}
use Rattle.dual.specs.Prices.{Prices, vertex_price, edge_price}
use Rattle.dual.specs.Gap.{half_points, worth_at, cover_of, pay_of, total_of}
use Rattle.dual.specs.Solve.{Outputs, SolverPrice, solver_prices, without_sets}
use Rattle.dual.specs.PriceGeneral.{PricedFrom}
use Rattle.duality.proofs.HalfPoints.{half_self, half_times}
use Rattle.doubling.specs.Doublable.{Doublable}
use Rattle.doubling.proofs.Doubled.{general-vertices, general-second, ends_below, row_first, column_first, weight_first, row_second, column_second}
use Rattle.doubling.proofs.Doubled.{weight_second, bound_first, bound_second}

-- ---- sums of two numbers, halved

-- The range of a price that comes from the doubled graph.
abbrev pub SolverRange : ℤ → Type 0
SolverRange z = (pos 0 ≤ℤ z) × (z ≤ℤ pos greatest_solver_price)

half_range : {z a b : ℤ} → SolverPrice a → SolverPrice b → half_points z ≡ a +ℤ b → SolverRange z
half_range {z} {a} {b} p q e = (
  omega (order, p.least, q.least, up-add a b, up-times 2 z, ap up e, ap dn e),
  omega (order, p.greatest, q.greatest, up-add a b, up-times 2 z, ap up e, ap dn e),
)

-- Two covers of an edge, one in each direction, and the three prices that they give.
half_cover : (w a b c p q r x y z : ℤ) → half_points w ≤ℤ (a +ℤ q +ℤ c +ℤ pos 0) → half_points w ≤ℤ (b +ℤ p +ℤ r +ℤ pos 0) →
    half_points x ≡ a +ℤ p → half_points y ≡ b +ℤ q → half_points z ≡ c +ℤ r → half_points w ≤ℤ (x +ℤ y +ℤ z +ℤ pos 0)
half_cover w a b c p q r x y z i j e f h =
    omega (
      order,
      up-times 2 w,
      up-add a q,
      up-add (a +ℤ q) c,
      up-add (a +ℤ q +ℤ c) (pos 0),
      up-add b p,
      up-add (b +ℤ p) r,
      up-add (b +ℤ p +ℤ r) (pos 0),
      up-times 2 x,
      up-times 2 y,
      up-times 2 z,
      up-add a p,
      up-add b q,
      up-add c r,
      ap up e,
      ap dn e,
      ap up f,
      ap dn f,
      ap up h,
      ap dn h,
      up-add x y,
      up-add (x +ℤ y) z,
      up-add (x +ℤ y +ℤ z) (pos 0),
    )

-- Two numbers that are the same in half points.
half_same : (x y : ℤ) → half_points x ≡ half_points y → x ≡ y
half_same x y e = omega (order, up-times 2 x, up-times 2 y, ap up e, ap dn e)

no_difference : (x y : ℤ) → x -ℤ y ≡ pos 0 → x ≡ y
no_difference x y e = omega (order, up-diff x y, ap up e, ap dn e)

half_plus : (x y : ℤ) → half_points (x +ℤ y) ≡ half_points x +ℤ half_points y
half_plus x y = times_add (pos 2) x y

-- The sum over both halves of what each number is taken for.
sum-halves : (n : ℕ) (f h : ℕ → ℤ) → ((i : ℕ) → i < n → f i +ℤ f (n + i) ≡ half_points (h i)) → sumℤ (n + n) f ≡ half_points (sumℤ n h)
sum-halves n f h e =
    sumℤ-split n n f ∙ sym (sumℤ-add n f (λ i. f (n + i))) ∙ sumℤ-cong n _ (λ i. half_points (h i)) e ∙ sumℤ-scale n (pos 2) h

-- ---- the prices

-- The prices of the vertices and of the edges are P; those of the doubled graph, from which they come, are Q.
module _ {g : Graph} {bound : List ℤ} {S : Outputs} {vertex edge : List ℤ} (D : Doublable g) (F : PricedFrom g bound S (without_sets vertex edge)) where
  abbrev P : Prices
  P = without_sets vertex edge

  abbrev Q : Prices
  Q = solver_prices S

  -- The two prices of a vertex, on either side.
  vertex_halves : (v : ℕ) → v < vertices g → half_points (vertex_price P v) ≡ vertex_price Q v +ℤ vertex_price Q (g.rows + v)
  vertex_halves v l = F.vertex v l ∙ ap (λ n. vertex_price Q v +ℤ vertex_price Q (n + v)) (general-vertices D)

  pub vertex-range : (v : ℕ) → v < vertices g → SolverRange (vertex_price P v)
  vertex-range v l =
      let s = F.solved in
      half_range (s.vertex_range v (omega (arith, general-vertices D))) (s.vertex_range (g.rows + v) (omega (arith, general-vertices D))) (vertex_halves v l)

  pub edge-range : (e : ℕ) → e < g.edges → SolverRange (edge_price P e)
  edge-range e l = let s = F.solved in half_range (s.edge_range e (omega arith)) (s.edge_range (g.edges + e) (omega arith)) (F.edge e l)

  -- What covers an edge of the doubled graph, by the graph's rows and columns.
  abbrev reach : ℕ → ℕ → ℤ → ℤ
  reach r c p = vertex_price Q (r - 1) +ℤ vertex_price Q (g.rows + (c - 1)) +ℤ p +ℤ pos 0

  covered-first : (e : ℕ) → e < g.edges → half_points (weight_at g e) ≤ℤ reach (row_at g e) (column_at g e) (edge_price Q e)
  covered-first e l =
      subst (λ w. half_points w ≤ℤ reach (row_at g e) (column_at g e) (edge_price Q e)) (weight_first D e l)
      (subst (λ c. worth_at (doubled g) e ≤ℤ reach (row_at g e) c (edge_price Q e)) (column_first D e l)
      (subst (λ r. worth_at (doubled g) e ≤ℤ reach r (column_at (doubled g) e) (edge_price Q e)) (row_first D e l) (F.solved.covering e (omega arith))))

  covered-second : (e : ℕ) → e < g.edges → half_points (weight_at g e) ≤ℤ reach (column_at g e) (row_at g e) (edge_price Q (g.edges + e))
  covered-second e l =
      let k = g.edges + e in
      subst (λ w. half_points w ≤ℤ reach (column_at g e) (row_at g e) (edge_price Q k)) (weight_second D e)
      (subst (λ c. worth_at (doubled g) k ≤ℤ reach (column_at g e) c (edge_price Q k)) (column_second D e)
      (subst (λ r. worth_at (doubled g) k ≤ℤ reach r (column_at (doubled g) k) (edge_price Q k)) (row_second D e) (F.solved.covering k (omega arith))))

  pub priced_covers : (e : ℕ) → e < g.edges → worth_at g e ≤ℤ cover_of g P e
  priced_covers e l =
      let r = row_at g e - 1 in
      let c = column_at g e - 1 in
      let b = ends_below D e l in
      let at_row = vertex_halves r (omega (arith, general-vertices D, b.row.least, b.row.greatest)) in
      let at_column = vertex_halves c (omega (arith, general-vertices D, b.column.least, b.column.greatest)) in
      subst (λ v. worth_at g e ≤ℤ (vertex_price P r +ℤ vertex_price P v +ℤ edge_price P e +ℤ pos 0)) (sym (general-second D e))
      (half_cover (weight_at g e) (vertex_price Q r) (vertex_price Q c) (edge_price Q e) (vertex_price Q (g.rows + r)) (vertex_price Q (g.rows + c))
      (edge_price Q (g.edges + e)) (vertex_price P r) (vertex_price P c) (edge_price P e)
      (covered-first e l) (covered-second e l) at_row at_column (F.edge e l))

  -- ---- their total

  module _ (long : length bound ≡ vertices g) where
    -- What a vertex pays on both sides.
    pay_halves : (v : ℕ) → v < g.rows →
        pay_of (doubled_bounds bound) Q v +ℤ pay_of (doubled_bounds bound) Q (g.rows + v) ≡ half_points (pay_of bound P v)
    pay_halves v l =
        let k = bound_at bound v in
        ap₂ (λ a b. a *ℤ vertex_price Q v +ℤ b *ℤ vertex_price Q (g.rows + v)) (bound_first D bound long v l) (bound_second D bound long v)
        ∙ sym (times_add k (vertex_price Q v) (vertex_price Q (g.rows + v)))
        ∙ ap (λ z. k *ℤ z) (sym (vertex_halves v (omega (arith, general-vertices D))))
        ∙ (half_times k (half_self (vertex_price P v))).is

    total_halves : total_of (doubled g) (doubled_bounds bound) Q ≡ half_points (total_of g bound P)
    total_halves =
        let pays = sumℤ g.rows (pay_of bound P) in
        let edges = sumℤ g.edges (edge_price P) in
        ap₂ (λ a b. a +ℤ pos 0 +ℤ b) (sum-halves g.rows (pay_of (doubled_bounds bound) Q) (pay_of bound P) pay_halves)
        (sum-halves g.edges (edge_price Q) (edge_price P) (λ e l. sym (F.edge e l)))
        ∙ ap (λ z. z +ℤ half_points edges) (sym (half_plus pays (pos 0)))
        ∙ sym (half_plus (pays +ℤ pos 0) edges)
        ∙ ap (λ n. half_points (sumℤ n (pay_of bound P) +ℤ pos 0 +ℤ edges)) (sym (general-vertices D))

    -- As numbers, the total in half points is the weight in points of the solution, which is the largest of the doubled graph.
    pub total_weight : total_of g bound P ≡ weight_of (doubled g) S.chosen
    total_weight =
        let t = total_of (doubled g) (doubled_bounds bound) Q in
        let w = weight_of (doubled g) S.chosen in
        half_same (total_of g bound P) w (sym total_halves ∙ no_difference t (half_points w) F.solved.gap_is_zero)
