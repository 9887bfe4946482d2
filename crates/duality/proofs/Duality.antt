-- Weak duality: the gap is the sum of the four slacks, each at least 0, so that no feasible subgraph is worth more than the prices' total.
use Prim.Native.Nat.{ℕ, ◌-◌, ◌≤◌, ◌<◌}
use mathlib.Core.Path.{◌≡◌, sym, ap, ◌∙◌, subst}
use mathlib.Core.Bool.{true}
use mathlib.Core.List.{List}
use native.Mathlib.Omega.{arith}
use lib.IntN.{ℤ, pos, ◌+ℤ◌, ◌-ℤ◌, ◌*ℤ◌}
use lib.Signed.{◌≤ℤ◌}
use Rattle.integers.specs.Integer.{up, dn}
use Rattle.integers.specs.Sum.{sumℤ}
use Rattle.integers.proofs.Order.{up-diff, up-times, order}
use Rattle.graph.specs.Graph.{Graph, vertices, first_end, second_end, weight_at, bound_at}
use Rattle.graph.specs.Subgraph.{Feasible, Optimal, mark_at, degree, weight_of, lacks}
use Rattle.dual.specs.Prices.{Prices, vertex_price, edge_price, set_price}
use Rattle.dual.specs.Sets.{OddSets, inside, marked, one, keeps_rules, covers, capacity}
use Rattle.dual.specs.Gap.{half_points, worth_at, cover_of, total_of, gap_of, vertex_slack_at, vertex_slack, set_slack, edge_slack, cover_slack, chosen_covered}
use Rattle.duality.proofs.Conditions.{Incident, DualFeasible}
use Rattle.duality.proofs.HalfPoints.{half_self, half_times, half_sum}
use Rattle.duality.proofs.Passed.{one_end}
use Rattle.duality.proofs.Core as core
use Rattle.duality.proofs.Core.{Program, covered-load}

-- What the chosen edges are worth is the subgraph's weight in half points.
worth_of : (g : Graph) (x : List ℕ) → sumℤ g.edges (λ e. pos (mark_at x e) *ℤ worth_at g e) ≡ half_points (weight_of g x)
worth_of g x = (half_sum g.edges (λ e. half_times (pos (mark_at x e)) (half_self (weight_at g e)))).is

-- ---- the definitions are those of the core, with what each edge is worth for its weight

abbrev program : Graph → List ℤ → Prices → Program
program g bound P = record {
  vertices = vertices g;
  edges = g.edges;
  sets = P.sets;
  first = first_end g;
  second = second_end g;
  weight = worth_at g;
  bound = bound_at bound;
  capacity = λ s. pos (capacity g bound P.marks s);
  covers = λ s e. one (covers g P.marks s e);
  vertex_price = vertex_price P;
  set_price = set_price P;
  edge_price = edge_price P;
}

-- The gap is the total less what the chosen edges are worth.
gap_worth : (g : Graph) (bound : List ℤ) (x : List ℕ) (P : Prices) →
    gap_of g bound x P ≡ total_of g bound P -ℤ sumℤ g.edges (λ e. pos (mark_at x e) *ℤ worth_at g e)
gap_worth g bound x P = ap (λ z. total_of g bound P -ℤ z) (sym (worth_of g x))

-- The gap is the sum of the slacks of vertices, odd sets, edges and cover, for any prices and bounds at all.
pub slacks_add : {g : Graph} → Incident g → (bound : List ℤ) (x : List ℕ) (P : Prices) → ((e : ℕ) → e < g.edges → mark_at x e ≤ 1) →
    gap_of g bound x P ≡ vertex_slack g bound x P +ℤ set_slack g bound x P +ℤ edge_slack g x P +ℤ cover_slack g x P
slacks_add {g} E bound x P marks = gap_worth g bound x P ∙ core.slacks_add (program g bound P) E.first E.second (mark_at x) marks

-- Complementary slackness: where no vertex, odd set, edge or cover has slack, there is no gap.
pub complementary : {g : Graph} → Incident g → (bound : List ℤ) (x : List ℕ) (P : Prices) → ((e : ℕ) → e < g.edges → mark_at x e ≤ 1) →
    ((v : ℕ) → v < vertices g → vertex_slack_at bound P v (degree g x v) ≡ pos 0) →
    ((s : ℕ) → s < P.sets → set_price P s *ℤ (pos (capacity g bound P.marks s) -ℤ pos (chosen_covered g x P.marks s)) ≡ pos 0) →
    ((e : ℕ) → e < g.edges → pos (1 - mark_at x e) *ℤ edge_price P e ≡ pos 0) →
    ((e : ℕ) → e < g.edges → pos (mark_at x e) *ℤ (cover_of g P e -ℤ worth_at g e) ≡ pos 0) → gap_of g bound x P ≡ pos 0
complementary {g} E bound x P marks v s e c =
    gap_worth g bound x P ∙ core.complementary (program g bound P) E.first E.second (mark_at x) marks v s e c

-- No feasible subgraph chooses more than an odd set's capacity of the edges that it covers.
pub within-capacity : {g : Graph} {bound : List ℤ} {x : List ℕ} → Incident g → Feasible g bound x → (O : OddSets) (s : ℕ) → keeps_rules g bound O s ≡ true →
    chosen_covered g x O s ≤ capacity g bound O s
within-capacity {g} {bound} {x} E F O s k =
    omega (
      arith,
      covered-load (vertices g) g.edges (first_end g) (second_end g) E.first E.second (mark_at x) F.marks
          (λ v. up (bound_at bound v)) (λ v l. omega (order, F.within v l)) (inside O s) (marked O s) (one_end g bound O s k),
    )

-- Each slack of a feasible subgraph against dual feasible prices is at least 0.
module _ {g : Graph} {bound : List ℤ} {x : List ℕ} {P : Prices} (F : Feasible g bound x) (D : DualFeasible g bound P) where
  pub vertex_slack-nonneg : pos 0 ≤ℤ vertex_slack g bound x P
  vertex_slack-nonneg = core.vertex_slack-nonneg (program g bound P) (mark_at x) D.vertex_prices F.within

  set-within : Incident g → (s : ℕ) → s < P.sets → pos (chosen_covered g x P.marks s) ≤ℤ pos (capacity g bound P.marks s)
  set-within E s l = omega (order, within-capacity E F P.marks s (D.rules s l))

  pub set_slack-nonneg : Incident g → pos 0 ≤ℤ set_slack g bound x P
  set_slack-nonneg E = core.set_slack-nonneg (program g bound P) (mark_at x) D.set_prices (set-within E)

  pub edge_slack-nonneg : pos 0 ≤ℤ edge_slack g x P
  edge_slack-nonneg = core.edge_slack-nonneg (program g bound P) (mark_at x) D.edge_prices

  pub cover_slack-nonneg : pos 0 ≤ℤ cover_slack g x P
  cover_slack-nonneg = core.cover_slack-nonneg (program g bound P) (mark_at x) D.covering

  -- Its weight in half points is at most the prices' total.
  pub weight_total : Incident g → half_points (weight_of g x) ≤ℤ total_of g bound P
  weight_total E =
      subst (λ z. z ≤ℤ total_of g bound P) (worth_of g x)
      (core.weight_total {D = program g bound P}
      (record { first_in = E.first; second_in = E.second; marks = F.marks; degrees = F.within; sets = set-within E })
      (record { vertex_prices = D.vertex_prices; set_prices = D.set_prices; edge_prices = D.edge_prices; covering = D.covering }))

-- What any subgraph lacks against a feasible one, in half points, is at most its gap.
pub gap_bound : {g : Graph} {bound : List ℤ} {P : Prices} {y : List ℕ} → Incident g → DualFeasible g bound P → Feasible g bound y → (x : List ℕ) →
    half_points (lacks g y x) ≤ℤ gap_of g bound x P
gap_bound {g} {bound} {P} {y} E D F x =
    omega (
      order,
      weight_total F D E,
      up-diff (total_of g bound P) (half_points (weight_of g x)),
      up-diff (weight_of g y) (weight_of g x),
      up-times 2 (lacks g y x),
      up-times 2 (weight_of g y),
      up-times 2 (weight_of g x),
    )

-- A feasible subgraph with no gap is optimal.
pub no_gap : {g : Graph} {bound : List ℤ} {P : Prices} {x : List ℕ} → Incident g → DualFeasible g bound P → Feasible g bound x →
    gap_of g bound x P ≡ pos 0 → Optimal g bound x
no_gap {g} {bound} {P} {x} E D F none = record {
  feasible = F;
  most = λ y G.
      omega (
        order,
        ap up none,
        ap dn none,
        weight_total G D E,
        up-diff (total_of g bound P) (half_points (weight_of g x)),
        up-times 2 (weight_of g y),
        up-times 2 (weight_of g x),
      );
}
