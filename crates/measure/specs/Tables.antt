-- The seven numbers of the measuring call, from its tables (of degrees, of the odd sets' loads, and of how many chosen edges each odd set covers) and
-- from the cover of each edge.
use Rattle.std.specs.Prelude.{ℕ, ◌/◌, ◌^◌, ◌≤◌, ◌<◌, ◌≡◌, List, ℤ, pos, ◌+ℤ◌, ◌-ℤ◌, ◌*ℤ◌, get_or}
use Rattle.integers.specs.Sum.{sumℤ}
use Rattle.graph.specs.Limits.{most_sets}
use Rattle.graph.specs.Graph.{Graph, vertices}
use Rattle.graph.specs.Subgraph.{mark_at, degree, weight_of}
use Rattle.dual.specs.declared.Measures.{Measures}
use Rattle.dual.specs.Prices.{Prices, edge_price, set_price}
use Rattle.dual.specs.Sets.{load}
use Rattle.dual.specs.Gap.{half_points, worth_at, pay_of, vertex_slack_at, chosen_covered, edge_slack}
use Rattle.measure.specs.declared.Tables.{Tables}

-- The numbers of the tables, of n vertices and of this many odd sets, are small enough to be added up.
pub record Addable (n count : ℕ) (T : Tables) : Type 0 where
  pub degrees : (v : ℕ) → v < n → get_or T.degree v 0 ≤ 2 ^ 16
  pub sets : (k : ℕ) → k < count → (get_or T.load k 0 ≤ 2 ^ 16) × (get_or T.covered k 0 ≤ 2 ^ 16)

-- They are those of a subgraph and of at most 16 odd sets.
pub record Tabled (g : Graph) (bound : List ℤ) (x : List ℕ) (P : Prices) (T : Tables) : Type 0 where
  pub few : P.sets ≤ most_sets
  pub addable : Addable (vertices g) P.sets T
  pub degrees : (v : ℕ) → v < vertices g → get_or T.degree v 0 ≡ degree g x v
  pub loads : (k : ℕ) → k < P.sets → get_or T.load k 0 ≡ load g bound P.marks k
  pub covered : (k : ℕ) → k < P.sets → get_or T.covered k 0 ≡ chosen_covered g x P.marks k

-- The total, from the loads; a capacity is half the load.
abbrev pub total_by : Graph → List ℤ → Prices → List ℕ → ℤ
total_by g bound P loads =
    sumℤ (vertices g) (pay_of bound P)
    +ℤ sumℤ P.sets (λ k. pos (get_or loads k 0 / 2) *ℤ set_price P k)
    +ℤ sumℤ g.edges (edge_price P)

abbrev pub measures_by : Graph → List ℤ → List ℕ → Prices → Tables → List ℤ → Measures
measures_by g bound x P T cover = record {
  weight = weight_of g x;
  total = total_by g bound P T.load;
  vertices = sumℤ (vertices g) (λ v. vertex_slack_at bound P v (get_or T.degree v 0));
  sets = sumℤ P.sets (λ k. set_price P k *ℤ (pos (get_or T.load k 0 / 2) -ℤ pos (get_or T.covered k 0)));
  edges = edge_slack g x P;
  cover = sumℤ g.edges (λ e. pos (mark_at x e) *ℤ (get_or cover e (pos 0) -ℤ worth_at g e));
  gap = total_by g bound P T.load -ℤ half_points (weight_of g x);
}
