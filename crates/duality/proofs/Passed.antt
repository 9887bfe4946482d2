-- What a call's tests have shown once they have passed, test by test.
use Rattle.graph.specs.Refusal.{Outcome}
use Rattle.std.specs.Prelude.{Ok}
use Prim.Native.Nat.{ℕ, ◌+◌, ◌*◌, ◌-◌, ◌≤◌, ◌<◌}
use mathlib.Core.Path.{◌≡◌, refl, sym, ap, ◌∙◌, subst}
use mathlib.Core.Bool.{true, not, ◌&&◌, ◌||◌, true≢false}
use mathlib.Core.List.{List, [], ◌∷◌, ◌++◌}
use native.Mathlib.Omega.{arith}
use native.Mathlib.Decide.{dec_lt}
use lib.Dec.{leb, ltb, eqb}
use lib.IntN.{ℤ, pos}
use lib.ListN.{length, get_or, length-append, get_or-append}
use lib.Seq.{get_or-append-add}
use lib.Signed.{◌≤ℤ◌}
use borrow.Author.Tests.{eqb-true, leb-true, le-leb, lt-ltb, eq-eqb}
use Rattle.integers.proofs.Order.{le_z_true, le-le_z, between-true, le-between}
use Rattle.graph.specs.declared.Kind.{Kind}
use Rattle.graph.specs.declared.Kind.TheVariants.{Bipartite, General}
use Rattle.graph.specs.Limits.{greatest_price, vertex_words, edge_words, workspace_numbers}
use Rattle.graph.specs.Graph.{Graph, shape_of, vertices, column_vertex, column_at, first_end, second_end, bound_at, up_to, sizes_in_range, price_in_range}
use Rattle.graph.specs.Index.{index_numbers, index_test}
use Rattle.graph.specs.Subgraph.{Feasible, mark_at, degree}
use Rattle.graph.specs.Tests.{graph_lengths, graph_tests, bound_test, kind_test, is_bipartite, mark_test, degree_test}
use Rattle.graph.proofs.Passing.{every_true, Passes, passes, pass, passes_split, passes_join}
use Rattle.graph.specs.Passed.{Passed, Bounded}
use Rattle.graph.proofs.Ranges.{both, ◌also◌, held, up_to-true}
use Rattle.graph.proofs.Passed.{graph_passed, passed_lengths, passed_tests, bounds_passed, bounds_test}
use Rattle.dual.specs.declared.Measures.{Measures}
use Rattle.dual.specs.Prices.{Prices, vertex_price, edge_price, set_price, all_prices}
use Rattle.dual.specs.Sets.{OddSets, marked, nothing_above, has_vertex, ends_inside, one_end_inside, is_odd, keeps_rules}
use Rattle.dual.specs.Gap.{worth_at, cover_of}
use Rattle.dual.specs.Measure.{measure, measures, measure_lengths, measure_tests, price_test, set_test, cover_test}
use Rattle.dual.specs.Solve.{Lent, other_lengths, solve, solver_tests, without_sets}
use Rattle.dual.specs.Passed.{PriceLengths}
use Rattle.duality.proofs.Conditions.{Incident, DualFeasible}

-- ---- odd sets

-- A marked edge has just one end inside.
pub one_end : (g : Graph) (bound : List ℤ) (O : OddSets) (s : ℕ) → keeps_rules g bound O s ≡ true → (e : ℕ) → e < g.edges → marked O s e ≡ true →
    ends_inside g O s e ≡ 1
one_end g bound O s k e l m =
    eqb-true (ends_inside g O s e) 1
    (ap (λ b. not b || eqb (ends_inside g O s e) 1) (sym m)
    ∙ every_true g.edges (λ d. not (marked O s d) || eqb (ends_inside g O s d) 1)
    (held (nothing_above g O s) (has_vertex g O s ∷ one_end_inside g O s ∷ is_odd g bound O s ∷ []) k).1.1.0 e l)

-- ---- graph, subgraph

-- The ends of a graph that has passed are vertices.
pub passed_incident : {g : Graph} → Passed g → Incident g
passed_incident P = record { first = λ e l. (P.sound.ends e l).first; second = λ e l. (P.sound.ends e l).second }

pub subgraph_passed : (g : Graph) (bound : List ℤ) (x : List ℕ) → eqb (length x) g.edges ≡ true →
    Passes (mark_test g x ∷ degree_test g bound x ∷ []) → Feasible g bound x
subgraph_passed g bound x e p = record {
  long = eqb-true (length x) g.edges e;
  marks = λ d l. leb-true (mark_at x d) 1 (p.0 d l);
  within = λ v l. le_z_true (pos (degree g x v)) (bound_at bound v) (p.1.0 v l);
}

-- A feasible subgraph passes.
pub feasible_passes : {g : Graph} {bound : List ℤ} {x : List ℕ} → Feasible g bound x → Passes (mark_test g x ∷ degree_test g bound x ∷ [])
feasible_passes {g} {bound} {x} F = (λ d l. le-leb (mark_at x d) 1 (F.marks d l), (λ v l. le-le_z (F.within v l), tt))

-- ---- prices

-- What holds of each number of two rows holds of each of the two rows put together, and the other way round.
module _ (Q : ℤ → Type 0) (xs ys : List ℤ) where
  pub front : ((k : ℕ) → k < length (xs ++ ys) → Q (get_or (xs ++ ys) k (pos 0))) → (k : ℕ) → k < length xs → Q (get_or xs k (pos 0))
  front h k l = subst Q (get_or-append xs ys (pos 0) k l) (h k (omega (arith, length-append xs ys)))

  pub back : ((k : ℕ) → k < length (xs ++ ys) → Q (get_or (xs ++ ys) k (pos 0))) → (k : ℕ) → k < length ys → Q (get_or ys k (pos 0))
  back h k l = subst Q (get_or-append-add xs ys k (pos 0)) (h (length xs + k) (omega (arith, length-append xs ys)))

  pub together : ((k : ℕ) → k < length xs → Q (get_or xs k (pos 0))) → ((k : ℕ) → k < length ys → Q (get_or ys k (pos 0))) → (k : ℕ) →
      k < length (xs ++ ys) → Q (get_or (xs ++ ys) k (pos 0))
  together f b k l = elim (dec_lt k (length xs)) [
    | yes h ↦ subst Q (sym (get_or-append xs ys (pos 0) k h)) (f k h)
    | no h ↦
        let e : length xs + (k - length xs) ≡ k = omega (arith, h) in
        subst (λ j. Q (get_or (xs ++ ys) j (pos 0))) e
        (subst Q (sym (get_or-append-add xs ys (k - length xs) (pos 0))) (b (k - length xs) (omega (arith, h, length-append xs ys))))
  ]

-- A price is in range.
abbrev pub PriceRange : ℤ → Type 0
PriceRange z = (pos 0 ≤ℤ z) × (z ≤ℤ pos greatest_price)

-- What the tests of the prices and the odd sets show.
pub record Priced (g : Graph) (bound : List ℤ) (P : Prices) : Type 0 where
  pub lengths : PriceLengths g P
  pub vertex_range : (v : ℕ) → v < vertices g → PriceRange (vertex_price P v)
  pub edge_range : (e : ℕ) → e < g.edges → PriceRange (edge_price P e)
  pub set_range : (s : ℕ) → s < P.sets → PriceRange (set_price P s)
  pub few_sets : P.sets ≤ 16
  pub rules : (s : ℕ) → s < P.sets → keeps_rules g bound P.marks s ≡ true
  pub covering : (e : ℕ) → e < g.edges → worth_at g e ≤ℤ cover_of g P e

few-sets : (g : Graph) (bound : List ℤ) (P : Prices) → Passes (set_test g bound P ∷ []) → P.sets ≤ 16
few-sets g bound P p = elim (dec_lt 16 P.sets) [
  | yes h ↦ absurd (true≢false (sym (p.0 16 (omega arith))))
  | no h ↦ omega (arith, h)
]

pub prices_passed : {g : Graph} {P : Prices} (bound : List ℤ) → PriceLengths g P → Passes (price_test P ∷ set_test g bound P ∷ cover_test g P ∷ []) →
    Priced g bound P
prices_passed {g} {P} bound lengths p =
    let later = back PriceRange P.vertex (P.edge ++ P.set) ranged in
    let few = few-sets g bound P (p.1.0, tt) in
    record {
      lengths = lengths;
      vertex_range = λ v l. front PriceRange P.vertex (P.edge ++ P.set) ranged v (omega arith);
      edge_range = λ e l. front PriceRange P.edge P.set later e (omega arith);
      set_range = λ s l. back PriceRange P.edge P.set later s (omega arith);
      few_sets = few;
      rules = λ s l. (both (ltb s 16) (keeps_rules g bound P.marks s) (p.1.0 s (omega (arith, few)))).1;
      covering = λ e l. le_z_true (worth_at g e) (cover_of g P e) (p.1.1.0 e l);
    }
  where
    ranged : (k : ℕ) → k < length (all_prices P) → PriceRange (get_or (all_prices P) k (pos 0))
    ranged k l = between-true (pos 0) (pos greatest_price) (get_or (all_prices P) k (pos 0)) (p.0 k l)

in-range : {z : ℤ} → PriceRange z → price_in_range z ≡ true
in-range p = le-between p.0 p.1

-- Prices without odd sets, where they are in range and cover every edge.
pub unset_priced : {g : Graph} {bound vertex edge : List ℤ} → length vertex ≡ vertices g → length edge ≡ g.edges →
    ((v : ℕ) → v < vertices g → PriceRange (get_or vertex v (pos 0))) → ((e : ℕ) → e < g.edges → PriceRange (get_or edge e (pos 0))) →
    ((e : ℕ) → e < g.edges → worth_at g e ≤ℤ cover_of g (without_sets vertex edge) e) → Priced g bound (without_sets vertex edge)
unset_priced vertex_long edge_long vertex_range edge_range covering = record {
  lengths = record { vertex = vertex_long; edge = edge_long; set = refl; set_vertices = refl; set_edges = refl };
  vertex_range = vertex_range;
  edge_range = edge_range;
  set_range = λ s l. absurd (omega arith);
  few_sets = omega arith;
  rules = λ s l. absurd (omega arith);
  covering = covering;
}

-- Such prices pass.
pub priced_passes : {g : Graph} {bound : List ℤ} {P : Prices} → Priced g bound P → Passes (price_test P ∷ set_test g bound P ∷ cover_test g P ∷ [])
priced_passes {g} {bound} {P} p = (
  together (λ z. price_in_range z ≡ true) P.vertex (P.edge ++ P.set) (λ v l. in-range (p.vertex_range v (omega (arith, p.lengths.vertex))))
      (together (λ z. price_in_range z ≡ true) P.edge P.set (λ e l. in-range (p.edge_range e (omega (arith, p.lengths.edge))))
      (λ s l. in-range (p.set_range s (omega (arith, p.lengths.set))))),
  (λ s l. lt-ltb s 16 (omega (arith, p.few_sets)) also p.rules s (omega arith), (λ e l. le-le_z (p.covering e l), tt)),
)

pub priced_dual : {g : Graph} {bound : List ℤ} {P : Prices} → Priced g bound P → DualFeasible g bound P
priced_dual p = record {
  vertex_prices = λ v l. (p.vertex_range v l).0;
  edge_prices = λ e l. (p.edge_range e l).0;
  set_prices = λ s l. (p.set_range s l).0;
  rules = p.rules;
  covering = p.covering;
}

-- ---- the measuring call and the solver

-- What the measuring call's tests show.
pub record MeasurePassed (g : Graph) (bound : List ℤ) (x : List ℕ) (P : Prices) (M : Measures) : Type 0 where
  pub passed : Passed g
  pub bounded : Bounded (vertices g) bound
  pub feasible : Feasible g bound x
  pub priced : Priced g bound P
  pub numbers : M ≡ measures g bound x P

yields_same : {A : Type 0} {a b : A} → ◌≡◌ {A = Outcome A} (Ok a) (Ok b) → a ≡ b
yields_same e = cc

pub measure-passed : {g : Graph} {bound : List ℤ} {x : List ℕ} {P : Prices} {M : Measures} → measure g bound x P ≡ Ok M → MeasurePassed g bound x P M
unfolding measure
measure-passed {g} {bound} {x} {P} {M} e =
    let p = passes (measure_tests g bound x P) (Ok (measures g bound x P)) M e in
    let lengths =
    held (graph_lengths g)
    (eqb (length bound) (vertices g) ∷ eqb (length x) g.edges ∷ eqb (length P.vertex) (vertices g) ∷ eqb (length P.edge) g.edges
    ∷ eqb (length P.set) P.sets ∷ eqb (length P.marks.vertices) (vertex_words * P.sets) ∷ eqb (length P.marks.edges) (edge_words * P.sets) ∷ [])
    (p.0.0 0 (omega arith)) in
    let later = passes_split (graph_tests g)
    (bound_test g bound ∷ mark_test g x ∷ degree_test g bound x ∷ price_test P ∷ set_test g bound P ∷ cover_test g P ∷ []) p.0.1 in
    record {
      passed = graph_passed g lengths.0 later.0;
      bounded = bounds_passed g bound (eqb-true (length bound) (vertices g) lengths.1.0) (later.1.0, tt);
      feasible = subgraph_passed g bound x lengths.1.1.0 (later.1.1.0, (later.1.1.1.0, tt));
      priced = prices_passed bound (record {
        vertex = eqb-true (length P.vertex) (vertices g) lengths.1.1.1.0;
        edge = eqb-true (length P.edge) g.edges lengths.1.1.1.1.0;
        set = eqb-true (length P.set) P.sets lengths.1.1.1.1.1.0;
        set_vertices = eqb-true (length P.marks.vertices) (vertex_words * P.sets) lengths.1.1.1.1.1.1.0;
        set_edges = eqb-true (length P.marks.edges) (edge_words * P.sets) lengths.1.1.1.1.1.1.1.0;
      }) later.1.1.1.1;
      numbers = sym (yields_same p.1);
    }

-- The measuring call takes what passes.
pub measure-takes : {g : Graph} {bound : List ℤ} {x : List ℕ} {P : Prices} → Passed g → Bounded (vertices g) bound → Feasible g bound x → Priced g bound P →
    measure g bound x P ≡ Ok (measures g bound x P)
unfolding measure
measure-takes {g} {bound} {x} {P} S B F p =
    let subgraph = feasible_passes F in
    pass (measure_tests g bound x P) (
      λ k l. long,
      passes_join (graph_tests g) (bound_test g bound ∷ mark_test g x ∷ degree_test g bound x ∷ price_test P ∷ set_test g bound P ∷ cover_test g P ∷ [])
          (passed_tests S)
          ((bounds_test g bound B).0, (subgraph.0, (subgraph.1.0, priced_passes p))),
    )
    (Ok (measures g bound x P))
  where
    long : measure_lengths g bound x P ≡ true
    long =
        passed_lengths S
        also eq-eqb (length bound) (vertices g) B.long
        also eq-eqb (length x) g.edges F.long
        also eq-eqb (length P.vertex) (vertices g) p.lengths.vertex
        also eq-eqb (length P.edge) g.edges p.lengths.edge
        also eq-eqb (length P.set) P.sets p.lengths.set
        also eq-eqb (length P.marks.vertices) (vertex_words * P.sets) p.lengths.set_vertices
        also eq-eqb (length P.marks.edges) (edge_words * P.sets) p.lengths.set_edges

-- What the solver's tests show.
pub record SolvePassed (g : Graph) (bound : List ℤ) (index : List ℕ) (lent : Lent) : Type 0 where
  pub passed : Passed g
  pub bounded : Bounded (vertices g) bound
  pub bipartite : g.kind ≡ Bipartite
  pub index_long : length index ≡ index_numbers g
  pub index_passes : Passes (index_test g index ∷ [])
  pub few_rows : g.rows ≤ 64
  pub few_columns : g.columns ≤ 64
  pub row_side : (e : ℕ) → e < g.edges → first_end g e < g.rows
  pub column_side : (e : ℕ) → e < g.edges → g.rows ≤ second_end g e
  pub chosen_long : lent.chosen ≡ g.edges
  pub vertex_long : lent.vertex_prices ≡ vertices g
  pub edge_long : lent.edge_prices ≡ g.edges
  pub workspace_long : lent.workspace ≡ workspace_numbers

record Sides (k : Kind) (rows columns : ℕ) : Type 0 where
  bipartite : k ≡ Bipartite
  few_rows : rows ≤ 64
  few_columns : columns ≤ 64
  column_side : (c : ℕ) → rows ≤ column_vertex k rows c

bipartite-true : (k : Kind) (rows columns edges : ℕ) → is_bipartite k ≡ true → sizes_in_range k rows columns edges ≡ true → Sides k rows columns
bipartite-true Bipartite rows columns edges e h =
    let sizes = held (up_to 64 rows) (up_to 64 columns ∷ leb edges 1024 ∷ []) h in
    record {
      bipartite = refl;
      few_rows = (up_to-true 64 rows sizes.0).greatest;
      few_columns = (up_to-true 64 columns sizes.1.0).greatest;
      column_side = λ c. omega arith;
    }
bipartite-true General rows columns edges e h = absurd (true≢false (sym e))

pub solve-passed : (g : Graph) (bound : List ℤ) (index : List ℕ) (lent : Lent) → solve g bound index lent ≡ Ok tt → SolvePassed g bound index lent
unfolding solve
solve-passed g bound index lent e =
    let p = passes (solver_tests g bound index lent) (Ok tt) tt e in
    let others = other_lengths (shape_of g) (length index) lent in
    let first = both (graph_lengths g) (eqb (length bound) (vertices g) && others) (p.0.0 0 (omega arith)) in
    let second = both (eqb (length bound) (vertices g)) others first.1 in
    let lengths =
    held (eqb (length index) (index_numbers g))
    (eqb lent.chosen g.edges ∷ eqb lent.vertex_prices (vertices g) ∷ eqb lent.edge_prices g.edges ∷ eqb lent.workspace workspace_numbers ∷ [])
    second.1 in
    let later = passes_split (graph_tests g) (bound_test g bound ∷ kind_test g ∷ index_test g index ∷ []) p.0.1 in
    let passed = graph_passed g first.0 later.0 in
    let sides = bipartite-true g.kind g.rows g.columns g.edges (later.1.1.0 0 (omega arith)) (later.0.0 0 (omega arith)) in
    record {
      passed = passed;
      bounded = bounds_passed g bound (eqb-true (length bound) (vertices g) second.0) (later.1.0, tt);
      bipartite = sides.bipartite;
      index_long = eqb-true (length index) (index_numbers g) lengths.0;
      index_passes = later.1.1.1;
      few_rows = sides.few_rows;
      few_columns = sides.few_columns;
      row_side = λ e l. (passed.sound.ends e l).in_rows;
      column_side = λ e l. sides.column_side (column_at g e);
      chosen_long = eqb-true lent.chosen g.edges lengths.1.0;
      vertex_long = eqb-true lent.vertex_prices (vertices g) lengths.1.1.0;
      edge_long = eqb-true lent.edge_prices g.edges lengths.1.1.1.0;
      workspace_long = eqb-true lent.workspace workspace_numbers lengths.1.1.1.1.0;
    }
