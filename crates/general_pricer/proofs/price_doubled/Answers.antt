-- The doubled graph is built in the fronts of arrays, and what came back is the doubled graph.
use Rattle.std.proofs.Common.{◌≡◌, ◌∙◌, sym, refl, ap, subst, length, ◌+◌, ◌++◌, arith, List, take, drop, ℕ}
use Rattle.std.proofs.lemmas.List.{length-append}
use mathlib.Core.Path.{subst₂, ap₂}
use lib.Seq.{take_at}
use Rattle.graph.specs.Graph.{graph_of, vertices_in}
use Rattle.graph.specs.declared.Shape.{Shape}
use Rattle.graph.specs.declared.Kind.TheVariants.{Bipartite}
use Rattle.doubling.specs.Doublable.{Doublable}
use lib.IntN.{ℤ}
use Rattle.graph.specs.Doubled.{doubled, doubled_bounds}
use Rattle.graph.specs.Passed.{Bounded}
use Rattle.method.specs.Method.{Solvable}
use Rattle.doubling.proofs.Doubled.{general-vertices, doubled-passed, doubled-bounded}
use Rattle.general_pricer.proofs.Lent.{same_graph, same-order}
use Rattle.general_pricer.proofs.Summed.{doubly_priced}
use Rattle.general_pricer.proofs.price_doubled.Goals as goal

-- The shape of the doubled graph.
abbrev IsDoubledShape : Shape → Shape → Type 0
IsDoubledShape s d = (d.kind ≡ Bipartite) × (d.rows ≡ s.rows) × (d.columns ≡ s.rows) × (d.edges ≡ s.edges + s.edges)

-- Two lists that came back in the front of an array.
joined : {A : Type 0} {k : ℕ} (xs ys rest : List A) {out : List A} → out ≡ xs ++ ys → length xs + length ys ≡ k → take k (out ++ drop k rest) ≡ xs ++ ys
joined {k = k} xs ys rest {out} e long = take_at out (drop k rest) k (ap length e ∙ length-append xs ys ∙ long) ∙ e

-- What came back is the doubled graph: of that shape, with the ends in both directions and the weights twice.
doubled-built : {s d : Shape} {row column rows columns : List ℕ} {weight weights : List ℤ} (from to : List ℕ) (by : List ℤ) → Doublable (graph_of s row column weight) → IsDoubledShape s d →
    rows ≡ row ++ column → columns ≡ column ++ row → weights ≡ weight ++ weight →
    graph_of d (take d.edges (rows ++ drop d.edges from)) (take d.edges (columns ++ drop d.edges to)) (take d.edges (weights ++ drop d.edges by)) ≡
    doubled (graph_of s row column weight)
doubled-built {s} {d} {row} {column} {weight = weight} from to by D is p q r =
    let P = D.passed in
    let sound = P.sound in
    same_graph (graph_of s row column weight) is.0 is.1 is.2 is.3
    (joined row column from p (omega (arith, sound.row_long, sound.column_long, is.3)))
    (joined column row to q (omega (arith, sound.row_long, sound.column_long, is.3)))
    (joined weight weight by r (omega (arith, P.weight_long, is.3)))

-- The bounds twice, for as many vertices as it has.
bounds-built : {s d : Shape} {row column : List ℕ} {weight bound bounds : List ℤ} {n : ℕ} (by : List ℤ) → Doublable (graph_of s row column weight) → IsDoubledShape s d →
    Bounded (vertices_in s) bound → bounds ≡ bound ++ bound → n ≡ vertices_in d → take n (bounds ++ drop n by) ≡ doubled_bounds bound
bounds-built {s} {d} {bound = bound} by D is B e count =
    joined bound bound by e (ap₂ ◌+◌ (B.long ∙ general-vertices D) (B.long ∙ general-vertices D) ∙ sym (same-order d is.0 is.1 is.2) ∙ sym count)

pub sum_prices-requires-clause-solvable : goal.sum_prices-requires-clause-solvable
sum_prices-requires-clause-solvable c =
    let D = c.requires.doublable in
    subst Solvable (sym (doubled-built _ _ _ D c.doubled_shape-d.ensures c.join.ensures c.join-2.ensures c.join-3.ensures)) (record { bipartite = refl; passed = doubled-passed D })

pub sum_prices-requires-clause-bounded : goal.sum_prices-requires-clause-bounded
sum_prices-requires-clause-bounded c =
    let D = c.requires.doublable in
    let is = c.doubled_shape-d.ensures in
    let B = c.requires.bounded in
    subst₂ Bounded (sym (same-order c.doubled_shape-d.result is.0 is.1 is.2)) (sym (bounds-built _ D is B c.join-4.ensures c.vertex_count-n.ensures)) (doubled-bounded D B)

pub returns : goal.returns
returns c =
    let D = c.requires.doublable in
    let is = c.doubled_shape-d.ensures in
    let long = c.requires.vertex_price_len in
    let kept = c.sum_prices.auto in
    doubly_priced (doubled-built _ _ _ D is c.join.ensures c.join-2.ensures c.join-3.ensures) (bounds-built _ D is c.requires.bounded c.join-4.ensures c.vertex_count-n.ensures)
    (kept.vertex_price ∙ long.0) (kept.edge_price ∙ long.1) c.sum_prices.ensures
