-- What inner functions are lent of arrays of zeros, and what these hold when it has come back.
use Prim.Native.Nat.{ℕ, ◌+◌, ◌≤◌}
use mathlib.Core.Path.{◌≡◌, sym, ap, ap₂, ◌∙◌}
use mathlib.Core.List.{List, [], ◌++◌}
use native.Mathlib.Omega.{arith}
use lib.IntN.{ℤ}
use lib.ListN.{length, take, replicate, length-replicate, get_or-replicate}
use lib.Seq.{length-take-le, get_or-take, ext_get_or}
use Rattle.graph.specs.declared.Kind.TheVariants.{Bipartite}
use Rattle.graph.specs.declared.Shape.{Shape}
use Rattle.graph.specs.Graph.{Graph, graph_of, vertices_of, vertices_in}
use Rattle.graph.specs.Doubled.{doubled}
use Rattle.graph.specs.Index.{index_of, index_numbers}
use Rattle.graph.specs.Passed.{Sound}
use Rattle.graph.proofs.Index.{index-long}
use Rattle.index_builder.specs.Building.{HoldsIndex}

-- The first k numbers of a list that begins with a graph's index, which does not depend on weights.
pub index_first : (s : Shape) (row column : List ℕ) (weight : List ℤ) (xs : List ℕ) {k : ℕ} → Sound s row column → k ≡ index_numbers (graph_of s row column []) →
    k ≤ length xs → HoldsIndex (graph_of s row column []) xs → take k xs ≡ index_of (graph_of s row column weight)
index_first s row column weight xs {k} S is fits H =
    let g = graph_of s row column [] in
    let long = length-take-le k xs fits in
    ext_get_or 0 (take k xs) (index_of g) (long ∙ is ∙ sym (index-long g S))
    (λ i l. get_or-take k xs i 0 (omega (arith, long)) ∙ H.each i (omega (arith, long, is)))

-- The first k of n zeros.
pub zeros-first : {A : Type 0} (z : A) (n : ℕ) {k : ℕ} → k ≤ n → take k (replicate n z) ≡ replicate k z
zeros-first z n {k} fits =
    let long = length-take-le k (replicate n z) (omega (arith, length-replicate n z)) in
    ext_get_or z (take k (replicate n z)) (replicate k z) (long ∙ sym (length-replicate k z))
    (λ i l.
    get_or-take k (replicate n z) i z (omega (arith, long))
    ∙ get_or-replicate n i z z (omega (arith, long))
    ∙ sym (get_or-replicate k i z z (omega (arith, long))))

-- A shape and lists that are those of the doubled graph.
pub same_graph : (g : Graph) {d : Shape} {row column : List ℕ} {weight : List ℤ} → d.kind ≡ Bipartite → d.rows ≡ g.rows → d.columns ≡ g.rows →
    d.edges ≡ g.edges + g.edges → row ≡ g.row ++ g.column → column ≡ g.column ++ g.row → weight ≡ g.weight ++ g.weight →
    graph_of d row column weight ≡ doubled g
same_graph g kind rows columns edges row column weight = cc

-- It has as many vertices.
pub same-order : (d : Shape) {n : ℕ} → d.kind ≡ Bipartite → d.rows ≡ n → d.columns ≡ n → vertices_in d ≡ n + n
same-order d kind rows columns = ap (λ k. vertices_of k d.rows d.columns) kind ∙ ap₂ ◌+◌ rows columns
