-- The edges of one row vertex are listed place by place: one more that is stored, and kept where it is to be.
use Prim.Native.Nat.{ℕ, ◌+◌, ◌≤◌, ◌<◌}
use mathlib.Core.Path.{◌≡◌, refl, sym, ap, ◌∙◌}
use mathlib.Core.Logic.{◌≢◌}
use mathlib.Core.Bool.{Bool, true, false, cond, true≢false}
use mathlib.Core.List.{List}
use native.Mathlib.Omega.{arith}
use native.Mathlib.Decide.{ℕ_discrete}
use lib.IntN.{ℤ}
use lib.ListN.{length, get_or, set}
use lib.Seq.{get_or-set_same, get_or-set_other}
use Rattle.method.specs.declared.KeptEdge.{KeptEdge}
use Rattle.method.specs.Lists.{kept_at, edges}
use Rattle.arcs.specs.Arcs.{listed_value, head_vertex, listed_edge, ArcEntry, KeptRow, SameArcs}

-- The edge that is read at place i of an index can be kept.
pub read : (index : List ℕ) (i : ℕ) {m n e : ℕ} → m ≡ n → e + 1 ≡ get_or index (m + 1 + i) 0 → e ≡ listed_edge index n i
read index i s e = omega (arith, e, ap (λ k. get_or index (k + 1 + i) 0) s)

pub same-stored : {from k : ℕ} (a : KeptEdge) {first old new : List KeptEdge} → from ≤ k → SameArcs from first old → new ≡ set old k a →
    SameArcs from first new
same-stored {k = k} a {old = old} l same s =
    record { each = λ j b. ap (λ z. kept_at z j) s ∙ get_or-set_other old k j a _ (λ i. omega (arith, i)) ∙ same.each j b }

-- An entry stays where what stands at its place stays.
still : {rows : ℕ} {column : List ℕ} {weight : List ℤ} {edge_at : ℕ → ℕ} {from to j : ℕ} {arc arc' : List KeptEdge} →
    ArcEntry rows column weight edge_at from to arc j → kept_at arc' j ≡ kept_at arc j → ArcEntry rows column weight edge_at from (to + 1) arc' j
still {rows} {column} {weight} n same =
    let i = ap (λ (a : KeptEdge). a.edge) same in
    record {
      place = n.place;
      low = n.low;
      high = omega (arith, n.high);
      is = i ∙ n.is;
      column_is = ap (λ (a : KeptEdge). a.head) same ∙ n.column_is ∙ ap (head_vertex rows column) (sym i);
      weight_is = ap (λ (a : KeptEdge). a.value) same ∙ n.weight_is ∙ ap (listed_value weight) (sym i);
    }

module _ {rows : ℕ} {column : List ℕ} {weight : List ℤ} {keep : ℕ → Bool} {edge_at : ℕ → ℕ} {from : ℕ} where
  -- One place more: the edge there, e, is stored at place k.
  module _ {i k e : ℕ} {arc arc' : List KeptEdge} (K : KeptRow rows column weight keep edge_at from i arc k) (at : e ≡ edge_at i) (few : k < length arc)
      (s : arc' ≡ set arc k (record { edge = e; head = head_vertex rows column e; value = listed_value weight e })) where
    other : (j : ℕ) → j ≢ k → kept_at arc' j ≡ kept_at arc j
    other j n = ap (λ z. kept_at z j) s ∙ get_or-set_other arc k j _ _ n

    is_here : kept_at arc' k ≡ record { edge = e; head = head_vertex rows column e; value = listed_value weight e }
    is_here = ap (λ z. kept_at z k) s ∙ get_or-set_same arc k _ _ few

    edge_here : edges arc' k ≡ e
    edge_here = ap (λ (a : KeptEdge). a.edge) is_here

    -- What is kept before stays, and e is kept if it is to be.
    before : (j : ℕ) → from ≤ j → j < k → ArcEntry rows column weight edge_at from (i + 1) arc' j
    before j a b = still (K.each j a b) (other j (λ s. omega (arith, s)))

    here : ArcEntry rows column weight edge_at from (i + 1) arc' k
    here = record {
      place = i;
      low = omega (arith, K.low, K.high);
      high = omega arith;
      is = edge_here ∙ at;
      column_is = ap (λ (a : KeptEdge). a.head) is_here ∙ ap (head_vertex rows column) (sym edge_here);
      weight_is = ap (λ (a : KeptEdge). a.value) is_here ∙ ap (listed_value weight) (sym edge_here);
    }

    -- Where edges before it are kept, they still are.
    found : (j : ℕ) → from ≤ j → j < i → keep (edge_at j) ≡ true → (m : ℕ) × (from ≤ m) × (m < k) × (edges arc' m ≡ edge_at j)
    found j a b l =
        let f = K.all j a b l in
        (f.0, f.1, f.2, ap (λ (a : KeptEdge). a.edge) (other f.0 (λ n. omega (arith, n, f.2))) ∙ f.3)

    pub row_more : {next : ℕ} → next ≡ cond (keep e) (k + 1) k → KeptRow rows column weight keep edge_at from (i + 1) arc' next
    row_more {next} n = go (keep e) refl n
      where
        go : (b : Bool) → keep e ≡ b → next ≡ cond b (k + 1) k → KeptRow rows column weight keep edge_at from (i + 1) arc' next
        go true y n = rw n (record {
          low = omega (arith, K.low);
          high = omega (arith, K.high);
          each = λ j a b. elim (ℕ_discrete j k) [ yes s ↦ rw s here | no s ↦ before j a (omega (arith, s)) ];
          all = λ j a b c. elim (ℕ_discrete j i) [
            | yes q ↦ (k, K.low, omega arith, edge_here ∙ at ∙ ap edge_at (sym q))
            | no q ↦ let f = found j a (omega (arith, q)) c in (f.0, f.1, omega (arith, f.2), f.3)
          ];
        })
        go false y n = rw n (record {
          low = K.low;
          high = omega (arith, K.high);
          each = before;
          all = λ j a b c. elim (ℕ_discrete j i) [
            | yes q ↦ absurd (true≢false (sym c ∙ ap (λ d. keep (edge_at d)) q ∙ ap keep (sym at) ∙ y))
            | no q ↦ found j a (omega (arith, q)) c
          ];
        })
