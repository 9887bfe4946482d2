-- The laws of the lists of chosen edges: no list is longer than its vertex has edges, the lists of two column vertices share no place, and none of
-- it depends on the weights.
use Prim.Native.Nat.{ℕ, zero, suc, ◌+◌, ◌-◌, ◌*◌, ◌≤◌, ◌<◌}
use mathlib.Core.Path.{◌≡◌, refl, sym, ap, ◌∙◌}
use mathlib.Core.Logic.{◌≢◌, ⊎_elim}
use mathlib.Core.List.{List, []}
use native.Mathlib.Omega.{arith}
use native.Mathlib.Decide.{ℕ_discrete}
use native.Mathlib.Nat.{eq-zero-or-pos}
use lib.IntN.{ℤ}
use lib.ListN.{length}
use Rattle.integers.specs.Sum.{sum, is}
use Rattle.integers.proofs.Sum.{is_same, sum-cong, sum-add, sum-none, sum-term}
use Rattle.graph.specs.declared.Kind.TheVariants.{Bipartite}
use Rattle.graph.specs.declared.Shape.{Shape}
use Rattle.graph.specs.Graph.{Graph, graph_of, shape_of, vertices, column_at, second_end}
use Rattle.graph.specs.Subgraph.{mark_at, ends_at, degree}
use Rattle.graph.specs.Index.{edges_of, offset}
use Rattle.graph.specs.Passed.{Sound}
use Rattle.graph.proofs.Index.{seen, seen_next, offset-next, offset-more}
use Rattle.method.specs.Lists.{nowhere, Among, Listing}
use Rattle.method.proofs.Leading.{lt-or_ge}
use Rattle.method.proofs.Solvable.{after_rows}
use Rattle.method.proofs.Places.{columns_places}

-- ---- degrees and edges

-- A mark of 0 or 1 splits a number into what is chosen of it and what is not.
split : (m a : ℕ) → m ≤ 1 → m * a + (1 - m) * a ≡ a
split m a l = ⊎_elim
    (λ z. ap (λ k. k * a + (1 - k) * a) z ∙ omega arith)
    (λ s. ap (λ k. k * a + (1 - k) * a) (let o : m ≡ 1 = omega arith in o) ∙ omega arith)
    (eq-zero-or-pos m)

-- An edge is one of its second end's.
pub ends_second : (g : Graph) (e : ℕ) {v : ℕ} → second_end g e ≡ v → 0 < ends_at g v e
ends_second g e {v} q = omega (arith, ap (λ k. is k v) q, is_same v)

module _ (g : Graph) (s : Sound (shape_of g) g.row g.column) where
  -- How many of the first k edges have an end at v.
  ends_seen : (v k : ℕ) → k ≤ g.edges → sum k (λ e. ends_at g v e) ≡ seen g v k
  ends_seen v zero l = refl
  ends_seen v (suc k) l = omega (arith, ends_seen v k (omega arith), seen_next g s v k (omega arith))

  module _ (x : List ℕ) (marks : (e : ℕ) → mark_at x e ≤ 1) (v : ℕ) where
    -- The edges of v are those chosen and the others.
    others : degree g x v + sum g.edges (λ e. (1 - mark_at x e) * ends_at g v e) ≡ length (edges_of g v)
    others =
        sym (sum-add g.edges (λ e. mark_at x e * ends_at g v e) (λ e. (1 - mark_at x e) * ends_at g v e))
        ∙ sum-cong g.edges _ _ (λ e l. split (mark_at x e) (ends_at g v e) (marks e))
        ∙ ends_seen v g.edges (omega arith)

    -- A vertex has fewer chosen edges than edges, where one of its edges is not chosen.
    pub degree-less : (e : ℕ) → e < g.edges → mark_at x e ≡ 0 → 0 < ends_at g v e → degree g x v < length (edges_of g v)
    degree-less e l z p =
        let one = ap (λ m. (1 - m) * ends_at g v e) z in
        omega (arith, others, one, sum-term g.edges e (λ d. (1 - mark_at x d) * ends_at g v d) l)

-- ---- places

-- The second end of an edge is a column vertex, and the column vertices have as many places as there are edges.
pub record Columns (g : Graph) : Type 0 where
  pub from : (e : ℕ) → e < g.edges → g.rows ≤ second_end g e
  pub to : (e : ℕ) → e < g.edges → second_end g e < vertices g
  pub places : offset g (vertices g) ≡ offset g g.rows + g.edges

pub columns : (g : Graph) → g.kind ≡ Bipartite → Sound (shape_of g) g.row g.column → Columns g
columns g bipartite s = record {
  from = λ e l. after_rows g.kind g.rows (column_at g e) bipartite;
  to = λ e l. (s.ends e l).second;
  places = columns_places g bipartite s;
}

-- A place of a column vertex's list is one from the vertex's offset to the next, counted from that of the first column vertex.
module _ {g : Graph} {used : ℕ → ℕ} {c k : ℕ} (a : g.rows ≤ c) (f : used c ≤ length (edges_of g c)) (m : Among g used c k) where
  place_from : offset g c ≤ offset g g.rows + k
  place_from = omega (arith, offset-more g g.rows c a, m.from)

  place_to : offset g g.rows + k < offset g (c + 1)
  place_to = omega (arith, offset-more g g.rows c a, m.to, offset-next g c)

module _ {g : Graph} {used : ℕ → ℕ} (fits : (c : ℕ) → g.rows ≤ c → c < vertices g → used c ≤ length (edges_of g c))
    {c k : ℕ} (a : g.rows ≤ c) (b : c < vertices g) (m : Among g used c k) where
  -- Every place stands before the end of all lists.
  pub among_below : Columns g → k < nowhere g
  among_below n = omega (arith, place_to a (fits c a b) m, offset-more g (c + 1) (vertices g) (omega arith), n.places)

  pub among_somewhere : Columns g → k ≢ nowhere g
  among_somewhere n q = omega (arith, q, among_below n)

  -- A place is of one column vertex's list only.
  pub one_list : {d : ℕ} → g.rows ≤ d → d < vertices g → Among g used d k → c ≡ d
  one_list {d} a' b' n = elim (ℕ_discrete c d) [
    | yes q ↦ q
    | no q ↦ absurd (⊎_elim
        (λ l. omega (arith, place_to a (fits c a b) m, place_from a' (fits d a' b') n, offset-more g (c + 1) d (omega arith)))
        (λ l. omega (arith, place_to a' (fits d a' b') n, place_from a (fits c a b) m, offset-more g (d + 1) c (omega (arith, q))))
        (lt-or_ge c d))
  ]

-- ---- lists

-- The lists are the same where the column vertices have as many places.
pub recount : {g : Graph} {x : List ℕ} {used used' list place : ℕ → ℕ} {hole : ℕ} → Columns g →
    ((c : ℕ) → g.rows ≤ c → c < vertices g → used c ≡ used' c) → Listing g x used list place hole → Listing g x used' list place hole
recount {g} n same t = record {
  holds = λ c k a b m o. t.holds c k a b (record { from = m.from; to = omega (arith, m.to, same c a b) }) o;
  held = λ e l o. let h = t.held e l o in record {
    among = record { from = h.among.from; to = omega (arith, h.among.to, same (second_end g e) (n.from e l) (n.to e l)) };
    apart = h.apart;
    is = h.is;
  };
  fits = λ c a b. omega (arith, same c a b, t.fits c a b);
}

-- Where nothing is chosen, every list is empty.
pub empty_lists : (g : Graph) (x : List ℕ) → ((e : ℕ) → mark_at x e ≡ 0) → {list place : ℕ → ℕ} → Listing g x (degree g x) list place (nowhere g)
empty_lists g x none = record {
  holds = λ c k a b m n. absurd (omega (arith, m.from, m.to, empty c));
  held = λ e l o. absurd (omega (arith, o, none e));
  fits = λ c a b. omega (arith, empty c);
}
  where
    empty : (c : ℕ) → degree g x c ≡ 0
    empty c = sum-none g.edges _ (λ e l. ap (λ m. m * ends_at g c e) (none e) ∙ omega arith)

-- ---- weights

module _ {s : Shape} {row column x : List ℕ} {used list place : ℕ → ℕ} {hole : ℕ} where
  -- Lists do not depend on the weights.
  weigh : (weight weight' : List ℤ) → Listing (graph_of s row column weight) x used list place hole → Listing (graph_of s row column weight') x used list place hole
  weigh weight weight' t = record {
    holds = λ c k a b m n. let i = t.holds c k a b (record { from = m.from; to = m.to }) n in record {
      inside = i.inside;
      mark = i.mark;
      column = i.column;
      back = i.back;
    };
    held = λ e l o. let h = t.held e l o in record { among = record { from = h.among.from; to = h.among.to }; apart = h.apart; is = h.is };
    fits = t.fits;
  }

  -- With weights, and without.
  pub reweigh : {weight : List ℤ} → Listing (graph_of s row column []) x used list place hole → Listing (graph_of s row column weight) x used list place hole
  reweigh {weight} t = weigh [] weight t

  pub unweigh : {weight : List ℤ} → Listing (graph_of s row column weight) x used list place hole → Listing (graph_of s row column []) x used list place hole
  unweigh {weight} t = weigh weight [] t
