-- What one step of the walk back does to the lists of chosen edges.
use Prim.Native.Nat.{ℕ, ◌+◌, ◌≤◌, ◌<◌}
use mathlib.Core.Path.{◌≡◌, sym, ap, ◌∙◌, subst}
use mathlib.Core.Logic.{◌≢◌}
use mathlib.Core.List.{List}
use native.Mathlib.Omega.{arith}
use native.Mathlib.Decide.{ℕ_discrete}
use lib.ListN.{length}
use Rattle.integers.specs.Sum.{is}
use Rattle.integers.proofs.Sum.{is_same, is-other}
use Rattle.graph.specs.Graph.{Graph, vertices, second_end}
use Rattle.graph.specs.Subgraph.{mark_at}
use Rattle.graph.specs.Index.{edges_of}
use Rattle.method.specs.Lists.{start_in, nowhere, Among, Item, Stands, Listing}
use Rattle.method.proofs.Leading.{Put}
use Rattle.method.proofs.Lists.{Columns, among_somewhere, one_list}

module _ {g : Graph} {x : List ℕ} {used list place : ℕ → ℕ} (n : Columns g) where
  -- The list of column vertex v has an edge less than the vertex, and gets one more place: that is the hole.
  module _ {v gap : ℕ} (from : g.rows ≤ v) (to : v < vertices g) (t : Listing g x used list place (nowhere g))
      (gap_is : gap ≡ start_in g v + used v) (less : used v < length (edges_of g v)) where
    abbrev used' : ℕ → ℕ
    used' c = used c + is v c

    fits' : (c : ℕ) → g.rows ≤ c → c < vertices g → used' c ≤ length (edges_of g c)
    fits' c a b = elim (ℕ_discrete v c) [
      | yes q ↦ omega (arith, less, ap (λ k. is k c) q, is_same c, ap used q, ap (λ k. length (edges_of g k)) q)
      | no q ↦ omega (arith, is-other v c q, t.fits c a b)
    ]

    pub gap_among : Among g used' v gap
    gap_among = record { from = omega (arith, gap_is); to = omega (arith, gap_is, is_same v) }

    -- A place that is not the gap was there before.
    before : {c k : ℕ} → Among g used' c k → k ≢ gap → Among g used c k
    before {c} m o = record {
      from = m.from;
      to = elim (ℕ_discrete v c) [
        | yes q ↦ omega (arith, m.to, o, gap_is, ap (λ k. is k c) q, is_same c, ap used q, ap (start_in g) q)
        | no q ↦ omega (arith, m.to, is-other v c q)
      ];
    }

    -- No chosen edge stands at the gap.
    stands : (e : ℕ) → e < g.edges → Stands g used list place (nowhere g) e → Stands g used' list place gap e
    stands e l h =
        let m : Among g used' (second_end g e) (place e) = record { from = h.among.from; to = omega (arith, h.among.to) } in
        let own : place e ≡ gap → second_end g e ≡ v =
        λ q. one_list fits' (n.from e l) (n.to e l) m from to (record { from = omega (arith, q, gap_among.from); to = omega (arith, q, gap_among.to) }) in
        record {
          among = m;
          apart = λ q. omega (arith, q, h.among.to, gap_is, ap used (own q), ap (start_in g) (own q));
          is = h.is;
        }

    pub widened : Listing g x used' list place gap
    widened = record {
      holds = λ c k a b m o. let m' = before m o in t.holds c k a b m' (among_somewhere t.fits a b m' n);
      held = λ e l o. stands e l (t.held e l o);
      fits = fits';
    }

  -- Edge e is put at the hole, which is in its column vertex's list: it stands there, and the others where they stood.
  module _ {list' place' : ℕ → ℕ} {e hole : ℕ} (l : e < g.edges) (puts : Put list list' hole e) (places : Put place place' e hole)
      (m : Among g used (second_end g e) hole) (t : Listing g x used list place hole) where
    stands_now : Stands g used list' place' (nowhere g) e
    stands_now =
        let among : Among g used (second_end g e) (place' e) = record { from = omega (arith, places.at, m.from); to = omega (arith, places.at, m.to) } in
        record { among = among; apart = among_somewhere t.fits (n.from e l) (n.to e l) among n; is = ap list' places.at ∙ puts.at }

    stands_still : (d : ℕ) → d < g.edges → d ≢ e → Stands g used list place hole d → Stands g used list' place' (nowhere g) d
    stands_still d b q h =
        let there : place' d ≡ place d = places.other d q in
        let among : Among g used (second_end g d) (place' d) = record { from = omega (arith, there, h.among.from); to = omega (arith, there, h.among.to) } in
        record {
          among = among;
          apart = among_somewhere t.fits (n.from d b) (n.to d b) among n;
          is = ap list' there ∙ puts.other (place d) h.apart ∙ h.is;
        }

  module _ {y : List ℕ} {e : ℕ} (l : e < g.edges) where
    -- A chosen edge that is chosen no more leaves its place as the hole.
    pub unlisted : Put (mark_at x) (mark_at y) e 0 → mark_at x e ≡ 1 → Listing g x used list place (nowhere g) → Listing g y used list place (place e)
    unlisted p o t = record {
      holds = λ c k a b m away.
          let i = t.holds c k a b m (among_somewhere t.fits a b m n) in
          let other : list k ≢ e = λ q. away (sym i.back ∙ ap place q) in
          record { inside = i.inside; mark = p.other (list k) other ∙ i.mark; column = i.column; back = i.back };
      held = λ d b z.
          let other : d ≢ e = λ q. omega (arith, z, ap (mark_at y) q, p.at) in
          let h = t.held d b (sym (p.other d other) ∙ z) in
          record { among = h.among; apart = λ q. other (sym h.is ∙ ap list q ∙ (t.held e l o).is); is = h.is };
      fits = t.fits;
    }

    -- An edge that is chosen now takes the hole, which is in its column vertex's list.
    module _ {list' place' : ℕ → ℕ} {hole : ℕ} (p : Put (mark_at x) (mark_at y) e 1) (z : mark_at x e ≡ 0)
        (puts : Put list list' hole e) (places : Put place place' e hole)
        (m : Among g used (second_end g e) hole) (t : Listing g x used list place hole) where
      at_hole : (c k : ℕ) → g.rows ≤ c → c < vertices g → Among g used c k → k ≡ hole → Item g y list' place' c k
      at_hole c k a b among q =
          let here : list' k ≡ e = ap list' q ∙ puts.at in
          let own = one_list t.fits (n.from e l) (n.to e l) m a b (record { from = omega (arith, q, among.from); to = omega (arith, q, among.to) }) in
          record {
            inside = omega (arith, here);
            mark = ap (mark_at y) here ∙ p.at;
            column = ap (second_end g) here ∙ own;
            back = ap place' here ∙ places.at ∙ sym q;
          }

      elsewhere : (c k : ℕ) → Item g x list place c k → k ≢ hole → Item g y list' place' c k
      elsewhere c k i q =
          let there : list' k ≡ list k = puts.other k q in
          let other : list k ≢ e = λ r. omega (arith, i.mark, ap (mark_at x) r, z) in
          record {
            inside = omega (arith, there, i.inside);
            mark = ap (mark_at y) there ∙ p.other (list k) other ∙ i.mark;
            column = ap (second_end g) there ∙ i.column;
            back = ap place' there ∙ places.other (list k) other ∙ i.back;
          }

      pub listed : Listing g y used list' place' (nowhere g)
      listed = record {
        holds = λ c k a b among away. elim (ℕ_discrete k hole) [
          | yes q ↦ at_hole c k a b among q
          | no q ↦ elsewhere c k (t.holds c k a b among q) q
        ];
        held = λ d b o. elim (ℕ_discrete d e) [
          | yes q ↦ subst (λ k. Stands g used list' place' (nowhere g) k) (sym q) (stands_now l puts places m t)
          | no q ↦ stands_still l puts places m t d b q (t.held d b (sym (p.other d q) ∙ o))
        ];
        fits = t.fits;
      }
