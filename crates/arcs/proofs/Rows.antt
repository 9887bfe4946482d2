-- The row vertices are listed one after the other: the index gives the edges of each, and the places of each are its own. Then the lists of the column
-- vertices begin.
use Prim.Native.Nat.{ℕ, ◌+◌, ◌-◌, ◌≤◌, ◌<◌}
use mathlib.Core.Path.{◌≡◌, refl, sym, ap, ◌∙◌, subst}
use mathlib.Core.Logic.{◌≢◌}
use mathlib.Core.Bool.{Bool, true}
use mathlib.Core.List.{List}
use native.Mathlib.Omega.{arith}
use native.Mathlib.Decide.{ℕ_discrete}
use lib.ListN.{length, get_or, set}
use lib.Seq.{get_or-set_same, get_or-set_other}
use Rattle.graph.specs.declared.Kind.{Kind}
use Rattle.graph.specs.Graph.{Graph, vertices, column_vertex, column_at, first_end, second_end}
use Rattle.graph.specs.Index.{offset, index_of}
use Rattle.graph.proofs.Index.{seen, is_end-first, offset-more}
use Rattle.method.specs.declared.Table.{Table}
use Rattle.method.specs.declared.KeptEdge.{KeptEdge}
use Rattle.method.specs.Method.{Solvable}
use Rattle.method.specs.Lists.{starts, stops, leasts, edges, heads, values, keeps, Arc, Kept, start_in, Given}
use Rattle.method.proofs.Solvable.{few, small, rows_in, root_in, second_to, weight_within}
use Rattle.method.proofs.Places.{At, start, place_in, some, at, stands, end_first, offset-rows}
use Rattle.arcs.specs.Arcs.{head_vertex, keeps_in, listed_edge, Readable, ArcEntry, KeptRow, SameArcs, SameBounds, ListsBegun}

pub bounds_again : {a b c : Table} → SameBounds a b → SameBounds b c → SameBounds a c
bounds_again p q = record { least = q.least ∙ p.least; most = q.most ∙ p.most }

-- Row vertex r has its start and its stop put in the table, and all else there stays.
pub record RowPlaced (r from last : ℕ) (old new : Table) : Type 0 where
  pub begins : starts new r ≡ from
  pub ends : stops new r ≡ last
  pub other_start : (v : ℕ) → v ≢ r → starts new v ≡ starts old v
  pub other_stop : (v : ℕ) → v ≢ r → stops new v ≡ stops old v
  pub bounds : SameBounds old new

pub row_placed : (old : Table) (r from last : ℕ) → r < length old.start → r < length old.stop →
    RowPlaced r from last old (record { start = set old.start r from; stop = set old.stop r last; least = old.least; most = old.most })
row_placed old r from last a b = record {
  begins = get_or-set_same old.start r from 0 a;
  ends = get_or-set_same old.stop r last 0 b;
  other_start = λ v n. get_or-set_other old.start r v from 0 n;
  other_stop = λ v n. get_or-set_other old.stop r v last 0 n;
  bounds = record { least = refl; most = refl };
}

module _ {g : Graph} {index : List ℕ} (net : Solvable g) (is : index ≡ index_of g) {r : ℕ} (l : r < g.rows) where
  -- The index gives where the places of row vertex r start and stop.
  from : get_or index r 0 ≡ offset g r
  from = start net is (omega (arith, rows_in net))

  to : get_or index (r + 1) 0 ≡ offset g (r + 1)
  to = start net is (omega (arith, rows_in net))

  -- The column vertex of an edge, by its column.
  second_is : (e : ℕ) → head_vertex g.rows g.column e ≡ second_end g e
  second_is e = subst (λ (k : Kind). g.rows + (column_at g e - 1) ≡ column_vertex k g.rows (column_at g e)) (sym net.bipartite) refl

  -- The edge at a place of row vertex r.
  module _ {i : ℕ} (low : get_or index r 0 ≤ i) (high : i < get_or index (r + 1) 0) where
    from_offset : offset g r ≤ i
    from_offset = omega (arith, from)

    to_offset : i < offset g (r + 1)
    to_offset = omega (arith, to)

    abbrev edge : ℕ
    edge = listed_edge index (vertices g) i

    here : At g r i edge
    here = at net is refl (root_in net l) from_offset to_offset (omega (arith, some net is refl (root_in net l) from_offset to_offset))

    pub readable : Readable g.rows (vertices g) g.column g.weight index i
    readable =
        let s = net.passed.sound in
        let inside = here.inside in
        let column = (s.ends edge inside).column in
        record {
          inside = place_in net is refl (root_in net l) from_offset to_offset;
          some = some net is refl (root_in net l) from_offset to_offset;
          few = omega (arith, to_offset, offset-more g (r + 1) g.rows (omega arith), offset-rows net, small net);
          edge = record {
            few = omega (arith, inside, small net);
            columned = omega (arith, inside, s.column_long);
            weighted = omega (arith, inside, net.passed.weight_long);
            column_some = column.least;
            column_in = omega (arith, column.least, second_is edge, second_to net edge inside, few net);
            weight_in = weight_within net.passed edge inside;
          };
        }

  pub rises : get_or index r 0 ≤ get_or index (r + 1) 0
  rises = omega (arith, from, to, offset-more g r (r + 1) (omega arith))

  -- What is kept at a place of row vertex r is an edge of r.
  arc_at : {arc : List KeptEdge} {k : ℕ} → ArcEntry g.rows g.column g.weight (listed_edge index (vertices g)) (get_or index r 0) (get_or index (r + 1) 0) arc k →
      Arc g r (edges arc k) (heads arc k) (values arc k)
  arc_at {arc} {k} n =
      let t = here n.low n.high in
      record {
        inside = omega (arith, n.is, t.inside);
        row = ap (first_end g) n.is ∙ end_first net t.inside l t.end;
        column = n.column_is ∙ second_is (edges arc k);
        weight = n.weight_is;
      }

  -- One row vertex more.
  module _ {keep : ℕ → Bool} {table table' : Table} {arc arc' : List KeptEdge} {last : ℕ} {keep_row : ℕ → Bool}
      (same-keep : (e : ℕ) → e < g.edges → first_end g e ≡ r → keep e ≡ true → keep_row e ≡ true)
      (K : Kept g keep (starts table) (stops table) (edges arc) (heads arc) (values arc) r)
      (R : KeptRow g.rows g.column g.weight keep_row (listed_edge index (vertices g)) (get_or index r 0) (get_or index (r + 1) 0) arc' last)
      (same : SameArcs (get_or index r 0) arc arc') (p : RowPlaced r (get_or index r 0) last table table') where
    -- The places of the row vertices before r are before those of r.
    earlier : (v k : ℕ) → v < r → k < stops table v → k < get_or index r 0
    earlier v k b h = omega (arith, K.stops v b, offset-more g (v + 1) r (omega arith), from)

    -- An edge of r is kept.
    found : (e : ℕ) → e < g.edges → first_end g e ≡ r → keep e ≡ true → (k : ℕ) × (offset g r ≤ k) × (k < last) × (edges arc' k ≡ e)
    found e b i y =
        let w = stands net is refl (root_in net l) b (is_end-first g e r i) in
        let j : listed_edge index (vertices g) (offset g r + seen g r e) ≡ e = omega (arith, w.1) in
        let f = R.all (offset g r + seen g r e) (omega (arith, from)) (omega (arith, to, w.0)) (ap keep_row j ∙ same-keep e b i y) in
        (f.0, omega (arith, f.1, from), f.2, f.3 ∙ j)

    pub kept_more : Kept g keep (starts table') (stops table') (edges arc') (heads arc') (values arc') (r + 1)
    kept_more = record {
      starts = λ v b. elim (ℕ_discrete v r) [
        | yes s ↦ ap (starts table') s ∙ p.begins ∙ from ∙ ap (offset g) (sym s)
        | no s ↦ p.other_start v s ∙ K.starts v (omega (arith, s))
      ];
      stops = λ v b. elim (ℕ_discrete v r) [
        | yes s ↦ omega (arith, ap (stops table') s, ap (λ k. offset g (k + 1)) s, p.ends, R.high, to)
        | no s ↦ omega (arith, p.other_stop v s, K.stops v (omega (arith, s)))
      ];
      arcs = λ v k b low high. elim (ℕ_discrete v r) [
        | yes s ↦
            let low' : get_or index r 0 ≤ k = omega (arith, low, ap (offset g) s, from) in
            let high' : k < last = omega (arith, high, ap (stops table') s, p.ends) in
            rw s (arc_at (R.each k low' high'))
        | no s ↦
            let c : v < r = omega (arith, s) in
            let high' : k < stops table v = omega (arith, high, p.other_stop v s) in
            let before = earlier v k c high' in
            subst (λ (a : KeptEdge). Arc g v a.edge a.head a.value) (sym (same.each k before)) (K.arcs v k c low high')
      ];
      all = λ e b c y. elim (ℕ_discrete (first_end g e) r) [
        | yes s ↦
            let f = found e b s y in
            (f.0, omega (arith, f.1, ap (offset g) s), omega (arith, f.2, ap (stops table') s, p.ends), f.3)
        | no s ↦
            let d : first_end g e < r = omega (arith, s) in
            let f = K.all e b d y in
            (f.0, f.1, omega (arith, f.2, p.other_stop (first_end g e) s), ap (λ (a : KeptEdge). a.edge) (same.each f.0 (earlier (first_end g e) f.0 d f.2)) ∙ f.3)
      ];
    }

  -- An edge of r is kept by its row vertex's least and its column vertex's.
  pub keeps_here : {first table : Table} → SameBounds first table → (e : ℕ) → e < g.edges → first_end g e ≡ r → keeps g (leasts first) e ≡ true →
      keeps_in g.rows g.column g.weight table (leasts table r) e ≡ true
  keeps_here {first} {table} same e b i y =
      rw (second_is e, same.least, sym i) y

-- ---- the lists of the column vertices

pub begun_more : {g : Graph} {old new : Table} {c k : ℕ} → ListsBegun g old new c → c < length new.start → g.rows ≤ c → k ≡ start_in g c →
    ListsBegun g old (record { start = set new.start c k; stop = new.stop; least = new.least; most = new.most }) (c + 1)
begun_more {g} {old} {new} {c} {k} B low a is = record {
  begins = λ d p q. elim (ℕ_discrete d c) [
    | yes s ↦ ap (λ i. get_or (set new.start c k) i 0) s ∙ get_or-set_same new.start c k 0 low ∙ is ∙ ap (start_in g) (sym s)
    | no s ↦ get_or-set_other new.start c d k 0 s ∙ B.begins d p (omega (arith, s))
  ];
  rows = λ v b. get_or-set_other new.start c v k 0 (λ s. omega (arith, s)) ∙ B.rows v b;
  stop = B.stop;
  bounds = record { least = B.bounds.least; most = B.bounds.most };
}

-- ---- what the searches are lent

-- The table with the bounds first, with the row vertices' lists then, and with the column vertices' lists last.
pub given_by : {g : Graph} {first mid last : Table} {arc : List KeptEdge} {places : ℕ} → Solvable g →
    Kept g (keeps g (leasts first)) (starts mid) (stops mid) (edges arc) (heads arc) (values arc) g.rows → SameBounds first mid → ListsBegun g mid last (vertices g) →
    g.edges ≤ places → Given g arc last places
given_by {g} {first} {mid} {last} net K same B room = record {
  net = net;
  kept = record {
    starts = λ r l. B.rows r l ∙ K.starts r l;
    stops = λ r l. omega (arith, stop r, K.stops r l);
    arcs = λ r k l a b. K.arcs r k l a (omega (arith, b, stop r));
    all = λ e l b y.
        let f = K.all e l b (rw (sym (least (first_end g e)), sym (least (second_end g e))) y) in
        (f.0, f.1, omega (arith, f.2, stop (first_end g e)), f.3);
  };
  begins = B.begins;
  room = room;
}
  where
    stop : (r : ℕ) → stops last r ≡ stops mid r
    stop r = ap (λ z. get_or z r 0) B.stop

    least : (v : ℕ) → leasts last v ≡ leasts first v
    least v = ap (λ z. get_or z v 0) (B.bounds.least ∙ same.least)

-- Its bounds stay.
pub bounds_kept : {g : Graph} {first mid last : Table} {n : ℕ} → SameBounds first mid → ListsBegun g mid last n → SameBounds first last
bounds_kept same B = bounds_again same B.bounds
