-- The growth of a search: what its two loops keep, and how it ends.
use Prim.Native.Nat.{ℕ, ◌+◌, ◌*◌, ◌-◌, ◌≤◌, ◌<◌}
use mathlib.Core.Path.{◌≡◌, refl, sym, ap, ◌∙◌, subst}
use mathlib.Core.Logic.{◌≢◌, ◌⊎◌, inr, ⊎_elim}
use mathlib.Core.Bool.{Bool, true, false, cond}
use mathlib.Core.List.{List}
use native.Mathlib.Omega.{arith}
use lib.Dec.{ltb}
use lib.ListN.{length, get_or, set, replicate, length-set, length-replicate, get_or-replicate}
use lib.Seq.{get_or-set_same, get_or-set_other}
use Rattle.graph.specs.Limits.{most_vertices, most_edges}
use Rattle.graph.specs.Graph.{Graph, vertices, first_end, second_end}
use Rattle.graph.specs.Subgraph.{mark_at, degree}
use Rattle.graph.specs.Index.{offset}
use Rattle.graph.proofs.Index.{offset-more}
use Rattle.method.specs.declared.Table.{Table}
use Rattle.method.specs.declared.KeptEdge.{KeptEdge}
use Rattle.method.specs.Method.{level, top_price, top_value, cost, Solvable, NoneMeets, Good}
use Rattle.method.specs.Tree.{entries, tail, Ended}
use Rattle.method.specs.Front.{far, shut, near_exit, far_exit, Exits, SearchState, Relaxed, Looked, Leaving, SearchGrown, AtEnd, Shifted}
use Rattle.method.specs.Lists.{starts, stops, leasts, mosts, edges, heads, values, keeps, Arc, Given, start_in, Among, Item}
use Rattle.method.proofs.Tests.{if_less, if_not_less}
use Rattle.method.proofs.Solvable.{few, small, rows_in, first_to, second_from, second_to, value-most}
use Rattle.method.proofs.Leading.{lt-or_ge, Out, Back, arc as arc-cases, leads, slack-out}
use Rattle.method.proofs.Keep.{left_out}
use Rattle.method.proofs.Grow.{start, last_in, last_settled, not_more, entry_in, entry_once, entry_settled}
use Rattle.method.proofs.Settle.{Swap, left-early, left-last, next}
use Rattle.method.proofs.Lists.{columns, among_somewhere}
use Rattle.method.proofs.Left as Leaves
use Rattle.method.proofs.Finish.{may_fall, finish}
use Rattle.method.proofs.Places.{offset-rows}
use Rattle.kilter.proofs.Stuck.{none_meets}
use Rattle.reach.specs.declared.Front.{Front}
use Rattle.reach.specs.Reach.{ReachedBy}
use Rattle.scan.specs.Scan.{settled_at, list_start, list_stop, Scanning, ColumnScan}
use Rattle.reach.proofs.Picking.{stays}
use Rattle.scan.proofs.Looking.{roomy, looked_at, skipped}
use Rattle.dual_step.specs.Step.{Searchable, NearestAt, Settles, Movable}
use Rattle.search.proofs.Spans as Spans
use Rattle.search.specs.Search.{Known, Finds}
use Rattle.std.specs.Prelude.{Some, None}
use Rattle.graph.proofs.Passing.{zero_one}
use Rattle.method.specs.declared.Tree.{Tree}

-- ---- the start

-- The scan of a vertex begins anew, with another list.
pub anew : {g : Graph} {x : List ℕ} {price exit : ℕ → ℕ} {label dist order : List ℕ} {root count : ℕ} {f : Front} {edge edge' : ℕ → ℕ} {start k start' : ℕ}
    → Scanning g x price exit label dist order root count f edge start k → Scanning g x price exit label dist order root count f edge' start' start'
anew s = record {
  state = s.state;
  looked = record { each = λ j a b. absurd (omega arith) };
  label_long = s.label_long;
  dist_long = s.dist_long;
  order_long = s.order_long;
}

-- The first turn: the root alone is reached.
pub begun : {g : Graph} {x : List ℕ} {price exit : ℕ → ℕ} {label order : List ℕ} {goal : ℕ} {edge : ℕ → ℕ} → Solvable g → entries order 0 < g.rows
    → length label ≡ most_vertices → length order ≡ most_vertices + 1 → goal ≡ exit (entries order 0) → goal ≤ far →
    Scanning g x price exit label (set (replicate most_vertices far) (entries order 0) 0) order (entries order 0) 1
    (record { goal = goal; end = entries order 0; reached = 1; vertex = entries order 0; distance = 0 }) edge 0 0
begun {g} {x} {price} {exit} {label} {order} {goal} {edge} net low label_long order_long goal-is small = record {
  state = start root_in at other refl goal-is small;
  looked = record { each = λ j a b. absurd (omega arith) };
  label_long = label_long;
  dist_long = length-set (replicate most_vertices far) root 0 ∙ length-replicate {A = ℕ} most_vertices far;
  order_long = order_long;
}
  where
    root : ℕ
    root = entries order 0

    root_in : root < vertices g
    root_in = omega (arith, rows_in net)

    at : get_or (set (replicate most_vertices far) root 0) root 0 ≡ 0
    at = get_or-set_same (replicate most_vertices far) root 0 0 (omega (arith, length-replicate {A = ℕ} most_vertices far, root_in, few net))

    other : (v : ℕ) → v < vertices g → v ≢ root → get_or (set (replicate most_vertices far) root 0) v 0 ≡ far
    other v l n = get_or-set_other (replicate most_vertices far) root v 0 0 n ∙ get_or-replicate most_vertices v far 0 (omega (arith, few net))

-- ---- the chosen edges of a column vertex

module _ {g : Graph} {arc : List KeptEdge} {table : Table} {places : ℕ} {x : List ℕ} {price used exit list : ℕ → ℕ} {label dist order : List ℕ} {root count : ℕ} {f : Front}
    {edge : ℕ → ℕ} {from k : ℕ}
    (given : Given g arc table places) (h : Known g (leasts table) (mosts table) x price used list)
    (exits : (v : ℕ) → v < g.rows → v ≢ root → exit v ≡ near_exit (price v) (used v) (leasts table v))
    (s : Scanning g x price exit label dist order root count f edge from k) where
  vertex_in : f.vertex < vertices g
  vertex_in = last_in s.state

  abbrev begins : ℕ
  begins = list_start g.rows (starts table) f.vertex

  abbrev ends : ℕ
  ends = list_stop g.rows (starts table) used f.vertex

  -- A place of the list.
  module _ {j : ℕ} (a : begins ≤ j) (b : j < ends) where
    column : g.rows ≤ f.vertex
    column = ⊎_elim (λ r. absurd (omega (arith, if_less 0 (starts table f.vertex + used f.vertex) r))) (λ r. r) (lt-or_ge f.vertex g.rows)

    among : Among g (degree g x) f.vertex j
    among = record {
      from = omega (arith, Spans.start_is given h.between vertex_in column);
      to = omega (arith, Spans.stop_is given h.between vertex_in column);
    }

    pub item : Item g x list h.place f.vertex j
    item =
        let net = given.net in
        let cols = columns g net.bipartite net.passed.sound in
        h.between.lists.holds f.vertex j column vertex_in among (among_somewhere h.between.lists.fits column vertex_in among cols)

  unfoldable pub column_scan : ColumnScan g price used (leasts table) label dist order f list begins ends
  column_scan = record {
    most = mosts table;
    x = x;
    exit = exit;
    root = root;
    count = count;
    good = h.between.good;
    degrees = h.between.degrees.each;
    exits = exits;
    scanning = anew s;
    inside = λ j a b. (item a b).inside;
    mark = λ j a b. (item a b).mark;
    column = λ j a b. (item a b).column;
  }

  pub near_far : f.distance ≤ far
  near_far = omega (arith, s.state.top.least, s.state.top.small)

-- ---- the edges of a row vertex

-- What the inner loop keeps before place k: the edges at the places before it were looked at, and of a column vertex those of its list. The base and the last
-- place are those of the vertex settled last.
pub record RowScan (g : Graph) (arc : List KeptEdge) (table : Table) (x : List ℕ) (price exit list : ℕ → ℕ) (label dist order : List ℕ) (root count : ℕ) (f : Front) (base last k : ℕ) : Type 0 where
  pub scan : Scanning g x price exit label dist order root count f (edges arc) (starts table f.vertex) k
  pub back : g.rows ≤ f.vertex → Looked g x price (entries dist) f.goal f.vertex list (start_in g f.vertex) (start_in g f.vertex + degree g x f.vertex)
  pub low : starts table f.vertex ≤ k
  pub base_is : base ≡ f.distance + price f.vertex
  pub last_is : last ≡ cond (ltb f.vertex g.rows) (stops table f.vertex) 0

-- The list of vertex v was scanned, and it is still the one settled last.
pub row_begun : {g : Graph} {arc : List KeptEdge} {table : Table} {places : ℕ} {x : List ℕ} {price used exit list : ℕ → ℕ} {label dist order : List ℕ} {root count v : ℕ} {f : Front}
    {last : ℕ}
    → Given g arc table places → Known g (leasts table) (mosts table) x price used list → f.vertex ≡ v →
    Scanning g x price exit label dist order root count f list (list_start g.rows (starts table) v) (list_stop g.rows (starts table) used v)
    → last ≡ cond (ltb f.vertex g.rows) (stops table f.vertex) 0 →
    RowScan g arc table x price exit list label dist order root count f (f.distance + price f.vertex) last (starts table f.vertex)
row_begun {g} {x = x} {v = v} given h same s last_is = record {
  scan = anew s;
  back = λ l.
      let r : g.rows ≤ v = omega (arith, same) in
      let i : v < vertices g = omega (arith, same, last_in s.state) in
      record {
        each = λ j a b. s.looked.each j (omega (arith, Spans.start_is given h.between i r, ap (start_in g) same))
            (omega (arith, Spans.stop_is given h.between i r, ap (start_in g) same, ap (degree g x) same));
      };
  low = omega arith;
  base_is = refl;
  last_is = last_is;
}

module _ {g : Graph} {arc : List KeptEdge} {table : Table} {places : ℕ} {x : List ℕ} {price used exit list : ℕ → ℕ} {label dist order : List ℕ} {root count : ℕ} {f : Front}
    {base last k : ℕ}
    (given : Given g arc table places) (h : Known g (leasts table) (mosts table) x price used list)
    (exits : (v : ℕ) → g.rows ≤ v → exit v ≡ far_exit (price v) (used v) (mosts table v))
    (gains : (v : ℕ) → g.rows ≤ v → v < vertices g → used v < mosts table v → price v ≤ level)
    (r : RowScan g arc table x price exit list label dist order root count f base last k) where
  abbrev net : Solvable g
  net = given.net

  abbrev good : Good g (leasts table) (mosts table) x price
  good = h.between.good

  abbrev u : ℕ
  u = f.vertex

  abbrev edge : ℕ
  edge = edges arc k

  abbrev head : ℕ
  head = heads arc k

  u_in : u < vertices g
  u_in = last_in r.scan.state

  last_row : u < g.rows → last ≡ stops table u
  last_row l = r.last_is ∙ if_less (stops table u) 0 l

  -- A place before the last one.
  module _ (l : k < last) where
    row : u < g.rows
    row = ⊎_elim (λ a. a) (λ a. absurd (omega (arith, r.last_is ∙ if_not_less (stops table u) 0 a))) (lt-or_ge u g.rows)

    stands : Arc g u edge head (values arc k)
    stands = given.kept.arcs u k row (omega (arith, r.low, given.kept.starts u row)) (omega (arith, last_row row))

    pub place_low : k < most_edges
    place_low =
        omega (arith, last_row row, given.kept.stops u row, offset-more g (u + 1) g.rows (omega (arith, row)), offset-rows net, small net)

    pub edge_in : edge < length x
    edge_in = omega (arith, stands.inside, good.long)

    head-inside : head < vertices g
    head-inside = omega (arith, stands.column, second_to net edge stands.inside)

    pub head_in : head < most_vertices
    head_in = omega (arith, head-inside, few net)

    ends_prices : cost g price edge ≡ price u + price head
    ends_prices = omega (arith, ap price stands.row, ap price stands.column)

    head-far : g.rows ≤ head
    head-far = omega (arith, stands.column, second_from net edge stands.inside)

    -- What a look asks for.
    pub lookable : (base ≤ far + top_price) × (price head ≤ top_price) × (mark_at x edge ≤ 1) × (values arc k ≤ top_value)
        × (mark_at x edge ≡ 0 → values arc k ≤ base + price head) × (used head < mosts table head → price head ≤ level)
    lookable = (
      omega (arith, r.base_is, r.scan.state.top.least, r.scan.state.top.small, good.high u u_in),
      omega (arith, good.high head head-inside),
      good.marks edge,
      omega (arith, stands.weight, value-most net edge stands.inside),
      λ z. omega (arith, r.base_is, stands.weight, good.loose edge stands.inside z, ends_prices),
      gains head head-far head-inside,
    )

    -- After the look.
    pub turned : {f' : Front} {label' dist' order' : List ℕ} →
        ReachedBy (far_exit (price head) (used head) (mosts table head)) head (base + price head + mark_at x edge * shut - values arc k) edge f f' label dist order label' dist' order'
        → RowScan g arc table x price exit list label' dist' order' root count f' base last (k + 1)
    turned {f'} {label'} {dist'} {order'} c = record {
      scan = subst (λ v. Scanning g x price exit label' dist' order' root count f' (edges arc) (starts table v) (k + 1)) (sym same.0)
          (⊎_elim loose taken (arc-of edge));
      back = λ a. absurd (omega (arith, a, same.0, row));
      low = omega (arith, r.low, ap (starts table) same.0);
      base_is = omega (arith, r.base_is, same.1, ap price same.0);
      last_is = r.last_is ∙ ap (λ v. cond (ltb v g.rows) (stops table v) 0) (sym same.0);
    }
      where
        same : (f'.vertex ≡ f.vertex) × (f'.distance ≡ f.distance)
        same = stays c

        arc-of : (e : ℕ) → Out g x e ⊎ Back g x e
        arc-of e = arc-cases g x e (good.marks e)

        loose : Out g x edge → Scanning g x price exit label' dist' order' root count f' (edges arc) (starts table u) (k + 1)
        loose o = looked_at net r.scan head-inside c stands.inside (o.from ∙ stands.row) (o.to ∙ sym stands.column)
            (omega (
              arith,
              r.base_is,
              o.mark,
              ap (λ m. m * shut) o.mark,
              stands.weight,
              slack-out good edge stands.inside o,
              ends_prices,
            ))
            (λ n. sym (exits head head-far))

        taken : Back g x edge → Scanning g x price exit label' dist' order' root count f' (edges arc) (starts table u) (k + 1)
        taken o = skipped net r.scan head-inside c
            (omega (
              arith,
              r.base_is,
              ap (λ m. m * shut) o.mark,
              stands.weight,
              value-most net edge stands.inside,
              good.low u u_in,
              r.scan.state.top.small,
            ))
            (λ t. omega (arith, t, o.from, second_from net edge stands.inside, row))

  -- All edges from the vertex were looked at.
  module _ (root_near : root < g.rows) (ways : Exits g (leasts table) (mosts table) x price root exit) (l : last ≤ k) where
    abbrev s : SearchState g x price exit (entries dist) (entries label) (entries order) root count f.reached f.distance f.goal f.end u
    s = r.scan.state

    loose_looked : (q : ℕ) → q < g.edges → Out g x q → first_end g q ≡ u → Relaxed g x price (entries dist) f.goal q
    loose_looked q b o t = go (keeps g (leasts table) q) refl
      where
        row : u < g.rows
        row = omega (arith, t, first_to net q b)

        go : (y : Bool) → keeps g (leasts table) q ≡ y → Relaxed g x price (entries dist) f.goal q
        go true y =
            let j = given.kept.all q b (first_to net q b) y in
            let low : starts table u ≤ j.0 = omega (arith, given.kept.starts u row, ap (offset g) t, j.1) in
            let high : j.0 < k = omega (arith, last_row row, ap (stops table) t, j.2) in
            subst (λ e. Relaxed g x price (entries dist) f.goal e) j.3
            (r.scan.looked.each j.0 low high (ap (tail g x) j.3 ∙ o.from ∙ t))
        go false y =
            let seen : 0 < s.spot (first_end g q) = omega (arith, ap s.spot t, (last_settled s).seen) in
            inr (omega (arith, ap (entries dist) o.from, left_out net good q b o.mark y ways s.dists seen))

    taken-looked : (q : ℕ) → q < g.edges → Back g x q → second_end g q ≡ u → Relaxed g x price (entries dist) f.goal q
    taken-looked q b o t =
        let a : g.rows ≤ u = omega (arith, t, second_from net q b) in
        let c = h.between.lists.held q b o.mark in
        let j = h.place q in
        let m = subst (λ v. Among g (degree g x) v j) t c.among in
        subst (λ e. Relaxed g x price (entries dist) f.goal e) c.is
        ((r.back a).each j m.from m.to (ap (tail g x) c.is ∙ o.from ∙ t))

    pub looked_all : (q : ℕ) → q < g.edges → tail g x q ≡ u → Relaxed g x price (entries dist) f.goal q
    looked_all q b t = ⊎_elim (λ o. loose_looked q b o (sym o.from ∙ t)) (λ o. taken-looked q b o (sym o.from ∙ t)) (leads good q b)

-- ---- the next vertex, and the end

-- The search is left, and the arrays have their lengths still.
pub record LeftOff (g : Graph) (x : List ℕ) (price exit : ℕ → ℕ) (label dist order : List ℕ) (root count goal end : ℕ) : Type 0 where
  pub leaving : Leaving g x price exit (entries dist) (entries label) (entries order) root count goal end
  pub label_long : length label ≡ most_vertices
  pub order_long : length order ≡ most_vertices + 1

-- An end as near as the vertex settled last.
pub ends_early : {g : Graph} {arc : List KeptEdge} {table : Table} {x : List ℕ} {price exit list : ℕ → ℕ} {label dist order : List ℕ} {root count : ℕ} {f : Front} {base last k : ℕ}
    → RowScan g arc table x price exit list label dist order root count f base last k → f.goal ≡ f.distance →
    LeftOff g x price exit label dist order root count f.goal f.end
ends_early r e = record { leaving = left-early r.scan.state e; label_long = r.scan.label_long; order_long = r.scan.order_long }

module _ {g : Graph} {arc : List KeptEdge} {table : Table} {x : List ℕ} {price exit list : ℕ → ℕ} {label dist order : List ℕ} {root count : ℕ} {f : Front} {base last k : ℕ}
    (net : Solvable g) (r : RowScan g arc table x price exit list label dist order root count f base last k) where
  abbrev now_at : SearchState g x price exit (entries dist) (entries label) (entries order) root count f.reached f.distance f.goal f.end f.vertex
  now_at = r.scan.state

  pub searchable : Searchable (entries order) count f.reached
  searchable = record { few = roomy net r.scan; inside = λ i a b. omega (arith, entry_in now_at i b, few net) }

  module _ {place : ℕ} (n : NearestAt (entries dist) (entries order) count f.reached f.goal place) where
    module _ (all : (q : ℕ) → q < g.edges → tail g x q ≡ f.vertex → Relaxed g x price (entries dist) f.goal q) where
      -- No open vertex is nearer than the end.
      pub ends_last : place ≡ f.reached → LeftOff g x price exit label dist order root count f.goal f.end
      ends_last e = record {
        leaving = left-last now_at all
            (λ i a b. ⊎_elim (λ h. omega (arith, n.nearest.low i a b, h.1)) (λ h. absurd (omega (arith, e, h.1))) n.nearest.found);
        label_long = r.scan.label_long;
        order_long = r.scan.order_long;
      }

    -- One is.
    module _ (ne : place ≢ f.reached) where
      found : (count ≤ place) × (place < f.reached) × (n.best < f.goal) × (n.best ≡ entries dist (entries order place))
      found = ⊎_elim (λ h. absurd (ne h.0)) (λ h. h) n.nearest.found

      pub open_low : place < most_vertices
      open_low = omega (arith, found.1, roomy net r.scan)

      pub count_low : count < most_vertices
      count_low = omega (arith, found.0, open_low)

      pub count_less : count < vertices g
      count_less = omega (arith, found.0, found.1, not_more now_at)

      module _ {order' : List ℕ} {v : ℕ} (t : Settles order order' place count v) where
        pub next-in : v < vertices g
        next-in = omega (arith, t.is, entry_in now_at place found.1)

        dist_is : n.best ≡ entries dist v
        dist_is = found.3 ∙ ap (entries dist) (sym t.is)

        swapped : Swap (entries order) (entries order') place (entries order count) count v
        swapped = rw t.order_is (record {
          at = get_or-set_same (set order place (entries order count)) count v 0 (simp length-set (omega (arith, r.scan.order_long, count_low)));
          from = λ a. get_or-set_other (set order place (entries order count)) count place v 0 a
              ∙ get_or-set_same order place (entries order count) 0 (omega (arith, r.scan.order_long, open_low));
          other = λ i a b. get_or-set_other (set order place (entries order count)) count i v 0 b ∙ get_or-set_other order place i (entries order count) 0 a;
        })

        order_long' : length order' ≡ most_vertices + 1
        order_long' = ap length t.order_is ∙ simp length-set r.scan.order_long

        -- It is settled.
        pub grown : {edge' : ℕ → ℕ} → ((q : ℕ) → q < g.edges → tail g x q ≡ f.vertex → Relaxed g x price (entries dist) f.goal q) →
            Scanning g x price exit label dist order' root (count + 1)
            (settled_at f v (entries dist v)) edge' 0 0
        grown all = record {
          state = next now_at all found.0 found.1 t.is (omega (arith, dist_is, found.2)) (λ i a b. omega (arith, n.nearest.low i a b, dist_is)) swapped;
          looked = record { each = λ j a b. absurd (omega arith) };
          label_long = r.scan.label_long;
          dist_long = r.scan.dist_long;
          order_long = order_long';
        }

-- What is kept, under the name that the front has.
pub front_as : {g : Graph} {x : List ℕ} {price exit : ℕ → ℕ} {label dist order : List ℕ} {root count : ℕ} {f f' : Front} {edge : ℕ → ℕ} {start k : ℕ} → f' ≡ f →
    Scanning g x price exit label dist order root count f edge start k → Scanning g x price exit label dist order root count f' edge start k
front_as e s = rw e s

-- What is left, under the names that it has then.
pub left_as : {g : Graph} {x : List ℕ} {price exit : ℕ → ℕ} {label dist order label' dist' order' : List ℕ} {root count end : ℕ} {f f' : Front} → order' ≡ order →
    f' ≡ f → dist' ≡ dist → label' ≡ label → end ≡ f.end → LeftOff g x price exit label dist order root count f.goal f.end
    → LeftOff g x price exit label' dist' order' root count f'.goal end
left_as {g} {x} {price} {exit} {label} {dist} {order} {label'} {dist'} {order'} {root} {count} {end} {f} {f'} a b c d e l =
    subst (λ z. LeftOff g x price exit label' dist' z root count f'.goal end) (sym a)
    (subst (λ (z : Front). LeftOff g x price exit label' dist' order root count z.goal end) (sym b)
    (subst (λ z. LeftOff g x price exit label' z order root count f.goal end) (sym c)
    (subst (λ z. LeftOff g x price exit z dist order root count f.goal end) (sym d)
    (subst (λ z. LeftOff g x price exit label dist order root count f.goal z) (sym e) l))))

-- ---- the end

module _ {g : Graph} {least most : ℕ → ℕ} {x : List ℕ} {price exit dist label order : ℕ → ℕ} {root count goal end : ℕ} (net : Solvable g)
    (good : Good g least most x price) (root_near : root < g.rows) (exits : Exits g least most x price root exit)
    (l : Leaving g x price exit dist label order root count goal end) where
  -- No path ends.
  pub stuck : goal ≡ far → NoneMeets g least most
  stuck e y m = none_meets net good root_near exits (subst (λ t. SearchGrown g x price exit dist label l.state.spot root count t) e (Leaves.grown l)) m

  -- One does.
  module _ (n : goal ≢ far) where
    at-end : AtEnd exit dist l.state.spot goal end
    at-end = ⊎_elim (λ e. absurd (n e)) (λ a. a) l.state.top.ends

    -- The prices of settled vertices can move.
    pub movable : Movable g.rows order dist price count goal
    movable =
        let s = l.state in
        record {
          few = omega (arith, s.high, not_more s, few net);
          small = s.top.small;
          inside = λ i a. omega (arith, entry_in s i (omega (arith, s.high)), few net);
          once = λ i j a b e. entry_once s i j (omega (arith, s.high)) (omega (arith, s.high)) e;
          near = λ i a. omega (arith, s.dists.low _ (entry_settled s i (omega arith)), s.top.least);
          room = λ i a r. may_fall net good root_near exits (Leaves.grown l) at-end _ r (entry_settled s i (omega arith));
          under = λ i a. omega (arith, good.high _ (entry_in s i (omega (arith, s.high))));
        }

    pub ended : {price' : ℕ → ℕ} → Shifted g.rows order dist price price' count goal → Ended g least most x price price' label root end
    ended shift = finish net good root_near exits (Leaves.grown l) at-end (Leaves.moved l shift)

-- What is answered: no tree where no path ends, and the tree that has the end.
module _ {g : Graph} {least most : ℕ → ℕ} {x : List ℕ} {start price : ℕ → ℕ} {root : ℕ} where
  pub finds-none : NoneMeets g least most → Finds g least most x start price root None
  finds-none n = record { found = λ t e. zero_one (cc); none = λ e. n }

  pub finds-end : (t : Tree) → Ended g least most x start price (entries t.label) root t.end → Finds g least most x start price root (Some t)
  finds-end t ended = record {
    found = λ u e. let same : ◌≡◌ {A = Tree} t u = cc in subst (λ (z : Tree). Ended g least most x start price (entries z.label) root z.end) same ended;
    none = λ e. zero_one (cc);
  }
