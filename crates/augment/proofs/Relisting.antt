-- The lists of chosen edges as the walk back goes on. Column vertices keep their number of places from the start to the end: at a row vertex the lists
-- have no hole, and at a column vertex one, which is in its own list.
use Prim.Native.Nat.{ℕ, ◌+◌, ◌-◌, ◌≤◌, ◌<◌}
use mathlib.Core.Path.{◌≡◌, ap, ◌∙◌}
use mathlib.Core.Logic.{◌≢◌, ⊎_elim}
use mathlib.Core.List.{List, []}
use native.Mathlib.Omega.{arith}
use native.Mathlib.Decide.{dec_lt}
use lib.IntN.{ℤ, pos}
use lib.ListN.{length, set, length-set}
use lib.Seq.{get_or-set_same, get_or-set_other}
use Rattle.integers.specs.Integer.{up}
use Rattle.integers.specs.Sum.{is}
use Rattle.integers.proofs.Sum.{is-other}
use Rattle.graph.specs.declared.Shape.{Shape}
use Rattle.graph.specs.Graph.{Graph, graph_of, vertices}
use Rattle.graph.specs.Subgraph.{mark_at, degree}
use Rattle.method.specs.Method.{Augmented}
use Rattle.method.specs.Tree.{entries, naturals}
use Rattle.method.specs.Lists.{nowhere, Among, Listing}
use Rattle.method.proofs.Leading.{lt-or_ge, Put, put_set}
use Rattle.method.proofs.Lists.{Columns, columns, among_below, recount}
use Rattle.augment.specs.Augment.{Walkable, Relistable, Relisted, flipped, other_end}
use Rattle.augment.proofs.Step.{row_link, column_link, edge_in, row_next, column_next}
use Rattle.augment.proofs.Lists.{gap_among, widened, unlisted, listed}

-- How many places the list of column vertex c has during a walk from v that starts with the marks x.
abbrev pub places : Graph → List ℕ → ℕ → ℕ → ℕ
places g x v c = degree g x c + is v c

-- The lists when the walk from v is at vertex u with the marks y.
pub record Relisting (g : Graph) (x : List ℕ) (v u : ℕ) (y : List ℕ) (list : List ℤ) (place : List ℕ) (hole : ℕ) : Type 0 where
  pub at_row : u < g.rows → Listing g y (places g x v) (naturals list) (entries place) (nowhere g)
  pub at_column : g.rows ≤ u → Listing g y (places g x v) (naturals list) (entries place) hole
  pub hole_in : g.rows ≤ u → Among g (places g x v) u hole
  pub list_long : nowhere g ≤ length list
  pub place_long : g.edges ≤ length place

-- A row vertex is no column vertex.
no_column : {rows v c : ℕ} → v < rows → rows ≤ c → is v c ≡ 0
no_column {v = v} {c = c} l a = is-other v c (λ q. omega (arith, q))

-- At the start: the list of a column vertex ends at the gap.
pub begun_lists : {g : Graph} {x : List ℕ} {list : List ℤ} {place : List ℕ} {v gap : ℕ} → Columns g → v < vertices g →
    Relistable g x list place v gap → Relisting g x v v x list place gap
begun_lists {g} n b r = record {
  at_row = λ l. recount n (λ c a to. omega (arith, no_column l a)) r.lists;
  at_column = λ a. widened n a b r.lists (r.gap_is a) (r.fits a);
  hole_in = λ a. gap_among n a b r.lists (r.gap_is a) (r.fits a);
  list_long = r.list_long;
  place_long = r.place_long;
}

-- At the root, a row vertex: each list has a place for each chosen edge of its vertex.
pub ended_lists : {g : Graph} {x y : List ℕ} {list : List ℤ} {place : List ℕ} {label rank : ℕ → ℕ} {root v hole : ℕ} → Columns g → root < g.rows →
    Augmented g label rank root v x y → Relisting g x v root y list place hole → Listing g y (degree g y) (naturals list) (entries place) (nowhere g)
ended_lists {g} {v = v} n l w t = recount n (λ c a b. ⊎_elim
    (λ d. omega (arith, w.from_row d c, no_column d a, no_column l a))
    (λ d. omega (arith, w.from_column d c, no_column l a))
    (lt-or_ge v g.rows)) (t.at_row l)

-- What a flip and a write do, number by number.
flip_put : (x y : List ℕ) (e m : ℕ) → e < length x → y ≡ flipped x e → mark_at x e ≡ m → Put (mark_at x) (mark_at y) e (1 - m)
flip_put x y e m l f q = rw f (record {
  at = get_or-set_same x e (1 - mark_at x e) 0 l ∙ ap (λ k. 1 - k) q;
  other = λ d n. get_or-set_other x e d (1 - mark_at x e) 0 n;
})

list_put : (list : List ℤ) (k e : ℕ) → k < length list → Put (naturals list) (naturals (set list k (pos e))) k e
list_put list k e l = record {
  at = ap up (get_or-set_same list k (pos e) (pos 0) l);
  other = λ d n. ap up (get_or-set_other list k d (pos e) (pos 0) n);
}

module _ {s : Shape} {root u left : ℕ} {row column label y : List ℕ} {rank : ℕ → ℕ} (r : Walkable s row column label rank root u left y) (ne : u ≢ root) where
  abbrev g : Graph
  g = graph_of s row column []

  abbrev edge : ℕ
  edge = entries label u

  cols : Columns g
  cols = columns g r.bipartite r.sound

  edge-long : edge < length y
  edge-long = omega (arith, edge_in r ne, r.long)

  module _ {v hole : ℕ} {x place : List ℕ} {list : List ℤ} (t : Relisting g x v u y list place hole) where
    -- The hole is a place of the list, where the edge is not chosen.
    pub hole_low : mark_at y edge ≡ 0 → hole < length list
    hole_low z = elim (dec_lt u g.rows) [
      | yes l ↦ absurd (omega (arith, z, (row_link r ne l).mark))
      | no l ↦
          let a : g.rows ≤ u = omega (arith, l) in
          omega (arith, among_below (t.at_column a).fits a r.inside (t.hole_in a) cols, t.list_long)
    ]

    module _ {w hole' : ℕ} {z place' : List ℕ} {list' : List ℤ} (f : z ≡ flipped y edge) (o : w ≡ other_end g edge u)
        (h : Relisted (mark_at y edge) hole edge list place list' place' hole') where
      -- From a row vertex the walk comes to the edge's column vertex, in whose list the edge leaves a hole.
      from_row : u < g.rows → Relisting g x v w z list' place' hole'
      from_row l =
          let one = (row_link r ne l).mark in
          let chosen : 0 < mark_at y edge = omega (arith, one) in
          let next = row_next r ne f o l in
          let lists = t.at_row l in
          let own = (lists.held edge (edge_in r ne) one).among in
          rw (h.list_kept chosen, h.place_kept chosen, h.hole_is chosen) (record {
            at_row = λ b. absurd (omega (arith, b, next, cols.from edge (edge_in r ne)));
            at_column = λ a. unlisted cols (edge_in r ne) (flip_put y z edge 1 edge-long f one) one lists;
            hole_in = λ a. rw next at own;
            list_long = t.list_long;
            place_long = t.place_long;
          })

      -- From a column vertex it comes to the edge's row vertex, and the edge takes the hole.
      from_column : g.rows ≤ u → Relisting g x v w z list' place' hole'
      from_column a =
          let none = (column_link r ne a).mark in
          let end = (column_link r ne a).end in
          let next = column_next r ne f o a in
          let low = hole_low none in
          let edge_low : edge < length place = omega (arith, edge_in r ne, t.place_long) in
          rw (h.list_put none, h.place_put none) (record {
            at_row = λ b. listed cols (edge_in r ne) (flip_put y z edge 0 edge-long f none) none (list_put list hole edge low)
                (put_set place edge hole edge_low) (rw end (t.hole_in a)) (t.at_column a);
            at_column = λ b. absurd (omega (arith, b, next, (r.sound.ends edge (edge_in r ne)).in_rows));
            hole_in = λ b. absurd (omega (arith, b, next, (r.sound.ends edge (edge_in r ne)).in_rows));
            list_long = simp length-set t.list_long;
            place_long = simp length-set t.place_long;
          })

      -- The lists after the step.
      pub stepped_lists : Relisting g x v w z list' place' hole'
      stepped_lists = elim (dec_lt u g.rows) [ yes l ↦ from_row l | no l ↦ from_column (omega (arith, l)) ]

      -- The list's length stays.
      pub list_kept : length list' ≡ length list
      list_kept = elim (dec_lt u g.rows) [
        | yes l ↦ ap length (h.list_kept (omega (arith, (row_link r ne l).mark)))
        | no l ↦ ap length (h.list_put (column_link r ne (omega (arith, l))).mark) ∙ simp length-set
      ]
