-- One step of the walk back: after the flip the walk can go on from the edge's other end, and what it then does makes the whole walk.
use Prim.Native.Nat.{ℕ, ◌+◌, ◌-◌, ◌*◌, ◌≤◌, ◌<◌}
use mathlib.Core.Path.{◌≡◌, sym, ap, ap₂, ◌∙◌}
use mathlib.Core.Logic.{◌≢◌}
use mathlib.Core.List.{List, []}
use native.Mathlib.Omega.{arith}
use native.Mathlib.Decide.{ℕ_discrete, dec_lt}
use lib.ListN.{length, length-set}
use lib.Seq.{get_or-set_same, get_or-set_other}
use Rattle.integers.specs.Sum.{is}
use Rattle.graph.specs.declared.Shape.{Shape}
use Rattle.graph.specs.Graph.{Graph, graph_of, column_at, first_end, second_end}
use Rattle.graph.specs.Subgraph.{mark_at, ends_at, degree}
use Rattle.method.specs.Method.{Link, Labels, Augmented}
use Rattle.method.specs.Tree.{entries}
use Rattle.method.proofs.Leading.{if_same, if_other}
use Rattle.method.proofs.Solvable.{after_rows}
use Rattle.augment.specs.Augment.{Walkable, flipped, other_end}
use Rattle.augment.proofs.Degree.{degree-flipped}

module _ {g : Graph} {x : List ℕ} {rank : ℕ → ℕ} where
  -- A label that is another edge than the flipped one stays right.
  other : {near far : Graph → ℕ → ℕ} {k d h : ℕ} (e : ℕ) → Link g x near far rank k d h → d ≢ e → Link g (flipped x e) near far rank k d h
  other {d = d} e l n = record {
    inside = l.inside;
    mark = get_or-set_other x e d (1 - mark_at x e) 0 n ∙ l.mark;
    end = l.end;
    less = l.less;
    seen = l.seen;
  }

  -- Two labels are other edges if their marks differ, or if they reach vertices of different rank on the same side.
  by_mark : {near far near' far' : Graph → ℕ → ℕ} {j k d e h v : ℕ} → Link g x near far rank j d h → Link g x near' far' rank k e v → j ≢ k → d ≢ e
  by_mark l r n q = n (sym l.mark ∙ ap (mark_at x) q ∙ r.mark)

  by_rank : {near far : Graph → ℕ → ℕ} {j k d e h v : ℕ} → Link g x near far rank j d h → Link g x near far rank k e v → rank h < rank v → d ≢ e
  by_rank {near = near} l r b q = omega (arith, ap rank (sym l.end ∙ ap (near g) q ∙ r.end))

module _ {s : Shape} {root v left : ℕ} {row column label x : List ℕ} {rank : ℕ → ℕ} (r : Walkable s row column label rank root v left x) (ne : v ≢ root) where
  abbrev g : Graph
  g = graph_of s row column []

  abbrev edge : ℕ
  edge = entries label v

  abbrev labelled : ℕ → ℕ
  labelled = entries label

  -- The label of a row vertex is a chosen edge, and that of a column vertex is not.
  pub row_link : v < g.rows → Link g x first_end second_end rank 1 edge v
  row_link l = r.labels.of_row v l ne r.seen (omega arith)

  pub column_link : g.rows ≤ v → Link g x second_end first_end rank 0 edge v
  column_link l = r.labels.of_column v l r.inside r.seen (omega arith)

  pub edge_in : edge < s.edges
  edge_in = elim (dec_lt v g.rows) [ yes l ↦ (row_link l).inside | no l ↦ (column_link (omega (arith, l))).inside ]

  pub edge_mark : mark_at x edge ≤ 1
  edge_mark = elim (dec_lt v g.rows) [
    | yes l ↦ omega (arith, (row_link l).mark)
    | no l ↦ omega (arith, (column_link (omega (arith, l))).mark)
  ]

  -- The label of a vertex of lower rank is another edge.
  row_other : {d h : ℕ} → Link g x first_end second_end rank 1 d h → rank h < rank v → d ≢ edge
  row_other k b = elim (dec_lt v g.rows) [
    | yes l ↦ by_rank k (row_link l) b
    | no l ↦ by_mark k (column_link (omega (arith, l))) (λ q. omega (arith, q))
  ]

  column_other : {d h : ℕ} → Link g x second_end first_end rank 0 d h → rank h < rank v → d ≢ edge
  column_other k b = elim (dec_lt v g.rows) [
    | yes l ↦ by_mark k (row_link l) (λ q. omega (arith, q))
    | no l ↦ by_rank k (column_link (omega (arith, l))) b
  ]

  -- The edge is flipped, and w is its other end.
  module _ {y : List ℕ} {w : ℕ} (f : y ≡ flipped x edge) (o : w ≡ other_end g edge v) where
    -- From a row vertex, and from a column vertex.
    pub row_next : v < g.rows → second_end g edge ≡ w
    row_next l = sym (o ∙ if_same (second_end g edge) (first_end g edge) (sym (row_link l).end))

    pub column_next : g.rows ≤ v → first_end g edge ≡ w
    column_next l =
        let past : v ≢ first_end g edge = λ q. omega (arith, q, l, (r.sound.ends edge edge_in).in_rows) in
        sym (o ∙ if_other (second_end g edge) (first_end g edge) past)

    ends_are : (h : ℕ) → ends_at g h edge ≡ is v h + is w h
    ends_are h = elim (dec_lt v g.rows) [
      | yes l ↦ omega (arith, ap (λ k. is k h) (row_link l).end, ap (λ k. is k h) (row_next l))
      | no l ↦ omega (arith, ap (λ k. is k h) (column_link (omega (arith, l))).end, ap (λ k. is k h) (column_next (omega (arith, l))))
    ]

    -- A chosen edge is taken from the degrees of v and w, and one that is not chosen is added.
    next-degree : (h m : ℕ) → mark_at x edge ≡ m → degree g y h + m * (is v h + is w h) ≡ degree g x h + (1 - m) * (is v h + is w h)
    next-degree h m q =
        ap₂ (λ d a. d + m * a) (ap (λ (z : List ℕ). degree g z h) f) (sym (ends_are h))
        ∙ degree-flipped g x edge h edge_in (omega (arith, edge_in, r.long)) m q
        ∙ ap (λ a. degree g x h + (1 - m) * a) (ends_are h)

    next-long : length y ≡ length x
    next-long = ap length f ∙ length-set x edge (1 - mark_at x edge)

    -- The walk comes nearer to the root.
    pub falls : rank w < rank v
    falls = elim (dec_lt v g.rows) [
      | yes l ↦ omega (arith, (row_link l).less, ap rank (row_next l))
      | no l ↦ omega (arith, (column_link (omega (arith, l))).less, ap rank (column_next (omega (arith, l))))
    ]

    next-labels : Labels g y labelled rank root (rank w)
    next-labels = rw f (record {
      of_row = λ h b n s le. let k = r.labels.of_row h b n s (omega (arith, falls)) in other edge k (row_other k (omega (arith, falls)));
      of_column = λ h a b s le. let k = r.labels.of_column h a b s (omega (arith, falls)) in other edge k (column_other k (omega (arith, falls)));
    })

    -- It can go on, with one label less left.
    pub goes_on : {left' : ℕ} → left ≤ left' + 1 → Walkable s row column label rank root w left' y
    goes_on few = record {
      bipartite = r.bipartite;
      sound = r.sound;
      long = next-long ∙ r.long;
      labels = next-labels;
      root_in = r.root_in;
      inside = elim (dec_lt v g.rows) [
        | yes l ↦ omega (arith, row_next l, (r.sound.ends edge edge_in).second)
        | no l ↦ omega (arith, column_next (omega (arith, l)), (r.sound.ends edge edge_in).first)
      ];
      seen = elim (dec_lt v g.rows) [
        | yes l ↦ omega (arith, ap rank (row_next l), (row_link l).seen)
        | no l ↦ omega (arith, ap rank (column_next (omega (arith, l))), (column_link (omega (arith, l))).seen)
      ];
      low = omega (arith, r.low, falls);
    }

    next_marks : ((e : ℕ) → mark_at x e ≤ 1) → (e : ℕ) → mark_at y e ≤ 1
    next_marks all e = elim (ℕ_discrete e edge) [
      | yes q ↦ omega (arith, is-now, ap (mark_at (flipped x edge)) q, get_or-set_same x edge (1 - mark_at x edge) 0 (omega (arith, edge_in, r.long)))
      | no q ↦ omega (arith, is-now, get_or-set_other x edge e (1 - mark_at x edge) 0 q, all e)
    ]
      where
        is-now : mark_at y e ≡ mark_at (flipped x edge) e
        is-now = ap (λ (z : List ℕ). mark_at z e) f

    next-kept : (e : ℕ) → e ≢ edge → mark_at y e ≡ mark_at x e
    next-kept e n = ap (λ (z : List ℕ). mark_at z e) f ∙ get_or-set_other x edge e (1 - mark_at x edge) 0 n

    -- The flip, and then the walk from the edge's other end.
    pub whole : {z : List ℕ} → Augmented g labelled rank root w y z → Augmented g labelled rank root v x z
    whole a = record {
      long = a.long ∙ next-long;
      from_row = λ l h.
          let c : g.rows ≤ w = omega (arith, row_next l, after_rows g.kind g.rows (column_at g edge) r.bipartite) in
          omega (arith, next-degree h 1 (row_link l).mark, a.from_column c h);
      from_column = λ l h.
          let c : w < g.rows = omega (arith, column_next l, (r.sound.ends edge edge_in).in_rows) in
          omega (arith, next-degree h 0 (column_link l).mark, a.from_row c h);
      marks = λ all. a.marks (next_marks all);
      kept = λ e none. a.kept e none ∙ next-kept e (λ q. none v r.inside ne r.seen (sym q));
    }
