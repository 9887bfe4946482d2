-- The search is left with an end: the potentials move once, by what the distances are below the end's, and all is kept; the labels lead back to the root.
use Prim.Native.Nat.{ℕ, ◌+◌, ◌-◌, ◌≤◌, ◌<◌}
use mathlib.Core.Path.{◌≡◌, refl, sym, ap, ◌∙◌, subst}
use mathlib.Core.Logic.{◌≢◌, ◌⊎◌, ⊎_elim}
use mathlib.Core.Bool.{Bool, cond}
use mathlib.Core.List.{List}
use native.Mathlib.Omega.{arith}
use native.Mathlib.Decide.{ℕ_discrete}
use lib.Dec.{eqb, ltb}
use borrow.Author.Tests.{lt-ltb, le-ltb}
use Rattle.graph.specs.Limits.{greatest_weight}
use Rattle.graph.specs.Graph.{Graph, vertices, first_end, second_end}
use Rattle.graph.specs.Subgraph.{mark_at, degree}
use Rattle.method.proofs.Solvable.{few, rows_in, first_to, second_from, second_to, value-most}
use Rattle.method.proofs.Leading.{lt-or_ge, if_same, if_other, out, back, leads, slack-out, slack-back}
use Rattle.method.specs.Method.{level, top_price, value, cost, Solvable, Good, Labels}
use Rattle.method.specs.Tree.{tail, head, slack, Ended}
use Rattle.method.specs.Front.{Settled, Exits, Reach, SearchGrown, AtEnd, Shift}
use Rattle.method.proofs.Keep.{far-label, near_label, near_some}
use Rattle.method.proofs.Range as Range

-- What an edge keeps of its slack, l, where its tail moves by what a is below m and its head by what b is.
keeps-slack : (m a b l : ℕ) → (a < m → (b ≤ a + l) ⊎ (m ≤ a + l)) → m - a ≤ l + (m - b)
keeps-slack m a b l h = ⊎_elim (λ i. ⊎_elim (λ j. omega arith) (λ j. omega arith) (h i)) (λ i. omega arith) (lt-or_ge a m)

-- And on the path nothing is left of it.
no_slack : (m a b l : ℕ) → a + l ≡ b → b ≤ m → m - a ≡ l + (m - b)
no_slack m a b l e h = omega arith

module _ {g : Graph} {least most : ℕ → ℕ} {x : List ℕ} {price exit dist label spot : ℕ → ℕ} {root count goal end : ℕ}
    (net : Solvable g) (good : Good g least most x price) (root_near : root < g.rows) (exits : Exits g least most x price root exit)
    (grown : SearchGrown g x price exit dist label spot root count goal) (at : AtEnd exit dist spot goal end) where
  abbrev by : ℕ → ℕ
  by v = goal - dist v

  -- ---- the range

  abbrev H : ℕ → ℕ
  H = Range.height g price dist

  end_in : end < vertices g
  end_in = grown.inside end at.seen

  -- The end has a way out, so that it is one of three vertices, and its height is most, one level up.
  data Way : Type 0 where
    near_way : end < g.rows → end ≢ root → least end < degree g x end → exit end + level ≡ price end → Way
    root_way : end ≡ root → least root ≤ degree g x root → exit end + level ≡ price end → Way
    far-way : g.rows ≤ end → degree g x end < most end → exit end + price end ≡ level → Way

  way : Way
  way = ⊎_elim
      (λ r. elim (ℕ_discrete end root) [
        | yes e ↦ ⊎_elim
            (λ d. absurd (omega (arith, at.way, ap exit e, exits.own_none d)))
            (λ d. root_way e d (omega (arith, ap exit e, ap price e, exits.own d)))
            (lt-or_ge (degree g x root) (least root))
        | no n ↦ ⊎_elim (λ d. near_way r n d (exits.near end r n d)) (λ d. absurd (omega (arith, at.way, exits.near_none end r n d))) (lt-or_ge (least end) (degree g x end))
      ])
      (λ r. ⊎_elim (λ d. far-way r d (exits.away end r end_in d)) (λ d. absurd (omega (arith, at.way, exits.away_none end r end_in d)))
      (lt-or_ge (degree g x end) (most end)))
      (lt-or_ge end g.rows)

  end_near : end < g.rows → exit end + level ≡ price end
  end_near l = go way
    where
      go : Way → exit end + level ≡ price end
      go (near_way a b c e) = e
      go (root_way a c e) = e
      go (far-way a c e) = absurd (omega (arith, a, l))

  end_far : g.rows ≤ end → exit end + price end ≡ level
  end_far l = go way
    where
      go : Way → exit end + price end ≡ level
      go (near_way a b c e) = absurd (omega (arith, a, l))
      go (root_way a c e) = absurd (omega (arith, a, l, root_near))
      go (far-way a c e) = e

  end_height : H end ≡ goal + level
  end_height = ⊎_elim
      (λ l. omega (arith, Range.height_near good dist end l, end_near l, at.here))
      (λ l. omega (arith, Range.height_far good dist end l end_in, end_far l, at.here))
      (lt-or_ge end g.rows)

  -- No price of a near vertex goes below 0, one level up.
  pub may_fall : (v : ℕ) → v < g.rows → Settled spot count v → goal ≤ dist v + price v
  may_fall v r s = omega (arith, end_height, Range.height_near good dist v r, Range.apart_by net good root_near grown end v at.seen s.seen)

  -- The prices have moved.
  module _ {price' : ℕ → ℕ} (moved : (v : ℕ) → v < vertices g → Shift g.rows v (goal - dist v) (price v) (price' v)) where
    at_first : (e : ℕ) → e < g.edges → price' (first_end g e) + by (first_end g e) ≡ price (first_end g e)
    at_first e l = (moved (first_end g e) (omega (arith, first_to net e l, rows_in net))).row (first_to net e l)

    at_second : (e : ℕ) → e < g.edges → price' (second_end g e) ≡ price (second_end g e) + by (second_end g e)
    at_second e l = (moved (second_end g e) (second_to net e l)).column (second_from net e l)

    -- No edge loses more than its slack.
    bounded : (q : ℕ) → q < g.edges → by (tail g x q) ≤ slack g price q + by (head g x q)
    bounded q l = keeps-slack goal (dist (tail g x q)) (dist (head g x q)) (slack g price q) (λ h. grown.looked q l (grown.near (tail g x q) tail-in h) h)
      where
        tail-in : tail g x q < vertices g
        tail-in = ⊎_elim (λ o. omega (arith, o.from, first_to net q l, rows_in net)) (λ o. omega (arith, o.from, second_to net q l)) (leads good q l)

    loose' : (e : ℕ) → e < g.edges → mark_at x e ≡ 0 → value g e ≤ cost g price' e
    loose' e l z =
        let o = out g x e z in
        sums _ _ _ _ _ _ _ _ (slack-out good e l o) (at_first e l) (at_second e l)
        (subst (λ v. by v ≤ slack g price e + by (second_end g e)) o.from (subst (λ w. by (tail g x e) ≤ slack g price e + by w) o.to (bounded e l)))
      where
        sums : (v k p q p' q' a b : ℕ) → k + v ≡ p + q → p' + a ≡ p → q' ≡ q + b → a ≤ k + b → v ≤ p' + q'
        sums v k p q p' q' a b e f h i = omega arith

    chosen' : (e : ℕ) → e < g.edges → mark_at x e ≡ 1 → cost g price' e ≤ value g e
    chosen' e l z =
        let o = back g x e z in
        sums _ _ _ _ _ _ _ _ (slack-back good e l o) (at_first e l) (at_second e l)
        (subst (λ v. by v ≤ slack g price e + by (first_end g e)) o.from (subst (λ w. by (tail g x e) ≤ slack g price e + by w) o.to (bounded e l)))
      where
        sums : (v k p q p' q' a b : ℕ) → k + (p + q) ≡ v → p' + a ≡ p → q' ≡ q + b → b ≤ k + a → p' + q' ≤ v
        sums v k p q p' q' a b e f h i = omega arith

    -- An edge whose head is just its slack farther than its tail is tight.
    tight_edge : (q : ℕ) → q < g.edges → by (tail g x q) ≡ slack g price q + by (head g x q) → cost g price' q ≡ value g q
    tight_edge q l e = ⊎_elim
        (λ o. outs _ _ _ _ _ _ _ _ (slack-out good q l o) (at_first q l) (at_second q l)
        (subst (λ v. by v ≡ slack g price q + by (second_end g q)) o.from (subst (λ w. by (tail g x q) ≡ slack g price q + by w) o.to e)))
        (λ o. backs _ _ _ _ _ _ _ _ (slack-back good q l o) (at_first q l) (at_second q l)
        (subst (λ v. by v ≡ slack g price q + by (first_end g q)) o.from (subst (λ w. by (tail g x q) ≡ slack g price q + by w) o.to e)))
        (leads good q l)
      where
        outs : (v k p q p' q' a b : ℕ) → k + v ≡ p + q → p' + a ≡ p → q' ≡ q + b → a ≡ k + b → p' + q' ≡ v
        outs v k p q p' q' a b e f h i = omega arith

        backs : (v k p q p' q' a b : ℕ) → k + (p + q) ≡ v → p' + a ≡ p → q' ≡ q + b → b ≡ k + a → p' + q' ≡ v
        backs v k p q p' q' a b e f h i = omega arith

    -- The label of a vertex that is not farther than the end is tight.
    tight_at : (w : ℕ) → w ≢ root → 0 < spot w → dist w ≤ goal → cost g price' (label w) ≡ value g (label w)
    tight_at w n a b =
        let r = grown.reach w n a in
        tight_edge (label w) r.inside
        (subst (λ v. by (tail g x (label w)) ≡ slack g price (label w) + by v) (sym r.leads)
        (no_slack goal (dist (tail g x (label w))) (dist w) (slack g price (label w)) r.sum b))

    -- What moved is within 127 weights of the end.
    range' : (v : ℕ) → v < vertices g → (greatest_weight ≤ price' v) × (price' v + greatest_weight ≤ top_price)
    range' v l = ⊎_elim
        (λ h.
        let s = grown.near v l h in
        let up = Range.apart_by net good root_near grown v end s.seen at.seen in
        let down = Range.apart_by net good root_near grown end v at.seen s.seen in
        ⊎_elim
        (λ r. goes_near ((moved v l).row r) (Range.height_near good dist v r) up down h)
        (λ r. goes_far ((moved v l).column r) (Range.height_far good dist v r l) up down h)
        (lt-or_ge v g.rows))
        (λ h. ⊎_elim
        (λ r. (omega (arith, (moved v l).row r, good.low v l), omega (arith, (moved v l).row r, good.high v l)))
        (λ r. (omega (arith, (moved v l).column r, good.low v l), omega (arith, (moved v l).column r, good.high v l)))
        (lt-or_ge v g.rows))
        (lt-or_ge (dist v) goal)
      where
        goes_near : price' v + by v ≡ price v → H v ≡ dist v + price v → H v + greatest_weight ≤ H end + level → H end + greatest_weight ≤ H v + level → dist v < goal →
            (greatest_weight ≤ price' v) × (price' v + greatest_weight ≤ top_price)
        goes_near m i a b h = (omega (arith, end_height), omega (arith, end_height))

        goes_far : price' v ≡ price v + by v → H v + price v ≡ dist v + top_price → H v + greatest_weight ≤ H end + level → H end + greatest_weight ≤ H v + level → dist v < goal →
            (greatest_weight ≤ price' v) × (price' v + greatest_weight ≤ top_price)
        goes_far m i a b h = (omega (arith, end_height), omega (arith, end_height))

    -- ---- the vertices stay in kilter

    -- A vertex with a way out moves no farther than that.
    not_past : (v : ℕ) → v < vertices g → by v ≤ exit v
    not_past v l = ⊎_elim (λ h. omega (arith, grown.ways v (grown.near v l h).seen)) (λ h. omega arith) (lt-or_ge (dist v) goal)

    full' : (v : ℕ) → g.rows ≤ v → v < vertices g → level < price' v → degree g x v ≡ most v
    full' v r l p = ⊎_elim
        (λ d. absurd (omega (arith, exits.away v r l d, not_past v l, (moved v l).column r)))
        (λ d. omega (arith, good.within v l))
        (lt-or_ge (degree g x v) (most v))

    root_in : root < vertices g
    root_in = omega (arith, root_near, rows_in net)

    root_kept' : least root ≤ degree g x root → level ≤ price' root
    root_kept' d = omega (arith, exits.own d, not_past root root_in, (moved root root_in).row root_near)

    bare' : (v : ℕ) → v < vertices g → price' v < level → degree g x v ≤ least v
    bare' v l p = ⊎_elim
        (λ r. ⊎_elim
        (λ d. elim (ℕ_discrete v root) [
          | yes e ↦ absurd (omega (arith, ap price' e, root_kept' (omega (arith, d, ap least e, ap (λ k. degree g x k) e))))
          | no n ↦ absurd (omega (arith, exits.near v r n d, not_past v l, (moved v l).row r))
        ])
        (λ d. d)
        (lt-or_ge (least v) (degree g x v)))
        (λ r. good.bare v l (omega (arith, (moved v l).column r)))
        (lt-or_ge v g.rows)

    plain' : (v : ℕ) → v < vertices g → least v ≡ 0 → level ≤ price' v
    plain' v l z = ⊎_elim
        (λ r. ⊎_elim
        (λ h. elim (ℕ_discrete v root) [
          | yes e ↦ omega (arith, ap price' e, root_kept' (omega (arith, z, ap least e)))
          | no n ↦ omega (arith, exits.near v r n (omega (arith, z, near_some net good r (grown.reach v n (grown.near v l h).seen))), not_past v l, (moved v l).row r)
        ])
        (λ h. omega (arith, (moved v l).row r, good.plain v l z))
        (lt-or_ge (dist v) goal))
        (λ r. omega (arith, (moved v l).column r, good.plain v l z))
        (lt-or_ge v g.rows)

    not_root : {w : ℕ} → g.rows ≤ w → w ≢ root
    not_root r e = omega (arith, e, root_near)

    -- Where every least is 0, the label of a far vertex that moved leads from a near vertex with no potential below 0.
    slim' : ((w : ℕ) → w < vertices g → least w ≡ 0) → (v : ℕ) → v < vertices g → price' v ≤ level + greatest_weight
    slim' z v l = ⊎_elim
        (λ r. omega (arith, (moved v l).row r, good.slim z v l))
        (λ r. ⊎_elim
        (λ h.
        let s = grown.near v l h in
        let n = not_root r in
        let k = grown.reach v n s.seen in
        let f : first_end g (label v) < vertices g = omega (arith, first_to net (label v) k.inside, rows_in net) in
        omega (
          arith,
          tight_at v n s.seen (grown.low v s),
          value-most net (label v) k.inside,
          ap price' (far-label net good r k).1,
          plain' (first_end g (label v)) f (z (first_end g (label v)) f),
        ))
        (λ h. omega (arith, (moved v l).column r, good.slim z v l))
        (lt-or_ge (dist v) goal))
        (lt-or_ge v g.rows)

    good' : Good g least most x price'
    good' = record {
      long = good.long;
      marks = good.marks;
      within = good.within;
      low = λ v l. (range' v l).0;
      high = λ v l. (range' v l).1;
      loose = loose';
      chosen = chosen';
      full = full';
      bare = bare';
      plain = plain';
      slim = slim';
    }

    falls' : (w : ℕ) → w < g.rows → price' w ≤ price w
    falls' w r = omega (arith, (moved w (omega (arith, rows_in net))).row r)

    -- ---- the labels

    end_low : dist end ≤ goal
    end_low = omega (arith, at.here)

    zero' : price' end ≡ level
    zero' = ⊎_elim
        (λ r. omega (arith, end_near r, (moved end end_in).row r, at.here))
        (λ r. omega (arith, end_far r, (moved end end_in).column r, at.here))
        (lt-or_ge end g.rows)

    -- The ranks: a settled vertex has its place in the list, the end the next one if it is not settled, and the others have none.
    abbrev rank : ℕ → ℕ
    rank v = cond (ltb count (spot v)) (cond (eqb v end) (count + 1) 0) (spot v)

    rank_settled : (v : ℕ) → spot v ≤ count → rank v ≡ spot v
    rank_settled v l = ap (λ (b : Bool). cond b (cond (eqb v end) (count + 1) 0) (spot v)) (le-ltb count (spot v) l)

    rank_later : (v : ℕ) → count < spot v → rank v ≡ cond (eqb v end) (count + 1) 0
    rank_later v l = ap (λ (b : Bool). cond b (cond (eqb v end) (count + 1) 0) (spot v)) (lt-ltb count (spot v) l)

    record Ranked (v : ℕ) : Type 0 where
      pub seen : 0 < spot v
      pub near : dist v ≤ goal
      pub high : (k : ℕ) → k ≤ count → k < spot v → k < rank v
      pub under : rank v ≤ spot v

    ranked : (v : ℕ) → 0 < rank v → Ranked v
    ranked v a = ⊎_elim
        (λ l. elim (ℕ_discrete v end) [
          | yes e ↦
              let k : rank v ≡ count + 1 = rank_later v l ∙ if_same (count + 1) 0 e in
              record { seen = omega arith; near = omega (arith, ap dist e, end_low); high = λ j i b. omega (arith, k); under = omega (arith, k) }
          | no n ↦ absurd (omega (arith, rank_later v l, if_other {j = v} {k = end} (count + 1) 0 n))
        ])
        (λ l.
        let s : Settled spot count v = record { seen = omega (arith, rank_settled v l); early = l } in
        record { seen = s.seen; near = grown.low v s; high = λ k i b. omega (arith, rank_settled v l); under = omega (arith, rank_settled v l) })
        (lt-or_ge count (spot v))

    -- The rank of the vertex that a label leads from.
    module _ {v : ℕ} (n : v ≢ root) (a : 0 < rank v) where
      r : Reach g x price dist spot count (label v) v (dist v)
      r = grown.reach v n (ranked v a).seen

      from_rank : rank (tail g x (label v)) ≡ spot (tail g x (label v))
      from_rank = rank_settled (tail g x (label v)) r.from.early

      from_less : rank (tail g x (label v)) < rank v
      from_less = omega (arith, from_rank, (ranked v a).high (spot (tail g x (label v))) r.from.early r.less)

      from_seen : 0 < rank (tail g x (label v))
      from_seen = omega (arith, from_rank, r.from.seen)

    labels' : (k : ℕ) → Labels g x label rank root k
    labels' k = record {
      of_row = λ v d n a b.
          let e = near_label net good d (r n a) in
          record {
            inside = (r n a).inside;
            mark = e.0;
            end = e.1;
            less = omega (arith, from_less n a, ap rank e.2);
            seen = omega (arith, from_seen n a, ap rank e.2);
          };
      of_column = λ v d l a b.
          let n = not_root d in
          let e = far-label net good d (r n a) in
          record {
            inside = (r n a).inside;
            mark = e.0;
            end = e.1;
            less = omega (arith, from_less n a, ap rank e.2);
            seen = omega (arith, from_seen n a, ap rank e.2);
          };
    }

    end_ranked : 0 < rank end
    end_ranked = ⊎_elim (λ h. omega (arith, rank_later end h, if_same {j = end} (count + 1) 0 refl)) (λ h. omega (arith, rank_settled end h, at.seen)) (lt-or_ge count (spot end))

    pub finish : Ended g least most x price price' label root end
    finish = record {
      rank = rank;
      few = omega (arith, (ranked end end_ranked).under, grown.few end, few net);
      good = good';
      falls = falls';
      root_near = root_near;
      root_kept = root_kept';
      labels = labels' (rank end);
      tight = λ w l n a. tight_at w n (ranked w a).seen (ranked w a).near;
      inside = end_in;
      seen = end_ranked;
      zero = zero';
      at_root = λ e. go_root way e;
      at_near = λ l n. go_near way l n;
      at_far = λ l. go_far way l;
    }
      where
        go_root : Way → end ≡ root → least root ≤ degree g x root
        go_root (near_way a b c e) i = absurd (b i)
        go_root (root_way a c e) i = c
        go_root (far-way a c e) i = absurd (omega (arith, a, i, root_near))

        go_near : Way → end < g.rows → end ≢ root → least end < degree g x end
        go_near (near_way a b c e) l n = c
        go_near (root_way a c e) l n = absurd (n a)
        go_near (far-way a c e) l n = absurd (omega (arith, a, l))

        go_far : Way → g.rows ≤ end → degree g x end < most end
        go_far (near_way a b c e) l = absurd (omega (arith, a, l))
        go_far (root_way a c e) l = absurd (omega (arith, a, l, root_near))
        go_far (far-way a c e) l = c
