-- One more edge looked at keeps what a search keeps: nothing changes, or its head is reached, for the first time or at a lesser distance.
use Prim.Native.Nat.{ℕ, ◌+◌, ◌-◌, ◌≤◌, ◌<◌}
use mathlib.Core.Path.{◌≡◌, refl, sym, ap, ◌∙◌, subst}
use mathlib.Core.Logic.{◌≢◌, ◌⊎◌, inl, inr, ⊎_elim}
use mathlib.Core.Bool.{cond}
use mathlib.Core.List.{List}
use native.Mathlib.Omega.{arith}
use native.Mathlib.Decide.{ℕ_discrete}
use lib.Dec.{eqb}
use Rattle.integers.specs.Sum.{is}
use Rattle.integers.proofs.Sum.{is-other, sum-change, sum-const}
use Rattle.graph.specs.Graph.{Graph, vertices}
use Rattle.method.specs.Tree.{tail, head, slack}
use Rattle.method.specs.Front.{far, ListedOnce, Settled, Reach, Distances, AtEnd, Relaxed, SearchState, Looked}
use Rattle.method.proofs.Leading.{lt-or_ge, if_same, if_other, Put}

-- The function f, but for a at v.
abbrev pub but : (ℕ → ℕ) → ℕ → ℕ → ℕ → ℕ
but f v a w = cond (eqb w v) a (f w)

pub but_put : (f : ℕ → ℕ) (v a : ℕ) → Put f (but f v a) v a
but_put f v a = record { at = if_same {j = v} a (f v) refl; other = λ w n. if_other {j = w} a (f w) n }

-- The list with vertex w among the open ones: where it was, or after the others.
pub record Appended (n : ℕ) (spot : ℕ → ℕ) (count w : ℕ) (order' : ℕ → ℕ) (reached' : ℕ) : Type 0 where
  pub spot' : ℕ → ℕ
  pub list : ListedOnce n order' spot' reached'
  pub same : (v : ℕ) → v ≢ w → spot' v ≡ spot v
  pub later : count < spot' w
  pub high : count ≤ reached'

-- It is listed already.
pub appended_old : {n count reached w : ℕ} {spot order order' : ℕ → ℕ} → ListedOnce n order spot reached → count ≤ reached → count < spot w →
    ((i : ℕ) → i < reached → order' i ≡ order i) → Appended n spot count w order' reached
appended_old {spot = spot} {order} {order'} l high after same = record {
  spot' = spot;
  list = record {
    inside = l.inside;
    at = λ i b. ap spot (same i b) ∙ l.at i b;
    back = λ v a. ((l.back v a).0, same (spot v - 1) (omega (arith, (l.back v a).0)) ∙ (l.back v a).1);
    tally = l.tally;
  };
  same = λ v n. refl;
  later = after;
  high = high;
}

-- It is not.
module _ {n count reached w : ℕ} {spot order order' : ℕ → ℕ} (l : ListedOnce n order spot reached) (high : count ≤ reached) (none : spot w ≡ 0) (inside : w < n)
    (put : Put order order' reached w) where
  abbrev more : ℕ → ℕ
  more = but spot w (reached + 1)

  p : Put spot more w (reached + 1)
  p = but_put spot w (reached + 1)

  at_more : (i : ℕ) → i < reached + 1 → more (order' i) ≡ i + 1
  at_more i b = elim (ℕ_discrete i reached) [
    | yes e ↦ ap (λ i. more (order' i)) e ∙ ap more put.at ∙ p.at ∙ ap (λ i. i + 1) (sym e)
    | no e ↦
        let c : i < reached = omega (arith, e) in
        ap more (put.other i e) ∙ p.other (order i) (λ h. omega (arith, l.at i c, ap spot h, none)) ∙ l.at i c
  ]

  back_more : (v : ℕ) → 0 < more v → (more v ≤ reached + 1) × (order' (more v - 1) ≡ v)
  back_more v a = elim (ℕ_discrete v w) [
    | yes e ↦
        let k : more v ≡ reached + 1 = ap more e ∙ p.at in
        let i : more v - 1 ≡ reached = omega (arith, k) in
        (omega (arith, k), ap order' i ∙ put.at ∙ sym e)
    | no e ↦
        let k = p.other v e in
        let b = l.back v (omega (arith, k)) in
        (omega (arith, k, b.0), ap (λ i. order' (i - 1)) k ∙ put.other (spot v - 1) (λ h. omega (arith, h, b.0, k)) ∙ b.1)
  ]

  pub appended_new : Appended n spot count w order' (reached + 1)
  appended_new = record {
    spot' = more;
    list = record {
      inside = λ v a. elim (ℕ_discrete v w) [ yes e ↦ omega (arith, e, inside) | no e ↦ l.inside v (omega (arith, p.other v e)) ];
      at = at_more;
      back = back_more;
      tally = omega (
        arith,
        l.tally,
        sum-change n w (λ v. is (more v) 0) (λ v. is (spot v) 0) inside (λ v b e. ap (λ k. is k 0) (p.other v e)),
        ap (λ k. is k 0) none,
        ap (λ k. is k 0) p.at,
        is-other (reached + 1) 0 (λ e. omega (arith, e)),
      );
    };
    same = p.other;
    later = omega (arith, p.at);
    high = omega arith;
  }

-- The root alone is reached, and settled.
module _ (root : ℕ) where
  abbrev alone : ℕ → ℕ
  alone = but (λ v. 0) root 1

  only : Put (λ v. 0) alone root 1
  only = but_put (λ v. 0) root 1

  the_root : (v : ℕ) → 0 < alone v → v ≡ root
  the_root v a = elim (ℕ_discrete v root) [ yes e ↦ e | no n ↦ absurd (omega (arith, only.other v n)) ]

  settled : Settled alone 1 root
  settled = record { seen = omega (arith, only.at); early = omega (arith, only.at) }

-- The start.
pub start : {g : Graph} {x : List ℕ} {price exit dist label order : ℕ → ℕ} {root goal : ℕ} → root < vertices g →
    dist root ≡ 0 → ((v : ℕ) → v < vertices g → v ≢ root → dist v ≡ far) → order 0 ≡ root → goal ≡ exit root → goal ≤ far
    → SearchState g x price exit dist label order root 1 1 0 goal root root
start {g} {x} {price} {exit} {dist} {label} {order} {root} {goal} low at other first goal-is small = record {
  spot = alone root;
  list = record {
    inside = λ v a. omega (arith, the_root root v a);
    at = λ i l.
        let z : i ≡ 0 = omega arith in
        ap (λ i. alone root (order i)) z ∙ ap (alone root) first ∙ (only root).at ∙ ap (λ i. i + 1) (sym z);
    back = λ v a.
        let k : alone root v ≡ 1 = ap (alone root) (the_root root v a) ∙ (only root).at in
        (omega (arith, k), ap (λ i. order (i - 1)) k ∙ first ∙ sym (the_root root v a));
    tally = omega (
      arith,
      sum-change (vertices g) root (λ v. is (alone root v) 0) (λ v. 1) (omega arith) (λ v l n. ap (λ k. is k 0) ((only root).other v n)),
      sum-const (vertices g) 1,
      ap (λ k. is k 0) (only root).at,
      is-other 1 0 (λ e. omega (arith, e)),
    );
  };
  high = omega arith;
  dists = record {
    none = λ v l z. other v l (λ e. omega (arith, ap (alone root) e, (only root).at));
    some = λ v a. omega (arith, ap dist (the_root root v a), at);
    low = λ v a. omega (arith, ap dist (the_root root v a.seen), at);
    high = λ v a. omega arith;
    ways = λ v a. omega (arith, ap dist (the_root root v a), ap exit (the_root root v a), at, goal-is);
    reach = λ v n a. absurd (n (the_root root v a));
    start = at;
    first = (only root).at;
    root_first = settled root;
  };
  top = record {
    least = omega arith;
    small = small;
    ends = ⊎_elim (λ l. inr (record { seen = (settled root).seen; way = omega (arith, goal-is); here = omega (arith, at, goal-is) }))
        (λ l. inl (omega arith)) (lt-or_ge goal far);
  };
  newest = (only root).at;
  here = at;
  older = λ q l a b. absurd (omega (arith, a.seen));
}

module _ {g : Graph} {x : List ℕ} {price exit dist label order : ℕ → ℕ} {root count reached d goal end u : ℕ}
    (s : SearchState g x price exit dist label order root count reached d goal end u) where
  some_settled : 0 < count
  some_settled = omega (arith, s.dists.root_first.seen, s.dists.root_first.early)

  pub last_settled : Settled s.spot count u
  last_settled = record { seen = omega (arith, s.newest, some_settled); early = omega (arith, s.newest) }

  pub last_in : u < vertices g
  last_in = s.list.inside u last_settled.seen

  pub not_more : reached ≤ vertices g
  not_more = omega (arith, s.list.tally)

  -- An entry of the list is a vertex, and the list has each once.
  pub entry_in : (i : ℕ) → i < reached → order i < vertices g
  entry_in i l = s.list.inside (order i) (omega (arith, s.list.at i l))

  pub entry_once : (i j : ℕ) → i < reached → j < reached → order i ≡ order j → i ≡ j
  entry_once i j a b e = omega (arith, s.list.at i a, s.list.at j b, ap s.spot e)

  pub entry_settled : (i : ℕ) → i < count → Settled s.spot count (order i)
  entry_settled i l =
      let a = s.list.at i (omega (arith, s.high)) in
      record { seen = omega (arith, a); early = omega (arith, a) }

  -- A vertex that is reached and not settled stands among the open ones.
  pub open_or_settled : (v : ℕ) → 0 < s.spot v → Settled s.spot count v ⊎ (count < s.spot v)
  open_or_settled v a = ⊎_elim (λ l. inr l) (λ l. inl (record { seen = a; early = l })) (lt-or_ge count (s.spot v))

  -- The edge leads from the vertex settled last to vertex w, at distance h.
  module _ {e w h : ℕ} (inside : e < g.edges) (from : tail g x e ≡ u) (to : head g x e ≡ w) (sum : d + slack g price e ≡ h) where
    -- It brings w no nearer, or no end nearer.
    pub look_passed : (dist w ≤ h) ⊎ (goal ≤ h) → Relaxed g x price dist goal e
    look_passed = ⊎_elim (λ l. inl (omega (arith, ap dist from, ap dist to, s.here, sum))) (λ l. inr (omega (arith, ap dist from, s.here, sum)))

    -- It brings w nearer.
    module _ {dist' label' order' : ℕ → ℕ} {reached' goal' : ℕ} (nearer : h < dist w) (below : h < goal) (dp : Put dist dist' w h)
        (lp : Put label label' w e) (r : Appended (vertices g) s.spot count w order' reached') (falls : goal' ≤ goal) where
      -- A settled vertex is another one, and stays as it is.
      other : (v : ℕ) → Settled s.spot count v → v ≢ w
      other v a i = omega (arith, s.dists.low v a, ap dist i, sum)

      settled_same : (v : ℕ) → Settled s.spot count v → Settled r.spot' count v
      settled_same v a = record { seen = omega (arith, r.same v (other v a), a.seen); early = omega (arith, r.same v (other v a), a.early) }

      was_other : (v : ℕ) → Settled r.spot' count v → v ≢ w
      was_other v a i = omega (arith, ap r.spot' i, r.later, a.early)

      was_settled : (v : ℕ) → Settled r.spot' count v → Settled s.spot count v
      was_settled v a = record { seen = omega (arith, r.same v (was_other v a), a.seen); early = omega (arith, r.same v (was_other v a), a.early) }

      dist_same : (v : ℕ) → Settled s.spot count v → dist' v ≡ dist v
      dist_same v a = dp.other v (other v a)

      dist_less : (v : ℕ) → dist' v ≤ dist v
      dist_less v = elim (ℕ_discrete v w) [ yes i ↦ omega (arith, ap dist' i, dp.at, ap dist i, nearer) | no i ↦ omega (arith, dp.other v i) ]

      -- What edges from settled vertices say stays.
      pub bounded_same : (q : ℕ) → Settled s.spot count (tail g x q) → Relaxed g x price dist goal q → Relaxed g x price dist' goal' q
      bounded_same q a = ⊎_elim (λ l. inl (omega (arith, dist_less (head g x q), dist_same (tail g x q) a))) (λ l. inr (omega (arith, dist_same (tail g x q) a, falls)))

      pub relaxed_here : Relaxed g x price dist' goal' e
      relaxed_here =
          let a = last_settled in
          inl (omega (arith, ap dist' from, ap dist' to, dp.at, dist_same u a, s.here, sum))

      pub looked_same : {edge : ℕ → ℕ} {start k : ℕ} → Looked g x price dist goal u edge start k → Looked g x price dist' goal' u edge start k
      looked_same {edge} l = record {
        each = λ j a b i. bounded_same (edge j) (subst (λ v. Settled s.spot count v) (sym i) last_settled) (l.each j a b i);
      }

      reach_same : {q v k : ℕ} → v ≢ w → Reach g x price dist s.spot count q v k → Reach g x price dist' r.spot' count q v k
      reach_same {q} {v} n c = record {
        inside = c.inside;
        leads = c.leads;
        from = settled_same (tail g x q) c.from;
        less = omega (arith, r.same (tail g x q) (other (tail g x q) c.from), r.same v n, c.less);
        sum = omega (arith, dist_same (tail g x q) c.from, c.sum);
      }

      reach_here : Reach g x price dist' r.spot' count e w h
      reach_here = record {
        inside = inside;
        leads = to;
        from = subst (λ v. Settled r.spot' count v) (sym from) (settled_same u last_settled);
        less = omega (arith, ap r.spot' from, (settled_same u last_settled).early, r.later);
        sum = omega (arith, ap dist' from, dist_same u last_settled, s.here, sum);
      }

      some_old : (v : ℕ) → v ≢ w → 0 < r.spot' v → 0 < s.spot v
      some_old v n a = omega (arith, r.same v n)

      module _ (no-farther : goal' ≤ h + exit w) where
        dists' : Distances g x price exit dist' label' r.spot' root count d goal'
        dists' = record {
          none = λ v l z.
              let n : v ≢ w = λ i. omega (arith, ap r.spot' i, r.later) in
              dp.other v n ∙ s.dists.none v l (sym (r.same v n) ∙ z);
          some = λ v a. elim (ℕ_discrete v w) [
            | yes i ↦ omega (arith, ap dist' i, dp.at, below, s.top.small)
            | no n ↦ omega (arith, dp.other v n, s.dists.some v (some_old v n a))
          ];
          low = λ v a. omega (arith, dist_same v (was_settled v a), s.dists.low v (was_settled v a));
          high = λ v a. elim (ℕ_discrete v w) [
            | yes i ↦ omega (arith, ap dist' i, dp.at, sum)
            | no n ↦ omega (arith, dp.other v n, s.dists.high v (omega (arith, r.same v n)))
          ];
          ways = λ v a. elim (ℕ_discrete v w) [
            | yes i ↦ omega (arith, ap dist' i, dp.at, ap exit i, no-farther)
            | no n ↦ omega (arith, dp.other v n, s.dists.ways v (some_old v n a), falls)
          ];
          reach = λ v n a. elim (ℕ_discrete v w) [
            | yes i ↦
                let k : label' v ≡ e = ap label' i ∙ lp.at in
                let b : dist' v ≡ h = ap dist' i ∙ dp.at in
                subst (λ q. Reach g x price dist' r.spot' count q v (dist' v)) (sym k)
                (subst (λ z. Reach g x price dist' r.spot' count e v z) (sym b) (subst (λ z. Reach g x price dist' r.spot' count e z h) (sym i) reach_here))
            | no m ↦
                subst (λ q. Reach g x price dist' r.spot' count q v (dist' v)) (sym (lp.other v m))
                (subst (λ z. Reach g x price dist' r.spot' count (label v) v z) (sym (dp.other v m)) (reach_same m (s.dists.reach v n (some_old v m a))))
          ];
          start = dist_same root s.dists.root_first ∙ s.dists.start;
          first = r.same root (other root s.dists.root_first) ∙ s.dists.first;
          root_first = settled_same root s.dists.root_first;
        }

        grown : {end' : ℕ} → d ≤ goal' → (goal' ≡ far) ⊎ AtEnd exit dist' r.spot' goal' end' →
            SearchState g x price exit dist' label' order' root count reached' d goal' end' u
        grown least ends = record {
          spot = r.spot';
          list = r.list;
          high = r.high;
          dists = dists';
          top = record {
            least = least;
            small = omega (arith, s.top.small, falls);
            ends = ends;
          };
          newest = r.same u (other u last_settled) ∙ s.newest;
          here = dist_same u last_settled ∙ s.here;
          older = λ q l a b.
              let c = was_settled (tail g x q) a in
              bounded_same q c (s.older q l c (omega (arith, r.same (tail g x q) (was_other (tail g x q) a))));
        }

    -- Where no path ends nearer by w, the nearest end stays.
    module _ {dist' label' order' : ℕ → ℕ} {reached' : ℕ} (nearer : h < dist w) (below : h < goal) (dp : Put dist dist' w h) (lp : Put label label' w e)
        (r : Appended (vertices g) s.spot count w order' reached') (farther : goal ≤ h + exit w) where
      pub look_reaches : SearchState g x price exit dist' label' order' root count reached' d goal end u
      look_reaches = grown nearer below dp lp r (omega arith) farther s.top.least (⊎_elim (λ f. inl f) (λ a. inr (ends_same a)) s.top.ends)
        where
          -- The end is another vertex: by w the path would be shorter now.
          ends_same : AtEnd exit dist s.spot goal end → AtEnd exit dist' r.spot' goal end
          ends_same a =
              let n : end ≢ w = λ i. omega (arith, a.here, ap dist i, ap exit i, nearer, farther) in
              record { seen = omega (arith, r.same end n, a.seen); way = a.way; here = omega (arith, dp.other end n, a.here) }

    -- Where one does, w is the end.
    module _ {dist' label' order' : ℕ → ℕ} {reached' : ℕ} (nearer : h < dist w) (below : h < goal) (dp : Put dist dist' w h) (lp : Put label label' w e)
        (r : Appended (vertices g) s.spot count w order' reached') (ends : h + exit w < goal) where
      pub look_ends : SearchState g x price exit dist' label' order' root count reached' d (h + exit w) w u
      look_ends = grown nearer below dp lp r (omega arith) (omega arith) (omega (arith, sum))
          (inr (record { seen = omega (arith, r.later); way = omega (arith, s.top.small); here = omega (arith, dp.at) }))
