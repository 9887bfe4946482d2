-- The scan of a vertex is over: the nearest open vertex is settled next, or the search is left.
use Prim.Native.Nat.{ℕ, ◌+◌, ◌-◌, ◌≤◌, ◌<◌}
use mathlib.Core.Path.{◌≡◌, refl, sym, ap, ◌∙◌, subst}
use mathlib.Core.Logic.{◌≢◌, inl, inr, ⊎_elim}
use mathlib.Core.List.{List}
use native.Mathlib.Omega.{arith}
use native.Mathlib.Nat.{eq-zero-or-pos}
use native.Mathlib.Decide.{ℕ_discrete}
use Rattle.integers.specs.Sum.{is}
use Rattle.integers.proofs.Sum.{is-other, sum-cong}
use Rattle.graph.specs.Graph.{Graph, vertices}
use Rattle.method.specs.Tree.{tail}
use Rattle.method.specs.Front.{ListedOnce, Settled, Reach, Distances, AtEnd, Relaxed, SearchState, Leaving}
use Rattle.method.proofs.Leading.{lt-or_ge}
use Rattle.method.proofs.Grow.{but, but_put, last_settled, open_or_settled}

-- The function f, but for a at v and b at w, where they differ.
pub record Swap (f f' : ℕ → ℕ) (v a w b : ℕ) : Type 0 where
  pub at : f' w ≡ b
  pub from : v ≢ w → f' v ≡ a
  pub other : (u : ℕ) → u ≢ v → u ≢ w → f' u ≡ f u

swap_but : (f : ℕ → ℕ) (v a w b : ℕ) → Swap f (but (but f v a) w b) v a w b
swap_but f v a w b = record {
  at = (but_put (but f v a) w b).at;
  from = λ n. (but_put (but f v a) w b).other v n ∙ (but_put f v a).at;
  other = λ u n m. (but_put (but f v a) w b).other u m ∙ (but_put f v a).other u n;
}

module _ {g : Graph} {x : List ℕ} {price exit dist label order : ℕ → ℕ} {root count reached d goal end u : ℕ}
    (s : SearchState g x price exit dist label order root count reached d goal end u) where
  -- The vertex settled last is the only one at its place.
  only : (v : ℕ) → Settled s.spot count v → count ≤ s.spot v → v ≡ u
  only v a l =
      let here : s.spot v ≡ s.spot u = omega (arith, a.early, s.newest) in
      sym (s.list.back v a.seen).1 ∙ ap (λ k. order (k - 1)) here ∙ (s.list.back u (last_settled s).seen).1

  -- An open vertex is nearer than the end where no open vertex is: so a vertex that is nearer is settled.
  near : ((i : ℕ) → count ≤ i → i < reached → goal ≤ dist (order i)) → (v : ℕ) → v < vertices g → dist v < goal → Settled s.spot count v
  near low v l b = ⊎_elim (λ z. absurd (omega (arith, s.dists.none v l z, s.top.small)))
      (λ a. ⊎_elim (λ h. h)
      (λ h.
      let k = s.list.back v a in
      absurd (omega (arith, low (s.spot v - 1) (omega arith) (omega (arith, k.0)), ap dist k.1)))
      (open_or_settled s v a))
      (eq-zero-or-pos (s.spot v))

  -- An end as near as the vertex settled last is the nearest of all.
  pub left-early : goal ≡ d → Leaving g x price exit dist label order root count goal end
  left-early e = record {
    d = d;
    reached = reached;
    u = u;
    state = s;
    near = near (λ i a b. omega (arith, s.dists.high (order i) (omega (arith, s.list.at i b))));
    looked = λ q l a b. ⊎_elim (λ o. s.older q l a o) (λ o. absurd (omega (arith, ap dist (only (tail g x q) a o), s.here))) (lt-or_ge (s.spot (tail g x q)) count);
  }

  -- All edges from the vertex settled last were looked at.
  module _ (all : (q : ℕ) → q < g.edges → tail g x q ≡ u → Relaxed g x price dist goal q) where
    scanned_all : (q : ℕ) → q < g.edges → Settled s.spot count (tail g x q) → Relaxed g x price dist goal q
    scanned_all q l a = ⊎_elim (λ o. s.older q l a o) (λ o. all q l (only (tail g x q) a o)) (lt-or_ge (s.spot (tail g x q)) count)

    -- No open vertex is nearer than the end.
    pub left-last : ((i : ℕ) → count ≤ i → i < reached → goal ≤ dist (order i)) → Leaving g x price exit dist label order root count goal end
    left-last low = record { d = d; reached = reached; u = u; state = s; near = near low; looked = λ q l a b. scanned_all q l a }

    -- Vertex w, the nearest of the open ones, is settled next: it changes places with the first of them, y.
    module _ {order' : ℕ → ℕ} {place w : ℕ} (from-count : count ≤ place) (to-reached : place < reached) (w-is : w ≡ order place)
        (nearer : dist w < goal) (low : (i : ℕ) → count ≤ i → i < reached → dist w ≤ dist (order i))
        (swapped : Swap order order' place (order count) count w) where
      abbrev y : ℕ
      y = order count

      spot_w : s.spot w ≡ place + 1
      spot_w = ap s.spot w-is ∙ s.list.at place to-reached

      spot_y : s.spot y ≡ count + 1
      spot_y = s.list.at count (omega arith)

      abbrev spot' : ℕ → ℕ
      spot' = but (but s.spot y (place + 1)) w (count + 1)

      p : Swap s.spot spot' y (place + 1) w (count + 1)
      p = swap_but s.spot y (place + 1) w (count + 1)

      -- Cases by vertex: w, the one at its old place, any other.
      three : (P : ℕ → Type 0) → P w → (y ≢ w → P y) → ((v : ℕ) → v ≢ y → v ≢ w → P v) → (v : ℕ) → P v
      three P a b f v = elim (ℕ_discrete v w) [
        | yes i ↦ subst P (sym i) a
        | no i ↦ elim (ℕ_discrete v y) [ yes j ↦ subst P (sym j) (b (λ h. i (j ∙ h))) | no j ↦ f v j i ]
      ]

      apart : y ≢ w → place ≢ count
      apart h e = h (sym (w-is ∙ ap order e))

      -- A settled vertex is another one, and stays where it is.
      others : (v : ℕ) → Settled s.spot count v → (v ≢ y) × (v ≢ w)
      others v a = (λ i. omega (arith, ap s.spot i, spot_y, a.early), λ i. omega (arith, ap s.spot i, spot_w, a.early))

      same : (v : ℕ) → Settled s.spot count v → spot' v ≡ s.spot v
      same v a = p.other v (others v a).0 (others v a).1

      still_settled : (v : ℕ) → Settled s.spot count v → Settled spot' (count + 1) v
      still_settled v a = record { seen = omega (arith, same v a, a.seen); early = omega (arith, same v a, a.early) }

      now_settled : Settled spot' (count + 1) w
      now_settled = record { seen = omega (arith, p.at); early = omega (arith, p.at) }

      was_settled : (v : ℕ) → Settled spot' (count + 1) v → v ≢ w → Settled s.spot count v
      was_settled v a n = three (λ v. Settled spot' (count + 1) v → v ≢ w → Settled s.spot count v) (λ a n. absurd (n refl))
          (λ h a n. absurd (omega (arith, p.from h, apart h, a.early)))
          (λ v i j a n.
          let o = p.other v i j in
          let f : s.spot v ≢ count + 1 = λ h.
          i (sym (s.list.back v (omega (arith, o, a.seen))).1 ∙ (let z : s.spot v - 1 ≡ count = omega (arith, h) in ap order z)) in
          record { seen = omega (arith, o, a.seen); early = omega (arith, o, a.early, f) })
          v a n

      -- A vertex is listed where it was listed.
      same_some : (v : ℕ) → 0 < spot' v → 0 < s.spot v
      same_some = three (λ v. 0 < spot' v → 0 < s.spot v) (λ a. omega (arith, spot_w)) (λ h a. omega (arith, spot_y)) (λ v i j a. omega (arith, p.other v i j))

      same_none : (v : ℕ) → spot' v ≡ 0 → s.spot v ≡ 0
      same_none = three (λ v. spot' v ≡ 0 → s.spot v ≡ 0) (λ a. absurd (omega (arith, p.at))) (λ h a. absurd (omega (arith, p.from h))) (λ v i j a. sym (p.other v i j) ∙ a)

      same-is : (v : ℕ) → is (spot' v) 0 ≡ is (s.spot v) 0
      same-is v = ⊎_elim (λ z. ap (λ j. is j 0) (z ∙ sym (same_none v z)))
          (λ a. is-other (spot' v) 0 (λ e. omega (arith, e)) ∙ sym (is-other (s.spot v) 0 (λ e. omega (arith, e, same_some v a)))) (eq-zero-or-pos (spot' v))

      at' : (i : ℕ) → i < reached → spot' (order' i) ≡ i + 1
      at' i l = elim (ℕ_discrete i count) [
        | yes e ↦ ap (λ i. spot' (order' i)) e ∙ ap spot' swapped.at ∙ p.at ∙ ap (λ i. i + 1) (sym e)
        | no e ↦ elim (ℕ_discrete i place) [
          | yes f ↦
              let ne : y ≢ w = λ h. omega (arith, ap s.spot h, spot_w, spot_y, e, f) in
              ap (λ i. spot' (order' i)) f ∙ ap spot' (swapped.from (apart ne)) ∙ p.from ne ∙ ap (λ i. i + 1) (sym f)
          | no f ↦
              let k = s.list.at i l in
              ap spot' (swapped.other i f e)
              ∙ p.other (order i) (λ h. omega (arith, k, ap s.spot h, spot_y, e)) (λ h. omega (arith, k, ap s.spot h, spot_w, f))
              ∙ k
        ]
      ]

      back' : (v : ℕ) → 0 < spot' v → (spot' v ≤ reached) × (order' (spot' v - 1) ≡ v)
      back' = three (λ v. 0 < spot' v → (spot' v ≤ reached) × (order' (spot' v - 1) ≡ v))
          (λ a. let z : spot' w - 1 ≡ count = omega (arith, p.at) in (omega (arith, p.at), ap order' z ∙ swapped.at))
          (λ h a. let z : spot' y - 1 ≡ place = omega (arith, p.from h) in (omega (arith, p.from h), ap order' z ∙ swapped.from (apart h)))
          (λ v i j a.
          let o = p.other v i j in
          let q = s.list.back v (omega (arith, o)) in (
            omega (arith, o, q.0),
            ap (λ z. order' (z - 1)) o
                ∙ swapped.other (s.spot v - 1) (λ h. j (sym q.1 ∙ ap order h ∙ sym w-is)) (λ h. i (sym q.1 ∙ ap order h))
                ∙ q.1,
          ))

      list' : ListedOnce (vertices g) order' spot' reached
      list' = record {
        inside = λ v a. s.list.inside v (same_some v a);
        at = at';
        back = back';
        tally = omega (arith, s.list.tally, sum-cong (vertices g) (λ v. is (spot' v) 0) (λ v. is (s.spot v) 0) (λ v l. same-is v));
      }

      -- What led to a vertex leads there still: vertices only move back in the list, but for w.
      reach_same : {v k : ℕ} → s.spot (tail g x k) < spot' v → {h : ℕ} → Reach g x price dist s.spot count k v h → Reach g x price dist spot' (count + 1) k v h
      reach_same {v} {k} l r = record {
        inside = r.inside;
        leads = r.leads;
        from = still_settled (tail g x k) r.from;
        less = omega (arith, same (tail g x k) r.from);
        sum = r.sum;
      }

      above : (v k : ℕ) → s.spot k ≤ count → s.spot k < s.spot v → s.spot k < spot' v
      above v k c = three (λ v. s.spot k < s.spot v → s.spot k < spot' v) (λ l. omega (arith, p.at)) (λ h l. omega (arith, p.from h)) (λ v i j l. omega (arith, p.other v i j)) v

      high_w : d ≤ dist w
      high_w = s.dists.high w (omega (arith, spot_w))

      dists' : Distances g x price exit dist label spot' root (count + 1) (dist w) goal
      dists' = record {
        none = λ v l z. s.dists.none v l (same_none v z);
        some = λ v a. s.dists.some v (same_some v a);
        low = λ v a. elim (ℕ_discrete v w) [ yes i ↦ omega (arith, ap dist i) | no i ↦ omega (arith, s.dists.low v (was_settled v a i), high_w) ];
        high = λ v a.
            let l = list'.back v (omega arith) in
            let b = same_some v (omega arith) in
            let k = s.list.back v b in
            let c : count < s.spot v = ⊎_elim (λ h. absurd (omega (arith, (still_settled v h).early))) (λ h. h) (open_or_settled s v b) in
            omega (arith, low (s.spot v - 1) (omega (arith, c)) (omega (arith, k.0)), ap dist k.1);
        ways = λ v a. s.dists.ways v (same_some v a);
        reach = λ v n a.
            let r = s.dists.reach v n (same_some v a) in
            reach_same (above v (tail g x (label v)) r.from.early r.less) r;
        start = s.dists.start;
        first = same root s.dists.root_first ∙ s.dists.first;
        root_first = still_settled root s.dists.root_first;
      }

      ends_same : AtEnd exit dist s.spot goal end → AtEnd exit dist spot' goal end
      ends_same a = record {
        seen = ⊎_elim (λ z. absurd (omega (arith, same_none end z, a.seen))) (λ h. h) (eq-zero-or-pos (spot' end));
        way = a.way;
        here = a.here;
      }

      pub next : SearchState g x price exit dist label order' root (count + 1) reached (dist w) goal end w
      next = record {
        spot = spot';
        list = list';
        high = omega arith;
        dists = dists';
        top = record { least = omega (arith, nearer); small = s.top.small; ends = ⊎_elim (λ f. inl f) (λ a. inr (ends_same a)) s.top.ends };
        newest = p.at;
        here = refl;
        older = λ q l a b.
            let n : tail g x q ≢ w = λ i. omega (arith, ap spot' i, p.at) in
            scanned_all q l (was_settled (tail g x q) a n);
      }
