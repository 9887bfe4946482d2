-- Looking at an edge keeps what the scan of a vertex keeps.
use Prim.Native.Nat.{ℕ, ◌+◌, ◌-◌, ◌≤◌, ◌<◌}
use mathlib.Core.Path.{◌≡◌, sym, ap, ◌∙◌, subst}
use mathlib.Core.Logic.{◌≢◌, ⊎_elim}
use mathlib.Core.Bool.{Bool, cond}
use mathlib.Core.List.{List}
use native.Mathlib.Omega.{arith}
use native.Mathlib.Nat.{add-zero, eq-zero-or-pos}
use native.Mathlib.Decide.{ℕ_discrete}
use lib.ListN.{set, length-set}
use lib.Seq.{get_or-set_other}
use borrow.Author.Tests.{eq-eqb, ne_eqb}
use Rattle.graph.specs.Limits.{most_vertices}
use Rattle.graph.specs.Graph.{Graph, vertices}
use Rattle.method.specs.Method.{Solvable}
use Rattle.method.specs.Tree.{entries, tail, head, slack}
use Rattle.method.specs.Front.{far, Relaxed, Looked}
use Rattle.method.proofs.Solvable.{few}
use Rattle.method.proofs.Leading.{Put, put_set}
use Rattle.method.proofs.Grow.{Appended, appended_old, appended_new, open_or_settled, not_more, look_passed, look_reaches, look_ends, relaxed_here, looked_same}
use Rattle.reach.specs.declared.Front.{Front}
use Rattle.reach.specs.Reach.{with_reached, advanced, ReachedBy, passes, reaches, ends}
use Rattle.scan.specs.Scan.{Scanning}

module _ {g : Graph} {x : List ℕ} {price exit : ℕ → ℕ} {label dist order : List ℕ} {root count : ℕ} {f : Front} {edge : ℕ → ℕ} {start k : ℕ}
    (net : Solvable g) (c : Scanning g x price exit label dist order root count f edge start k) where
  -- The list has a place for one vertex more.
  pub roomy : f.reached ≤ most_vertices
  roomy = omega (arith, not_more c.state, few net)

  -- The numbers after the list of those reached do not count.
  listed_same : (w : ℕ) (i : ℕ) → i < f.reached → entries (set order f.reached w) i ≡ entries order i
  listed_same w i l = get_or-set_other order f.reached i w 0 (λ e. omega (arith, e))

  -- Vertex w, which is nearer now, is among the open ones.
  relisted : {w h : ℕ} → w < vertices g → f.distance ≤ h → h < entries dist w →
      Appended (vertices g) c.state.spot count w (entries (set order f.reached w)) (with_reached (entries dist w) f.reached)
  relisted {w} {h} inside far-off nearer = elim (ℕ_discrete (entries dist w) far) [
    | yes e ↦
        subst (λ k. Appended (vertices g) c.state.spot count w (entries (set order f.reached w)) k)
        (sym (ap (λ (b : Bool). f.reached + cond b 1 0) (eq-eqb (entries dist w) far e)))
        (appended_new c.state.list c.state.high (unlisted e) inside (put_set order f.reached w (omega (arith, c.order_long, roomy))))
    | no n ↦
        subst (λ k. Appended (vertices g) c.state.spot count w (entries (set order f.reached w)) k)
        (sym (ap (λ (b : Bool). f.reached + cond b 1 0) (ne_eqb (entries dist w) far n) ∙ add-zero f.reached))
        (appended_old c.state.list c.state.high (after n) (listed_same w))
  ]
    where
      unlisted : entries dist w ≡ far → c.state.spot w ≡ 0
      unlisted e = ⊎_elim (λ z. z) (λ a. absurd (omega (arith, c.state.dists.some w a))) (eq-zero-or-pos (c.state.spot w))

      after : entries dist w ≢ far → count < c.state.spot w
      after n = ⊎_elim (λ z. absurd (n (c.state.dists.none w inside z)))
          (λ a. ⊎_elim (λ s. absurd (omega (arith, c.state.dists.low w s))) (λ l. l) (open_or_settled c.state w a))
          (eq-zero-or-pos (c.state.spot w))

-- What is kept, under other names.
named : {g : Graph} {x : List ℕ} {price exit : ℕ → ℕ} {label dist order label' dist' order' : List ℕ} {root count : ℕ} {f f' : Front} {edge : ℕ → ℕ} {start k : ℕ}
    → dist' ≡ dist → label' ≡ label → order' ≡ order → f' ≡ f → Scanning g x price exit label dist order root count f edge start k
    → Scanning g x price exit label' dist' order' root count f' edge start k
named {g} {x} {price} {exit} {label} {dist} {order} {label'} {dist'} {order'} {root} {count} {f} {f'} {edge} {start} {k} a b c e s =
    subst (λ z. Scanning g x price exit label' z order' root count f' edge start k) (sym a)
    (subst (λ z. Scanning g x price exit z dist order' root count f' edge start k) (sym b)
    (subst (λ z. Scanning g x price exit label dist z root count f' edge start k) (sym c)
    (subst (λ (z : Front). Scanning g x price exit label dist order root count z edge start k) (sym e) s)))

-- One place more, where the edge that stands there was looked at.
one_more : {g : Graph} {x : List ℕ} {price dist : ℕ → ℕ} {goal u : ℕ} {edge : ℕ → ℕ} {start k : ℕ} → Looked g x price dist goal u edge start k →
    (tail g x (edge k) ≡ u → Relaxed g x price dist goal (edge k)) → Looked g x price dist goal u edge start (k + 1)
one_more {g} {x} {price} {dist} {goal} {u} {edge} {k = k} l b = record {
  each = λ j a c t. elim (ℕ_discrete j k) [
    | yes e ↦ subst (λ j. Relaxed g x price dist goal (edge j)) (sym e) (b (ap (λ j. tail g x (edge j)) (sym e) ∙ t))
    | no n ↦ l.each j a (omega (arith, n)) t
  ];
}

module _ {g : Graph} {x : List ℕ} {price exit : ℕ → ℕ} {label dist order label' dist' order' : List ℕ} {root count : ℕ} {f f' : Front}
    {edge : ℕ → ℕ} {start k w h ex : ℕ}
    (net : Solvable g) (c : Scanning g x price exit label dist order root count f edge start k) (inside : w < vertices g)
    (r : ReachedBy ex w h (edge k) f f' label dist order label' dist' order') where
  -- Where the place after the list is written, nothing else changes.
  passed : (tail g x (edge k) ≡ f.vertex → Relaxed g x price (entries dist) f.goal (edge k)) →
      Scanning g x price exit label dist (set order f.reached w) root count f edge start (k + 1)
  passed b =
      let s = c.state in
      record {
        state = record {
          spot = s.spot;
          list = record {
            inside = s.list.inside;
            at = λ i l. ap s.spot (listed_same net c w i l) ∙ s.list.at i l;
            back = λ v a. ((s.list.back v a).0, listed_same net c w (s.spot v - 1) (omega (arith, (s.list.back v a).0)) ∙ (s.list.back v a).1);
            tally = s.list.tally;
          };
          high = s.high;
          dists = s.dists;
          top = s.top;
          newest = s.newest;
          here = s.here;
          older = s.older;
        };
        looked = one_more c.looked b;
        label_long = c.label_long;
        dist_long = c.dist_long;
        order_long = simp length-set c.order_long;
      }

  -- The edge does not lead from the vertex settled last, and comes after every end.
  pub skipped : f.goal ≤ h → tail g x (edge k) ≢ f.vertex → Scanning g x price exit label' dist' order' root count f' edge start (k + 1)
  skipped b n = go r
    where
      go : ReachedBy ex w h (edge k) f f' label dist order label' dist' order' → Scanning g x price exit label' dist' order' root count f' edge start (k + 1)
      go (passes p a l o m) = named a l o m (passed (λ t. absurd (n t)))
      go (reaches p q z a l o m) = absurd (omega arith)
      go (ends p z a l o m) = absurd (omega arith)

  -- It leads from there to w.
  module _ (edge_in : edge k < g.edges) (from : tail g x (edge k) ≡ f.vertex) (to : head g x (edge k) ≡ w) (sum : f.distance + slack g price (edge k) ≡ h)
      (ex-is : w ≢ root → ex ≡ exit w) where
    dp : (a : ℕ) → Put (entries dist) (entries (set dist w a)) w a
    dp a = put_set dist w a (omega (arith, inside, few net, c.dist_long))

    lp : (a : ℕ) → Put (entries label) (entries (set label w a)) w a
    lp a = put_set label w a (omega (arith, inside, few net, c.label_long))

    -- What is nearer now is not the root.
    not_root : h < entries dist w → w ≢ root
    not_root b i = omega (arith, ap (entries dist) i, c.state.dists.start)

    pub looked_at : Scanning g x price exit label' dist' order' root count f' edge start (k + 1)
    looked_at = go r
      where
        go : ReachedBy ex w h (edge k) f f' label dist order label' dist' order' → Scanning g x price exit label' dist' order' root count f' edge start (k + 1)
        go (passes p a l o m) = named a l o m (passed (λ t. look_passed c.state edge_in from to sum p))
        go (reaches p q z a l o m) =
            let re = relisted net c inside (omega (arith, sum)) p in
            named a l o m (record {
              state = look_reaches c.state edge_in from to sum p q (dp h) (lp (edge k)) re (omega (arith, z, ex-is (not_root p)));
              looked = one_more (looked_same c.state edge_in from to sum p q (dp h) (lp (edge k)) re (omega arith) c.looked)
                  (λ t. relaxed_here c.state edge_in from to sum p q (dp h) (lp (edge k)) re (omega arith));
              label_long = simp length-set c.label_long;
              dist_long = simp length-set c.dist_long;
              order_long = simp length-set c.order_long;
            })
        go (ends p z a l o m) =
            let q : h < f.goal = omega (arith, z) in
            let re = relisted net c inside (omega (arith, sum)) p in
            let is = ex-is (not_root p) in
            let less : h + exit w < f.goal = omega (arith, z, is) in
            named a l o (m ∙ ap (λ k. advanced f (h + k) w (with_reached (entries dist w) f.reached)) is) (record {
              state = look_ends c.state edge_in from to sum p q (dp h) (lp (edge k)) re less;
              looked = one_more (looked_same c.state edge_in from to sum p q (dp h) (lp (edge k)) re (omega arith) c.looked)
                  (λ t. relaxed_here c.state edge_in from to sum p q (dp h) (lp (edge k)) re (omega arith));
              label_long = simp length-set c.label_long;
              dist_long = simp length-set c.dist_long;
              order_long = simp length-set c.order_long;
            })
