-- What the walk back from the end of a search leaves.
use Prim.Native.Nat.{ℕ, ◌+◌, ◌≤◌, ◌<◌}
use mathlib.Core.Path.{◌≡◌, refl, sym, ap, ◌∙◌, subst}
use mathlib.Core.Logic.{◌≢◌, ◌⊎◌, inl, inr, ⊎_elim}
use mathlib.Core.List.{List}
use native.Mathlib.Omega.{arith}
use native.Mathlib.Decide.{ℕ_discrete}
use Rattle.integers.specs.Sum.{is}
use Rattle.integers.proofs.Sum.{is_same, is-other}
use Rattle.graph.specs.Graph.{Graph, vertices}
use Rattle.graph.specs.Subgraph.{mark_at, degree}
use Rattle.method.proofs.Leading.{lt-or_ge}
use Rattle.method.specs.Method.{level, value, cost, Good, Served, Augmented, Sought}
use Rattle.method.specs.Tree.{Ended}

module _ {g : Graph} {least most : ℕ → ℕ} {x y : List ℕ} {start price label : ℕ → ℕ} {root v : ℕ}
    (e : Ended g least most x start price label root v) (room : degree g x root < most root)
    (a : Augmented g label e.rank root v x y) where
  -- Only labels change, and a label is tight.
  same : (k : ℕ) → (cost g price k ≡ value g k → ⊥) → mark_at y k ≡ mark_at x k
  same k f = a.kept k (λ h l n s i. f (subst (λ j. cost g price j ≡ value g j) i (e.tight h l n s)))

  -- ---- the degrees

  far-other : g.rows ≤ v → v ≢ root
  far-other l i = omega (arith, i, e.root_near)

  others : (h : ℕ) → h ≢ root → h ≢ v → degree g y h ≡ degree g x h
  others h n m = ⊎_elim
      (λ d. omega (arith, a.from_row d h, is-other root h (λ i. n (sym i)), is-other v h (λ i. m (sym i))))
      (λ d. omega (arith, a.from_column d h, is-other root h (λ i. n (sym i)), is-other v h (λ i. m (sym i))))
      (lt-or_ge v g.rows)

  root_stays : v ≡ root → degree g y root ≡ degree g x root
  root_stays i = omega (arith, a.from_row (omega (arith, i, e.root_near)) root, ap (λ k. is k root) i)

  root_gains : v ≢ root → degree g y root ≡ degree g x root + 1
  root_gains n = ⊎_elim
      (λ d. omega (arith, a.from_row d root, is_same root, is-other v root n))
      (λ d. omega (arith, a.from_column d root, is_same root, is-other v root n))
      (lt-or_ge v g.rows)

  near_loses : v < g.rows → v ≢ root → degree g y v + 1 ≡ degree g x v
  near_loses l n = omega (arith, a.from_row l v, is_same v, is-other root v (λ i. n (sym i)))

  far-gains : g.rows ≤ v → degree g y v ≡ degree g x v + 1
  far-gains l = omega (arith, a.from_column l v, is_same v, is-other root v (λ i. far-other l (sym i)))

  -- By vertex: the root, the end, any other.
  three : (P : ℕ → Type 0) → P root → (v ≢ root → P v) → ((h : ℕ) → h ≢ root → h ≢ v → P h) → (h : ℕ) → P h
  three P at_root at-end at_other h = elim (ℕ_discrete h root) [
    | yes i ↦ subst P (sym i) at_root
    | no n ↦ elim (ℕ_discrete h v) [ yes i ↦ subst P (sym i) (at-end (λ j. n (i ∙ j))) | no m ↦ at_other h n m ]
  ]

  root_grows : degree g y root ≤ degree g x root + 1
  root_grows = elim (ℕ_discrete v root) [ yes i ↦ omega (arith, root_stays i) | no n ↦ omega (arith, root_gains n) ]

  -- ---- all is kept

  within' : (h : ℕ) → h < vertices g → degree g y h ≤ most h
  within' = three (λ h. h < vertices g → degree g y h ≤ most h)
      (λ l. omega (arith, root_grows, room))
      (λ n l. ⊎_elim (λ d. omega (arith, near_loses d n, e.good.within v l)) (λ d. omega (arith, far-gains d, e.at_far d)) (lt-or_ge v g.rows))
      (λ h n m l. omega (arith, others h n m, e.good.within h l))

  full' : (h : ℕ) → g.rows ≤ h → h < vertices g → level < price h → degree g y h ≡ most h
  full' = three (λ h. g.rows ≤ h → h < vertices g → level < price h → degree g y h ≡ most h)
      (λ r l p. absurd (omega (arith, r, e.root_near)))
      (λ n r l p. absurd (omega (arith, p, e.zero)))
      (λ h n m r l p. omega (arith, others h n m, e.good.full h r l p))

  bare' : (h : ℕ) → h < vertices g → price h < level → degree g y h ≤ least h
  bare' = three (λ h. h < vertices g → price h < level → degree g y h ≤ least h)
      (λ l p. ⊎_elim (λ d. omega (arith, root_grows, d)) (λ d. absurd (omega (arith, p, e.root_kept d))) (lt-or_ge (degree g x root) (least root)))
      (λ n l p. absurd (omega (arith, p, e.zero)))
      (λ h n m l p. omega (arith, others h n m, e.good.bare h l p))

  good' : Good g least most y price
  good' = record {
    long = a.long ∙ e.good.long;
    marks = a.marks e.good.marks;
    within = within';
    low = e.good.low;
    high = e.good.high;
    loose = λ k l z. elim (ℕ_discrete (cost g price k) (value g k)) [ yes t ↦ omega (arith, t) | no n ↦ e.good.loose k l (sym (same k n) ∙ z) ];
    chosen = λ k l z. elim (ℕ_discrete (cost g price k) (value g k)) [ yes t ↦ omega (arith, t) | no n ↦ e.good.chosen k l (sym (same k n) ∙ z) ];
    full = full';
    bare = bare';
    plain = e.good.plain;
    slim = e.good.slim;
  }

  done' : (k : ℕ) → k < g.rows → k ≢ root → Served g least most x start k → Served g least most y price k
  done' = three (λ k. k < g.rows → k ≢ root → Served g least most x start k → Served g least most y price k)
      (λ l n s. absurd (n refl))
      (λ n l o s. record { floor = omega (arith, near_loses l n, e.at_near l n); full = λ p. absurd (omega (arith, p, e.zero)) })
      (λ k n m l o s. record { floor = omega (arith, others k n m, s.floor); full = λ p. omega (arith, others k n m, s.full (omega (arith, p, e.falls k l))) })

  rises' : (h : ℕ) → g.rows ≤ h → degree g x h ≤ degree g y h
  rises' = three (λ h. g.rows ≤ h → degree g x h ≤ degree g y h)
      (λ r. absurd (omega (arith, r, e.root_near)))
      (λ n r. omega (arith, far-gains r))
      (λ h n m r. omega (arith, others h n m))

  step' : (degree g y root ≡ degree g x root + 1) ⊎ ((price root ≡ level) × (degree g y root ≡ degree g x root) × (least root ≤ degree g x root))
  step' = elim (ℕ_discrete v root) [ yes i ↦ inr (sym (ap price i) ∙ e.zero, root_stays i, e.at_root i) | no n ↦ inl (root_gains n) ]

  -- The walk back from the end keeps all, and the root has one edge more or the potential 0.
  pub sought : Sought g least most root x start y price
  sought = record { good = good'; done = done'; rises = rises'; step = step'; falls = e.falls root e.root_near }
