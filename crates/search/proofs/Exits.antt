-- How far each vertex is from a way out, vertex by vertex.
use Prim.Native.Nat.{ℕ, ◌-◌, ◌≤◌, ◌<◌}
use mathlib.Core.Path.{◌≡◌, refl, ◌∙◌}
use mathlib.Core.Logic.{◌≢◌, ⊎_elim}
use mathlib.Core.List.{List}
use native.Mathlib.Omega.{arith}
use Rattle.graph.specs.Graph.{Graph, vertices}
use Rattle.graph.specs.Subgraph.{degree}
use Rattle.method.specs.Method.{level, Solvable, Good, Rooted}
use Rattle.method.specs.Front.{far, shut, near_exit, far_exit, root_exit, Exits}
use Rattle.method.specs.declared.Table.{Table}
use Rattle.method.specs.declared.KeptEdge.{KeptEdge}
use Rattle.method.specs.Lists.{leasts, mosts, Degrees, Given}
use Rattle.method.proofs.Tests.{if_less, if_not_less}
use Rattle.method.proofs.Solvable.{rows_in}
use Rattle.method.proofs.Leading.{lt-or_ge, if_same, if_other}
use Rattle.search.specs.Search.{Known, exit_of}

module _ (rows : ℕ) (price used least most : ℕ → ℕ) (root : ℕ) where
  abbrev exit : ℕ → ℕ
  exit = exit_of rows price used least most root

  pub exit_own : exit root ≡ root_exit (price root) (used root) (least root)
  exit_own = if_same {j = root} {k = root} _ _ refl

  pub exit_near : (v : ℕ) → v < rows → v ≢ root → exit v ≡ near_exit (price v) (used v) (least v)
  exit_near v l n = if_other {j = v} {k = root} _ _ n ∙ if_less _ _ l

  pub exit_far : (v : ℕ) → rows ≤ v → v ≢ root → exit v ≡ far_exit (price v) (used v) (most v)
  exit_far v l n = if_other {j = v} {k = root} _ _ n ∙ if_not_less _ _ l

module _ {g : Graph} {least most : ℕ → ℕ} {x : List ℕ} {price used : ℕ → ℕ} {root : ℕ} (net : Solvable g) (good : Good g least most x price)
    (degrees : Degrees g least most x used) (start : Rooted g least most x price root) where
  root_in : root < vertices g
  root_in = omega (arith, start.near, rows_in net)

  not_root : {v : ℕ} → g.rows ≤ v → v ≢ root
  not_root l e = omega (arith, e, start.near)

  -- A far vertex that may gain an edge has no price above 0, and a vertex that may lose one none below.
  pub may_gain : (v : ℕ) → g.rows ≤ v → v < vertices g → used v < most v → price v ≤ level
  may_gain v r l h = ⊎_elim (λ b. absurd (omega (arith, h, degrees.each v l, good.full v r l b))) (λ b. b) (lt-or_ge level (price v))

  may_lose : (v : ℕ) → v < vertices g → least v < degree g x v → level ≤ price v
  may_lose v l h = ⊎_elim (λ b. absurd (omega (arith, h, good.bare v l b))) (λ b. b) (lt-or_ge (price v) level)

  pub root_price : least root ≤ used root → level ≤ price root
  root_price h = ⊎_elim (λ d. absurd (omega (arith, h, d, degrees.each root root_in))) (λ d. omega arith) start.due

  pub exits : Exits g least most x price root (exit_of g.rows price used least most root)
  exits = record {
    near = λ v l n h.
        let i : v < vertices g = omega (arith, rows_in net) in
        let k : least v < used v = omega (arith, h, degrees.each v i) in
        omega (arith, exit_near g.rows price used least most root v l n, if_less 0 shut k, may_lose v i h);
    near_none = λ v l n h.
        let i : v < vertices g = omega (arith, rows_in net) in
        let k : used v ≤ least v = omega (arith, h, degrees.each v i) in
        omega (arith, exit_near g.rows price used least most root v l n, if_not_less 0 shut k, good.low v i);
    own = λ h.
        let k : least root ≤ used root = omega (arith, h, degrees.each root root_in) in
        let e = exit_own g.rows price used least most root ∙ if_not_less far (price root - level) k in
        omega (arith, e, root_price k);
    own_none = λ h.
        let k : used root < least root = omega (arith, h, degrees.each root root_in) in
        omega (arith, exit_own g.rows price used least most root ∙ if_less far (price root - level) k);
    away = λ v r l h.
        let k : used v < most v = omega (arith, h, degrees.each v l) in
        omega (arith, exit_far g.rows price used least most root v r (not_root r), if_less 0 shut k, may_gain v r l k);
    away_none = λ v r l h.
        let k : most v ≤ used v = omega (arith, h, degrees.each v l) in
        omega (arith, exit_far g.rows price used least most root v r (not_root r), if_not_less 0 shut k, good.high v l);
  }

-- The ways out of all vertices, from what a search is lent and where it starts.
pub record Ways (g : Graph) (table : Table) (x : List ℕ) (price used : ℕ → ℕ) (root : ℕ) (exit : ℕ → ℕ) : Type 0 where
  pub own : exit root ≡ root_exit (price root) (used root) (leasts table root)
  pub near : (v : ℕ) → v < g.rows → v ≢ root → exit v ≡ near_exit (price v) (used v) (leasts table v)
  pub far : (v : ℕ) → g.rows ≤ v → exit v ≡ far_exit (price v) (used v) (mosts table v)
  pub gains : (v : ℕ) → g.rows ≤ v → v < vertices g → used v < mosts table v → price v ≤ level
  pub exits : Exits g (leasts table) (mosts table) x price root exit

pub ways : {g : Graph} {arc : List KeptEdge} {table : Table} {places : ℕ} {x : List ℕ} {price used list : ℕ → ℕ} {root : ℕ} → Given g arc table places →
    Known g (leasts table) (mosts table) x price used list → Rooted g (leasts table) (mosts table) x price root →
    Ways g table x price used root (exit_of g.rows price used (leasts table) (mosts table) root)
ways {g} {table = table} {price = price} {used} {root = root} given known rooted =
    let good = known.between.good in
    let degrees = known.between.degrees in
    record {
      own = exit_own g.rows price used (leasts table) (mosts table) root;
      near = exit_near g.rows price used (leasts table) (mosts table) root;
      far = λ v l. exit_far g.rows price used (leasts table) (mosts table) root v l (λ e. omega (arith, e, rooted.near));
      gains = may_gain given.net good degrees rooted;
      exits = exits given.net good degrees rooted;
    }
