-- The search is left: what it has grown to, and how far each vertex moves.
use Prim.Native.Nat.{ℕ, ◌-◌, ◌≤◌, ◌<◌}
use mathlib.Core.Path.{◌≡◌, sym, ap, ◌∙◌, subst}
use mathlib.Core.Logic.{⊎_elim}
use mathlib.Core.List.{List}
use native.Mathlib.Omega.{arith}
use native.Mathlib.Nat.{eq-zero-or-pos}
use Rattle.graph.specs.Graph.{Graph, vertices}
use Rattle.method.specs.Front.{Settled, SearchState, SearchGrown, Leaving, Shift, Shifted}
use Rattle.method.proofs.Leading.{lt-or_ge}
use Rattle.method.proofs.Grow.{not_more, entry_settled, open_or_settled}

module _ {g : Graph} {x : List ℕ} {price exit dist label order : ℕ → ℕ} {root count goal end : ℕ}
    (left : Leaving g x price exit dist label order root count goal end) where
  abbrev s : SearchState g x price exit dist label order root count left.reached left.d goal end left.u
  s = left.state

  spot_few : (v : ℕ) → s.spot v ≤ vertices g
  spot_few v = ⊎_elim (λ z. omega (arith, z)) (λ a. omega (arith, (s.list.back v a).0, not_more s)) (eq-zero-or-pos (s.spot v))

  pub grown : SearchGrown g x price exit dist label s.spot root count goal
  grown = record {
    inside = s.list.inside;
    few = spot_few;
    once = λ v w a e. sym (s.list.back v a).1 ∙ ap (λ k. order (k - 1)) e ∙ (s.list.back w (omega (arith, e, a))).1;
    first = s.dists.first;
    start = s.dists.start;
    some = s.dists.some;
    reach = s.dists.reach;
    near = left.near;
    low = λ v a. omega (arith, s.dists.low v a, s.top.least);
    looked = left.looked;
    ways = s.dists.ways;
  }

  -- Each vertex moves by what its distance is below goal.
  pub moved : {rows : ℕ} {price' : ℕ → ℕ} → Shifted rows order dist price price' count goal → (v : ℕ) → v < vertices g → Shift rows v (goal - dist v) (price v) (price' v)
  moved {rows} {price'} shift v l = ⊎_elim (λ z. stays (λ a. omega (arith, a.seen))) (λ a. ⊎_elim goes (λ h. stays (λ b. omega (arith, b.early))) (open_or_settled s v a))
      (eq-zero-or-pos (s.spot v))
    where
      goes : Settled s.spot count v → Shift rows v (goal - dist v) (price v) (price' v)
      goes a = subst (λ v. Shift rows v (goal - dist v) (price v) (price' v)) (s.list.back v a.seen).1 (shift.each (s.spot v - 1) (omega (arith, a.seen, a.early)))

      stays : (Settled s.spot count v → ⊥) → Shift rows v (goal - dist v) (price v) (price' v)
      stays n =
          let none : goal - dist v ≡ 0 = ⊎_elim (λ h. absurd (n (left.near v l h))) (λ h. omega arith) (lt-or_ge (dist v) goal) in
          let same : price' v ≡ price v = shift.rest v (λ i b e. n (subst (λ v. Settled s.spot count v) e (entry_settled s i b))) in
          record { row = λ h. omega (arith, none, same); column = λ h. omega (arith, none, same) }
