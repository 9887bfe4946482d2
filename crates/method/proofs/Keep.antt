-- How a label leads to its vertex, and the edges that are left out: one leads no nearer than the way out of its near end.
use Prim.Native.Nat.{ℕ, ◌+◌, ◌*◌, ◌≤◌, ◌<◌}
use mathlib.Core.Path.{◌≡◌, sym, ap, ◌∙◌}
use mathlib.Core.Logic.{⊎_elim}
use mathlib.Core.Bool.{false, ◌||◌}
use mathlib.Core.List.{List}
use native.Mathlib.Omega.{arith}
use native.Mathlib.Decide.{ℕ_discrete}
use lib.Dec.{ltb}
use borrow.Author.Tests.{ltb-false}
use Rattle.integers.specs.Sum.{is}
use Rattle.integers.proofs.Sum.{sum-term, is_same}
use Rattle.graph.specs.Graph.{Graph, first_end, second_end}
use Rattle.graph.specs.Subgraph.{mark_at, ends_at, degree}
use Rattle.method.specs.Method.{level, weightless, value, Solvable, Good}
use Rattle.method.specs.Tree.{tail, slack}
use Rattle.method.specs.Front.{Exits, Reach, Distances}
use Rattle.method.specs.Lists.{keeps}
use Rattle.method.proofs.Tests.{neither}
use Rattle.method.proofs.Solvable.{first_to, second_from, second_to}
use Rattle.method.proofs.Leading.{out, leads, slack-out}

module _ {g : Graph} {least most : ℕ → ℕ} {x : List ℕ} {price : ℕ → ℕ} (net : Solvable g) (good : Good g least most x price) where
  -- A label as the walk back reads it: a far vertex is reached by an edge that is not chosen, and a near vertex by one that is.
  pub far-label : {dist spot : ℕ → ℕ} {count e w h : ℕ} → g.rows ≤ w → Reach g x price dist spot count e w h →
      (mark_at x e ≡ 0) × (second_end g e ≡ w) × (tail g x e ≡ first_end g e)
  far-label {e = e} d r = ⊎_elim (λ o. (o.mark, sym o.to ∙ r.leads, o.from))
      (λ o. absurd (omega (arith, o.to, r.leads, first_to net e r.inside))) (leads good e r.inside)

  pub near_label : {dist spot : ℕ → ℕ} {count e w h : ℕ} → w < g.rows → Reach g x price dist spot count e w h →
      (mark_at x e ≡ 1) × (first_end g e ≡ w) × (tail g x e ≡ second_end g e)
  near_label {e = e} d r = ⊎_elim (λ o. absurd (omega (arith, o.to, r.leads, second_from net e r.inside)))
      (λ o. (o.mark, sym o.to ∙ r.leads, o.from)) (leads good e r.inside)

  -- A near vertex that is reached has a chosen edge, so that one with the least 0 has a way out.
  pub near_some : {dist spot : ℕ → ℕ} {count e w h : ℕ} → w < g.rows → Reach g x price dist spot count e w h → 0 < degree g x w
  near_some {e = e} {w} d r =
      let l = near_label d r in
      omega (
        arith,
        sum-term g.edges e (λ k. mark_at x k * ends_at g w k) r.inside,
        ap (λ k. k * ends_at g w e) l.0,
        ap (λ k. is k w) l.1,
        is_same w,
      )

  -- An edge that is neither chosen nor kept.
  module _ (e : ℕ) (inside : e < g.edges) (none : mark_at x e ≡ 0) (unkept : keeps g least e ≡ false) where
    tests : (ltb weightless (value g e) ≡ false) × ((ltb 0 (least (first_end g e)) || ltb 0 (least (second_end g e))) ≡ false)
    tests = neither (ltb weightless (value g e)) (ltb 0 (least (first_end g e)) || ltb 0 (least (second_end g e))) unkept

    ends : (ltb 0 (least (first_end g e)) ≡ false) × (ltb 0 (least (second_end g e)) ≡ false)
    ends = neither (ltb 0 (least (first_end g e))) (ltb 0 (least (second_end g e))) tests.1

    pub no_least : least (first_end g e) ≡ 0
    no_least = omega (arith, ltb-false 0 (least (first_end g e)) ends.0)

    -- Its slack is not below its near end's price.
    leads_no_nearer : price (first_end g e) ≤ slack g price e + level
    leads_no_nearer =
        let other : least (second_end g e) ≡ 0 = omega (arith, ltb-false 0 (least (second_end g e)) ends.1) in
        omega (
          arith,
          slack-out good e inside (out g x e none),
          ltb-false weightless (value g e) tests.0,
          good.plain (second_end g e) (second_to net e inside) other,
        )

    -- So from a near end that is settled it leads no nearer than a path that ends there.
    pub left_out : {exit dist label spot : ℕ → ℕ} {root count d goal : ℕ} → Exits g least most x price root exit →
        Distances g x price exit dist label spot root count d goal → 0 < spot (first_end g e) → goal ≤ dist (first_end g e) + slack g price e
    left_out {exit} {dist} {label} {spot} {root} exits s seen = omega (arith, way, leads_no_nearer, s.ways u seen)
      where
        u : ℕ
        u = first_end g e

        way : exit u + level ≡ price u
        way = elim (ℕ_discrete u root) [
          | yes i ↦ omega (arith, ap exit i, ap price i, exits.own (omega (arith, ap least i, no_least)))
          | no n ↦ exits.near u (first_to net e inside) n (omega (arith, no_least, near_some (first_to net e inside) (s.reach u n seen)))
        ]
