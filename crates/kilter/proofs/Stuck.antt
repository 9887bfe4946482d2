-- A search that finds no end leaves a set of vertices from which a count shows that no subgraph meets both bounds.
use Prim.Native.Nat.{ℕ, ◌+◌, ◌≤◌, ◌<◌}
use mathlib.Core.Path.{◌≡◌, ap}
use mathlib.Core.Logic.{⊎_elim}
use mathlib.Core.Bool.{Bool, true}
use mathlib.Core.List.{List}
use native.Mathlib.Omega.{arith}
use native.Mathlib.Decide.{ℕ_discrete}
use lib.Dec.{ltb}
use borrow.Author.Tests.{ltb-true, lt-ltb}
use Rattle.graph.specs.Limits.{greatest_weight}
use Rattle.graph.specs.Graph.{Graph, vertices, first_end, second_end}
use Rattle.graph.specs.Subgraph.{mark_at, degree}
use Rattle.method.proofs.Solvable.{rows_in, first_to, second_from, second_to, value_in}
use Rattle.method.proofs.Leading.{lt-or_ge, out, back, slack-out, slack-back}
use Rattle.kilter.specs.Count.{NearFar, Closed, Choice, Shut}
use Rattle.method.specs.Method.{level, weightless, top_price, value, Solvable, Meets, Good}
use Rattle.method.specs.Tree.{tail, head, slack}
use Rattle.method.specs.Front.{far, Exits, SearchGrown}
use Rattle.kilter.proofs.Count.{no_choice}
use Rattle.method.proofs.Range as Range

module _ {g : Graph} {least most : ℕ → ℕ} {x : List ℕ} {price exit dist label spot : ℕ → ℕ} {root count : ℕ}
    (net : Solvable g) (good : Good g least most x price) (root_near : root < g.rows) (exits : Exits g least most x price root exit)
    (grown : SearchGrown g x price exit dist label spot root count far) where
  -- The vertices reached.
  abbrev S : ℕ → Bool
  S v = ltb 0 (spot v)

  abbrev H : ℕ → ℕ
  H = Range.height g price dist

  seen : (v : ℕ) → S v ≡ true → 0 < spot v
  seen v s = ltb-true 0 (spot v) s

  -- None of them has a way out: it would be nearer than far.
  no_way_near : (v : ℕ) → v < g.rows → 0 < spot v → exit v + level ≡ price v → ⊥
  no_way_near v l a e = omega (arith, grown.ways v a, Range.height_near good dist v l, Range.under_root net good root_near grown v a)

  no_way_far : (v : ℕ) → g.rows ≤ v → v < vertices g → 0 < spot v → exit v + price v ≡ level → ⊥
  no_way_far v r l a e = omega (arith, grown.ways v a, Range.height_far good dist v r l, Range.under_root net good root_near grown v a)

  root_seen : 0 < spot root
  root_seen = omega (arith, grown.first)

  -- The root is under its least.
  root_under : degree g x root < least root
  root_under = ⊎_elim (λ d. d) (λ d. absurd (no_way_near root root_near root_seen (exits.own d))) (lt-or_ge (degree g x root) (least root))

  -- An edge from a vertex that is reached leads to another.
  leads_on : (q : ℕ) → q < g.edges → 0 < spot (tail g x q) → dist (tail g x q) + slack g price q < far → head g x q < vertices g → 0 < spot (head g x q)
  leads_on q l a b h = ⊎_elim
      (λ i. (grown.near (head g x q) h (omega (arith, i, b))).seen)
      (λ i. absurd (omega (arith, i, b)))
      (grown.looked q l (grown.near (tail g x q) (grown.inside (tail g x q) a) (grown.some (tail g x q) a)) (grown.some (tail g x q) a))

  closed : Closed g.edges (first_end g) (second_end g) (mark_at x) S
  closed = record {
    out = λ e l z s.
        let o = out g x e z in
        let a : 0 < spot (tail g x e) = omega (arith, ap spot o.from, seen (first_end g e) s) in
        let b : dist (tail g x e) + slack g price e < far =
        short_out (slack g price e) (value g e) _ (price (first_end g e)) (price (second_end g e)) (ap dist o.from) (slack-out good e l o)
        (Range.height_near good dist (first_end g e) (first_to net e l))
        (Range.under_root net good root_near grown (first_end g e) (seen (first_end g e) s)) (good.high (second_end g e) (second_to net e l)) (value_in net.passed e l).0 in
        let c = leads_on e l a b (omega (arith, o.to, second_to net e l)) in
        lt-ltb 0 (spot (second_end g e)) (omega (arith, ap spot o.to, c));
    back = λ e l z s.
        let o = back g x e z in
        let a : 0 < spot (tail g x e) = omega (arith, ap spot o.from, seen (second_end g e) s) in
        let b : dist (tail g x e) + slack g price e < far =
        short_back (slack g price e) (value g e) _ (price (first_end g e)) (price (second_end g e)) (H (second_end g e)) (ap dist o.from)
        (slack-back good e l o) (Range.height_far good dist (second_end g e) (second_from net e l) (second_to net e l))
        (Range.under_root net good root_near grown (second_end g e) (seen (second_end g e) s)) (value_in net.passed e l).1 in
        let c = leads_on e l a b (omega (arith, o.to, first_to net e l, rows_in net)) in
        lt-ltb 0 (spot (first_end g e)) (omega (arith, ap spot o.to, c));
  }
    where
      short_out : (k w d p q : ℕ) {t h : ℕ} → t ≡ d → k + w ≡ p + q → h ≡ d + p → h ≤ top_price + level → q + greatest_weight ≤ top_price → weightless ≤ w + greatest_weight → t + k < far
      short_out k w d p q a b c i j n = omega arith

      short_back : (k w d p q h : ℕ) {t : ℕ} → t ≡ d → k + (p + q) ≡ w → h + q ≡ d + top_price → h ≤ top_price + level → w ≤ weightless + greatest_weight → t + k < far
      short_back k w d p q h a b c i n = omega arith

  shut : Shut g.rows (vertices g) g.edges (first_end g) (second_end g) least most (mark_at x) S
  shut = record {
    near = λ v l s. elim (ℕ_discrete v root) [
      | yes e ↦ omega (arith, ap (λ k. degree g x k) e, ap least e, root_under)
      | no n ↦ ⊎_elim (λ d. absurd (no_way_near v l (seen v s) (exits.near v l n d))) (λ d. d) (lt-or_ge (least v) (degree g x v))
    ];
    far = λ v r l s. ⊎_elim (λ d. absurd (no_way_far v r l (seen v s) (exits.away v r l d))) (λ d. d) (lt-or_ge (degree g x v) (most v));
  }

  sides : NearFar g.rows (vertices g) g.edges (first_end g) (second_end g)
  sides = record { rows_in = rows_in net; near = first_to net; far = second_from net; inside = second_to net }

  pub none_meets : {y : List ℕ} → Meets g least most y → ⊥
  none_meets {y} m = no_choice sides (λ e l. good.marks e) closed choice shut root root_near (lt-ltb 0 (spot root) root_seen) root_under
    where
      choice : Choice (vertices g) g.edges (first_end g) (second_end g) least most (mark_at y)
      choice = record { marks = m.marks; floor = m.floor; within = m.within }
