-- The range of potentials: the distance and potential of a vertex that is reached is what the root's is, but for a weight for each edge of its path. So any
-- two of those reached differ by at most as many weights as there are vertices, less one.
use Prim.Native.Nat.{ℕ, zero, suc, ◌+◌, ◌*◌, ◌-◌, ◌≤◌, ◌<◌}
use mathlib.Core.Path.{◌≡◌, refl, sym, ap, ◌∙◌}
use mathlib.Core.Logic.{◌≢◌, ⊎_elim}
use mathlib.Core.Bool.{Bool, cond}
use mathlib.Core.List.{List}
use native.Mathlib.Omega.{arith}
use lib.Dec.{ltb}
use borrow.Author.Tests.{lt-ltb, le-ltb}
use Rattle.graph.specs.Limits.{greatest_weight}
use Rattle.graph.specs.Graph.{Graph, vertices, first_end, second_end}
use Rattle.method.specs.Tree.{tail, slack}
use Rattle.method.proofs.Solvable.{few, rows_in, first_to, second_from, second_to, value_in}
use Rattle.method.proofs.Leading.{lt-or_ge, leads, slack-out, slack-back}
use Rattle.method.specs.Method.{level, weightless, top_price, value, Solvable, Good}
use Rattle.method.specs.Front.{Reach, SearchGrown}

-- The height of a vertex: its distance, and its potential, which counts the other way on the far side; two levels up there.
abbrev pub height : Graph → (ℕ → ℕ) → (ℕ → ℕ) → ℕ → ℕ
height g price dist v = cond (ltb v g.rows) (dist v + price v) (dist v + (top_price - price v))

module _ {g : Graph} {least most : ℕ → ℕ} {x : List ℕ} {price : ℕ → ℕ} (good : Good g least most x price) (dist : ℕ → ℕ) (v : ℕ) where
  pub height_near : v < g.rows → height g price dist v ≡ dist v + price v
  height_near l = ap (λ (b : Bool). cond b (dist v + price v) (dist v + (top_price - price v))) (lt-ltb v g.rows l)

  pub height_far : g.rows ≤ v → v < vertices g → height g price dist v + price v ≡ dist v + top_price
  height_far a l =
      omega (arith, ap (λ (b : Bool). cond b (dist v + price v) (dist v + (top_price - price v))) (le-ltb v g.rows a), good.high v l)

module _ {g : Graph} {least most : ℕ → ℕ} {x : List ℕ} {price exit dist label spot : ℕ → ℕ} {root count goal : ℕ} (net : Solvable g)
    (good : Good g least most x price) (root_near : root < g.rows) (grown : SearchGrown g x price exit dist label spot root count goal) where
  abbrev H : ℕ → ℕ
  H = height g price dist

  -- An edge of a path changes the height by its weight.
  step : {e v h : ℕ} → Reach g x price dist spot count e v h → dist v ≡ h → (H v ≤ H (tail g x e) + greatest_weight) × (H (tail g x e) ≤ H v + greatest_weight)
  step {e} {v} r here = ⊎_elim
      (λ o.
      let to : second_end g e ≡ v = sym o.to ∙ r.leads in
      let tail-is : H (tail g x e) ≡ dist (first_end g e) + price (first_end g e) = ap H o.from ∙ height_near good dist (first_end g e) (first_to net e r.inside) in
      let head-is : H v + price (second_end g e) ≡ dist v + top_price =
      omega (arith, ap H to, ap price to, ap dist to, height_far good dist (second_end g e) (second_from net e r.inside) (second_to net e r.inside)) in
      let sum : dist (first_end g e) + slack g price e ≡ dist v = omega (arith, r.sum, here, ap dist o.from) in
      sums (slack g price e) (value g e) _ _ _ _ _ (value_in net.passed e r.inside) (slack-out good e r.inside o) tail-is head-is sum)
      (λ o.
      let to : first_end g e ≡ v = sym o.to ∙ r.leads in
      let tail-is : H (tail g x e) + price (second_end g e) ≡ dist (second_end g e) + top_price =
      omega (arith, ap H o.from, height_far good dist (second_end g e) (second_from net e r.inside) (second_to net e r.inside)) in
      let head-is : H v ≡ dist v + price (first_end g e) =
      omega (arith, ap H to, ap price to, ap dist to, height_near good dist (first_end g e) (first_to net e r.inside)) in
      let sum : dist (second_end g e) + slack g price e ≡ dist v = omega (arith, r.sum, here, ap dist o.from) in
      backs (slack g price e) (value g e) _ _ _ _ _ (value_in net.passed e r.inside) (slack-back good e r.inside o) tail-is head-is sum)
      (leads good e r.inside)
    where
      -- the tail is near, at distance d and of price p, and the head far, of price q
      sums : (k w d p q ht hv : ℕ) → (weightless ≤ w + greatest_weight) × (w ≤ weightless + greatest_weight) → k + w ≡ p + q → ht ≡ d + p → hv + q ≡ dist v + top_price → d + k ≡ dist v →
          (hv ≤ ht + greatest_weight) × (ht ≤ hv + greatest_weight)
      sums k w d p q ht hv range e i j s = (omega arith, omega arith)

      backs : (k w d p q ht hv : ℕ) → (weightless ≤ w + greatest_weight) × (w ≤ weightless + greatest_weight) → k + (p + q) ≡ w → ht + q ≡ d + top_price → hv ≡ dist v + p → d + k ≡ dist v →
          (hv ≤ ht + greatest_weight) × (ht ≤ hv + greatest_weight)
      backs k w d p q ht hv range e i j s = (omega arith, omega arith)

  -- Any two of the first k that are reached.
  abbrev Heights : ℕ → Type 0
  Heights k = (v w : ℕ) → 0 < spot v → spot v ≤ k → 0 < spot w → spot w ≤ k → H v + greatest_weight ≤ H w + k * greatest_weight

  heights_more : (k : ℕ) → Heights k → Heights (suc k)
  heights_more k before v w a b c d = ⊎_elim
      (λ i. ⊎_elim
      (λ j. omega (arith, before v w a (omega arith) c (omega arith)))
      (λ j. last_w i (omega arith))
      (lt-or_ge (spot w) (suc k)))
      (λ i. ⊎_elim
      (λ j. last_v (omega arith) j)
      (λ j. omega (arith, ap H (grown.once v w a (omega arith))))
      (lt-or_ge (spot w) (suc k)))
      (lt-or_ge (spot v) (suc k))
    where
      last_v : spot v ≡ suc k → spot w < suc k → H v + greatest_weight ≤ H w + suc k * greatest_weight
      last_v e l =
          let n : v ≢ root = λ i. omega (arith, ap spot i, grown.first) in
          let r = grown.reach v n a in
          omega (arith, (step r refl).0, before (tail g x (label v)) w r.from.seen (omega (arith, r.less)) c (omega arith))

      last_w : spot v < suc k → spot w ≡ suc k → H v + greatest_weight ≤ H w + suc k * greatest_weight
      last_w l e =
          let n : w ≢ root = λ i. omega (arith, ap spot i, grown.first) in
          let r = grown.reach w n c in
          omega (arith, (step r refl).1, before v (tail g x (label w)) a (omega arith) r.from.seen (omega (arith, r.less)))

  heights : (k : ℕ) → Heights k
  heights zero = λ v w a b c d. absurd (omega arith)
  heights (suc k) = heights_more k (heights k)

  pub apart_by : (v w : ℕ) → 0 < spot v → 0 < spot w → H v + greatest_weight ≤ H w + level
  apart_by v w a b = omega (arith, heights (vertices g) v w a (grown.few v) b (grown.few w), few net)

  -- The height of the root is its potential.
  pub root_height : H root ≡ price root
  root_height = omega (arith, height_near good dist root root_near, grown.start)

  pub under_root : (v : ℕ) → 0 < spot v → H v ≤ top_price + level
  under_root v a = omega (arith, apart_by v root a (omega (arith, grown.first)), root_height, good.high root (omega (arith, rows_in net)))
