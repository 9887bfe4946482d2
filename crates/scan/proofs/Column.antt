-- The scan of a column vertex: its list holds chosen edges of its own, and each leads to a row vertex.
use Prim.Native.Nat.{ℕ, ◌+◌, ◌*◌, ◌-◌, ◌≤◌, ◌<◌}
use mathlib.Core.Path.{◌≡◌, sym, ap, ◌∙◌, subst}
use mathlib.Core.Logic.{⊎_elim}
use mathlib.Core.List.{List}
use native.Mathlib.Omega.{arith}
use Rattle.graph.specs.Graph.{Graph, vertices, first_end}
use Rattle.method.specs.Method.{level, top_price, top_value, value, Solvable}
use Rattle.method.specs.Tree.{slack}
use Rattle.method.specs.Front.{near_exit}
use Rattle.method.proofs.Solvable.{rows_in, first_to, value-most}
use Rattle.method.proofs.Leading.{lt-or_ge, Back, back, slack-back}
use Rattle.method.proofs.Grow.{last_in}
use Rattle.reach.specs.declared.Front.{Front}
use Rattle.reach.specs.Reach.{ReachedBy}
use Rattle.scan.specs.Scan.{Scanning, ColumnScan}
use Rattle.scan.proofs.Looking.{looked_at}

module _ {g : Graph} {price used least : ℕ → ℕ} {label₀ dist₀ order₀ label dist order : List ℕ} {f₀ f : Front} {edge : ℕ → ℕ} {start stop k : ℕ}
    (net : Solvable g) (c : ColumnScan g price used least label₀ dist₀ order₀ f₀ edge start stop)
    (s : Scanning g c.x price c.exit label dist order c.root c.count f edge start k)
    (same : (f.vertex ≡ f₀.vertex) × (f.distance ≡ f₀.distance)) (a : start ≤ k) (b : k < stop) where
  abbrev u : ℕ
  u = f₀.vertex

  abbrev d : ℕ
  d = f₀.distance

  pub edge_in : edge k < g.edges
  edge_in = c.inside k a b

  abbrev w : ℕ
  w = first_end g (edge k)

  pub head_in : w < vertices g
  head_in = omega (arith, first_to net (edge k) edge_in, rows_in net)

  leading : Back g c.x (edge k)
  leading = back g c.x (edge k) (c.mark k a b)

  -- The prices of its ends are not above its weight.
  pub prices_fit : price w + price u ≤ value g (edge k)
  prices_fit = omega (arith, c.good.chosen (edge k) edge_in (c.mark k a b), ap price (c.column k a b))

  leads_to : {h : ℕ} → h ≡ d + value g (edge k) - (price w + price u) → f.distance + slack g price (edge k) ≡ h
  leads_to e = omega (arith, e, same.1, slack-back c.good (edge k) edge_in leading, ap price (c.column k a b))

  -- The same under the names that the edge and its end have.
  pub end_in : {e v : ℕ} → e ≡ edge k → v ≡ first_end g e → v < vertices g
  end_in i j = omega (arith, j, ap (first_end g) i, head_in)

  pub ends_small : {e v : ℕ} → e ≡ edge k → v ≡ first_end g e → price v + price u ≤ 2 * top_price
  ends_small i j = omega (arith, c.good.high _ (end_in i j), c.good.high u (omega (arith, same.0, last_in s.state)))

  pub ends_fit : {e v raised : ℕ} → e ≡ edge k → v ≡ first_end g e → raised ≡ value g e → price v + price u ≤ raised
  ends_fit i j l = omega (arith, prices_fit, l, ap (value g) i, ap price (j ∙ ap (first_end g) i))

  pub raised_small : {e raised : ℕ} → e ≡ edge k → raised ≡ value g e → raised ≤ top_value
  raised_small i l = omega (arith, l, ap (value g) i, value-most net (edge k) edge_in)

  -- What reaching its end asks for.
  pub may_lose : {e v : ℕ} → e ≡ edge k → v ≡ first_end g e → (least v < used v → level ≤ price v) × (price v ≤ top_price)
  may_lose {e} {v} i j =
      let l = end_in i j in (
        λ h. ⊎_elim (λ b. absurd (omega (arith, h, c.degrees v l, c.good.bare v l b))) (λ b. b) (lt-or_ge (price v) level),
        omega (arith, c.good.high v l),
      )

  -- One edge more, under the names that it and its end have.
  pub turned : {e v h raised : ℕ} {f' : Front} {label' dist' order' : List ℕ} → e ≡ edge k → v ≡ first_end g e → raised ≡ value g e → h ≡ d + raised - (price v + price u) →
      ReachedBy (near_exit (price v) (used v) (least v)) v h e f f' label dist order label' dist' order'
      → Scanning g c.x price c.exit label' dist' order' c.root c.count f' edge start (k + 1)
  turned {e} {v} {h} {raised} {f'} {label'} {dist'} {order'} i j l m r =
      let at : v ≡ w = j ∙ ap (first_end g) i in
      let here = subst (λ z. ReachedBy (near_exit (price z) (used z) (least z)) z h (edge k) f f' label dist order label' dist' order') at
      (subst (λ z. ReachedBy (near_exit (price v) (used v) (least v)) v h z f f' label dist order label' dist' order') i r) in
      looked_at net s head_in here edge_in (leading.from ∙ c.column k a b ∙ sym same.0) leading.to (leads_to (omega (arith, m, l, ap (value g) i, ap price at)))
      (λ n. sym (c.exits w (first_to net (edge k) edge_in) n))

-- All were looked at.
pub scanned : {g : Graph} {x : List ℕ} {price exit : ℕ → ℕ} {label dist order : List ℕ} {root count : ℕ} {f : Front} {edge : ℕ → ℕ} {start stop k : ℕ}
    → stop ≤ k → Scanning g x price exit label dist order root count f edge start k → Scanning g x price exit label dist order root count f edge start stop
scanned l s = record {
  state = s.state;
  looked = record { each = λ j a b. s.looked.each j a (omega arith) };
  label_long = s.label_long;
  dist_long = s.dist_long;
  order_long = s.order_long;
}
