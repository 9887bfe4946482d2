-- What looking at an edge leaves as it was.
use mathlib.Core.Path.{◌≡◌, ap}
use mathlib.Core.List.{List}
use Prim.Native.Nat.{ℕ}
use Rattle.reach.specs.declared.Front.{Front}
use Rattle.reach.specs.Reach.{ReachedBy, passes, reaches, ends}

-- The vertex settled last and its distance stay.
pub stays : {exit w h e : ℕ} {f f' : Front} {label dist order label' dist' order' : List ℕ} → ReachedBy exit w h e f f' label dist order label' dist' order' →
    (f'.vertex ≡ f.vertex) × (f'.distance ≡ f.distance)
stays (passes p a l o m) = (ap (λ (z : Front). z.vertex) m, ap (λ (z : Front). z.distance) m)
stays (reaches p q z a l o m) = (ap (λ (z : Front). z.vertex) m, ap (λ (z : Front). z.distance) m)
stays (ends p z a l o m) = (ap (λ (z : Front). z.vertex) m, ap (λ (z : Front). z.distance) m)
