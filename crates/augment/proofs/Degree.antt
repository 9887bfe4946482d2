-- The degrees after an edge is flipped.
use Prim.Native.Nat.{ℕ, ◌+◌, ◌-◌, ◌*◌, ◌<◌}
use mathlib.Core.Path.{◌≡◌, sym, ap, ◌∙◌}
use mathlib.Core.List.{List}
use lib.ListN.{length}
use lib.Seq.{get_or-set_same, get_or-set_other}
use Rattle.integers.proofs.Sum.{sum-change}
use Rattle.graph.specs.Graph.{Graph}
use Rattle.graph.specs.Subgraph.{mark_at, ends_at, degree}
use Rattle.augment.specs.Augment.{flipped}

-- Where edge e is marked m: a chosen edge is taken from the degrees of its ends, and one that is not chosen is added.
pub degree-flipped : (g : Graph) (x : List ℕ) (e h : ℕ) → e < g.edges → e < length x → (m : ℕ) → mark_at x e ≡ m →
    degree g (flipped x e) h + m * ends_at g h e ≡ degree g x h + (1 - m) * ends_at g h e
degree-flipped g x e h l k m q =
    ap (λ a. degree g (flipped x e) h + a * ends_at g h e) (sym q)
    ∙ sum-change g.edges e (λ d. mark_at (flipped x e) d * ends_at g h d) (λ d. mark_at x d * ends_at g h d) l
    (λ d b n. ap (λ a. a * ends_at g h d) (get_or-set_other x e d (1 - mark_at x e) 0 n))
    ∙ ap (λ a. degree g x h + a * ends_at g h e) (get_or-set_same x e (1 - mark_at x e) 0 k ∙ ap (λ a. 1 - a) q)
