-- How an edge leads: its tail and head, and its slack.
use Prim.Native.Nat.{ℕ, ◌+◌, ◌≤◌, ◌<◌}
use mathlib.Core.Path.{◌≡◌, ap}
use mathlib.Core.Logic.{◌≢◌, ◌⊎◌, inl, inr, ⊎_elim}
use mathlib.Core.Bool.{Bool, cond}
use mathlib.Core.List.{List}
use native.Mathlib.Omega.{arith}
use native.Mathlib.Nat.{eq-zero-or-pos}
use native.Mathlib.Decide.{dec_lt}
use lib.Dec.{eqb}
use borrow.Author.Tests.{eq-eqb, ne_eqb}
use lib.ListN.{length, set}
use lib.Seq.{get_or-set_same, get_or-set_other}
use Rattle.graph.specs.Graph.{Graph, first_end, second_end}
use Rattle.graph.specs.Subgraph.{mark_at}
use Rattle.method.specs.Method.{value, cost, Good}
use Rattle.method.specs.Tree.{entries, tail, head, apart, slack}

pub lt-or_ge : (a b : ℕ) → (a < b) ⊎ (b ≤ a)
lt-or_ge a b = elim (dec_lt a b) [ yes h ↦ inl h | no h ↦ inr (omega (arith, h)) ]

-- An edge that is not chosen, and one that is.
pub record Out (g : Graph) (x : List ℕ) (e : ℕ) : Type 0 where
  pub mark : mark_at x e ≡ 0
  pub from : tail g x e ≡ first_end g e
  pub to : head g x e ≡ second_end g e

pub record Back (g : Graph) (x : List ℕ) (e : ℕ) : Type 0 where
  pub mark : mark_at x e ≡ 1
  pub from : tail g x e ≡ second_end g e
  pub to : head g x e ≡ first_end g e

module _ (g : Graph) (x : List ℕ) (e : ℕ) where
  pub out : mark_at x e ≡ 0 → Out g x e
  out z = record {
    mark = z;
    from = ap (λ k. cond (eqb k 0) (first_end g e) (second_end g e)) z;
    to = ap (λ k. cond (eqb k 0) (second_end g e) (first_end g e)) z;
  }

  pub back : mark_at x e ≡ 1 → Back g x e
  back o = record {
    mark = o;
    from = ap (λ k. cond (eqb k 0) (first_end g e) (second_end g e)) o;
    to = ap (λ k. cond (eqb k 0) (second_end g e) (first_end g e)) o;
  }

  pub arc : mark_at x e ≤ 1 → Out g x e ⊎ Back g x e
  arc m = ⊎_elim (λ z. inl (out z)) (λ s. inr (back (omega arith))) (eq-zero-or-pos (mark_at x e))

-- The test whether two numbers are the same, where they are and where they are not.
pub if_same : {j k : ℕ} (a b : ℕ) → j ≡ k → cond (eqb j k) a b ≡ a
if_same a b q = ap (λ (t : Bool). cond t a b) (eq-eqb _ _ q)

pub if_other : {j k : ℕ} (a b : ℕ) → j ≢ k → cond (eqb j k) a b ≡ b
if_other a b n = ap (λ (t : Bool). cond t a b) (ne_eqb _ _ n)

-- A difference without its sign.
pub apart-over : (a b : ℕ) → b ≤ a → apart a b + b ≡ a
apart-over a b h = omega arith

pub apart-under : (a b : ℕ) → a ≤ b → apart a b + a ≡ b
apart-under a b h = omega arith

module _ {g : Graph} {least most : ℕ → ℕ} {x : List ℕ} {price : ℕ → ℕ} (good : Good g least most x price) (e : ℕ) (inside : e < g.edges) where
  pub leads : Out g x e ⊎ Back g x e
  leads = arc g x e (good.marks e)

  pub slack-out : Out g x e → slack g price e + value g e ≡ cost g price e
  slack-out o = apart-over _ _ (good.loose e inside o.mark)

  pub slack-back : Back g x e → slack g price e + cost g price e ≡ value g e
  slack-back o = apart-under _ _ (good.chosen e inside o.mark)

-- The function f' is f, but for a at v.
pub record Put (f f' : ℕ → ℕ) (v a : ℕ) : Type 0 where
  pub at : f' v ≡ a
  pub other : (w : ℕ) → w ≢ v → f' w ≡ f w

pub put_set : (xs : List ℕ) (v a : ℕ) → v < length xs → Put (entries xs) (entries (set xs v a)) v a
put_set xs v a l = record { at = get_or-set_same xs v a 0 l; other = λ w n. get_or-set_other xs v w a 0 n }
