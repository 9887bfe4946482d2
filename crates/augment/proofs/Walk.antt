-- What the loop of the walk back keeps, from its start to the root.
use Prim.Native.Nat.{ℕ, ◌+◌, ◌≤◌}
use mathlib.Core.Path.{◌≡◌, refl, ap}
use mathlib.Core.Logic.{◌≢◌}
use mathlib.Core.List.{List, []}
use native.Mathlib.Omega.{arith}
use Rattle.integers.specs.Sum.{is}
use Rattle.graph.specs.declared.Shape.{Shape}
use Rattle.graph.specs.Graph.{graph_of}
use Rattle.graph.specs.Subgraph.{degree}
use Rattle.method.specs.Method.{Augmented}
use Rattle.method.specs.Tree.{entries}
use Rattle.augment.specs.Augment.{Walkable, flipped, other_end}
use Rattle.augment.proofs.Step.{goes_on, whole}

module _ (s : Shape) (row column label : List ℕ) (rank : ℕ → ℕ) (root : ℕ) where
  -- The subgraph y is x after the walk back from vertex v.
  abbrev pub Walked : ℕ → List ℕ → List ℕ → Type 0
  Walked v x y = Augmented (graph_of s row column []) (entries label) rank root v x y

  -- The walk from v, that started with the marks x, has come to vertex u and the marks y: it can go on from there, and the rest of it makes the whole walk.
  pub record Walking (v : ℕ) (x : List ℕ) (u left : ℕ) (y : List ℕ) : Type 0 where
    pub walkable : Walkable s row column label rank root u left y
    pub rest : (z : List ℕ) → Walked u y z → Walked v x z

module _ {s : Shape} {root v : ℕ} {row column label x : List ℕ} {rank : ℕ → ℕ} where
  -- At its start.
  pub begun : {left : ℕ} → Walkable s row column label rank root v left x → Walking s row column label rank root v x v left x
  begun r = record { walkable = r; rest = λ z a. a }

  module _ {u left : ℕ} {y : List ℕ} (t : Walking s row column label rank root v x u left y) where
    -- After one more edge.
    pub stepped : {w left' : ℕ} {z : List ℕ} → u ≢ root → z ≡ flipped y (entries label u) → w ≡ other_end (graph_of s row column []) (entries label u) u →
        left ≤ left' + 1 → Walking s row column label rank root v x w left' z
    stepped ne f o few = record {
      walkable = goes_on t.walkable ne f o few;
      rest = λ z a. t.rest z (whole t.walkable ne f o a);
    }

    -- At the root.
    pub ended : u ≡ root → Walked s row column label rank root v x y
    ended e = t.rest y (record {
      long = refl;
      from_row = λ l h. ap (λ k. degree (graph_of s row column []) y h + is k h) e;
      from_column = λ l h. absurd (omega (arith, e, t.walkable.root_in));
      marks = λ all. all;
      kept = λ d none. refl;
    })
