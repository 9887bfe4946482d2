-- What the loop of the walk back keeps: whatever the ranks by which the walk could start, it goes on, and the lists of chosen edges are kept.
use Prim.Native.Nat.{ℕ, ◌+◌, ◌≤◌, ◌<◌}
use mathlib.Core.Path.{◌≡◌, refl, ◌∙◌}
use mathlib.Core.Logic.{◌≢◌}
use mathlib.Core.List.{List, []}
use native.Mathlib.Omega.{arith}
use lib.IntN.{ℤ}
use lib.ListN.{length}
use Rattle.graph.specs.Limits.{most_vertices, most_edges}
use Rattle.graph.specs.declared.Shape.{Shape}
use Rattle.graph.specs.Graph.{graph_of}
use Rattle.graph.specs.Subgraph.{mark_at, degree}
use Rattle.graph.specs.Passed.{Sound}
use Rattle.method.specs.Method.{Augmented}
use Rattle.method.specs.Tree.{entries, naturals}
use Rattle.method.specs.Lists.{nowhere, Listing}
use Rattle.method.proofs.Lists.{columns}
use Rattle.augment.specs.Augment.{Walkable, Ranked, Relistable, Relisted, flipped, other_end}
use Rattle.augment.proofs.Step.{edge_in, edge_mark}
use Rattle.augment.proofs.Walk.{Walking, begun, stepped, ended}
use Rattle.augment.proofs.Relisting.{Relisting, begun_lists, stepped_lists, ended_lists, hole_low, list_kept}

-- The walk from v, that started with the marks x and a list of n numbers, has come to vertex u.
pub record Going (s : Shape) (row column label : List ℕ) (root v : ℕ) (x : List ℕ) (n u left : ℕ) (y : List ℕ) (list : List ℤ) (place : List ℕ) (hole : ℕ)
    : Type 0 where
  pub ranked : Ranked s row column label root v most_vertices x
  pub walks : (rank : ℕ → ℕ) → Walkable s row column label rank root v most_vertices x → Walking s row column label rank root v x u left y
  pub lists : Relisting (graph_of s row column []) x v u y list place hole
  pub list_length : length list ≡ n

module _ {s : Shape} {row column label : List ℕ} {root v : ℕ} {x : List ℕ} where
  -- At its start.
  pub starts : {list : List ℤ} {place : List ℕ} {gap : ℕ} → Ranked s row column label root v most_vertices x →
      Relistable (graph_of s row column []) x list place v gap → Going s row column label root v x (length list) v most_vertices x list place gap
  starts r l = record {
    ranked = r;
    walks = λ rank w. begun w;
    lists = begun_lists (columns (graph_of s row column []) r.walkable.bipartite r.walkable.sound) r.walkable.inside l;
    list_length = refl;
  }

  module _ {n u left : ℕ} {y : List ℕ} {list : List ℤ} {place : List ℕ} {hole : ℕ} (t : Going s row column label root v x n u left y list place hole) where
    -- It walks by some ranks.
    some_ranks : Walking s row column label t.ranked.rank root v x u left y
    some_ranks = t.walks t.ranked.rank t.ranked.walkable

    walkable : Walkable s row column label t.ranked.rank root u left y
    walkable = some_ranks.walkable

    -- What the reads and calls of a turn ask for.
    pub vertex_low : u < most_vertices
    vertex_low = omega (arith, walkable.inside, walkable.sound.sizes.order)

    pub is-sound : Sound s row column
    is-sound = walkable.sound

    pub marks_long : length y ≡ length x
    marks_long = omega (arith, walkable.long, t.ranked.walkable.long)

    pub some_left : 0 < left
    some_left = omega (arith, walkable.seen, walkable.low)

    module _ (ne : u ≢ root) where
      pub edge_inside : entries label u < s.edges
      edge_inside = edge_in walkable ne

      pub edge_low : entries label u < most_edges
      edge_low = omega (arith, edge_inside, is-sound.sizes.few)

      pub edge_in-marks : entries label u < length y
      edge_in-marks = omega (arith, edge_inside, walkable.long)

      pub mark_low : mark_at y (entries label u) ≤ 1
      mark_low = edge_mark walkable ne

      pub hole_fits : mark_at y (entries label u) ≡ 0 → hole < length list
      hole_fits = hole_low walkable ne t.lists

      -- After one more edge.
      pub goes : {w left' hole' : ℕ} {z : List ℕ} {list' : List ℤ} {place' : List ℕ} → z ≡ flipped y (entries label u) →
          w ≡ other_end (graph_of s row column []) (entries label u) u → Relisted (mark_at y (entries label u)) hole (entries label u) list place list' place' hole' →
          left ≤ left' + 1 → Going s row column label root v x n w left' z list' place' hole'
      goes f o h few = record {
        ranked = t.ranked;
        walks = λ rank r. stepped (t.walks rank r) ne f o few;
        lists = stepped_lists walkable ne t.lists f o h;
        list_length = list_kept walkable ne t.lists f o h ∙ t.list_length;
      }

    -- At the root.
    module _ (q : u ≡ root) where
      pub arrives : (rank : ℕ → ℕ) → Walkable s row column label rank root v most_vertices x → Augmented (graph_of s row column []) (entries label) rank root v x y
      arrives rank r = ended (t.walks rank r) q

      pub keeps-lists : Listing (graph_of s row column []) y (degree (graph_of s row column []) y) (naturals list) (entries place) (nowhere (graph_of s row column []))
      keeps-lists =
          let r = t.ranked.walkable in
          let lists = t.lists in
          ended_lists (columns (graph_of s row column []) r.bipartite r.sound) r.root_in (arrives t.ranked.rank r) (rw q at lists)
