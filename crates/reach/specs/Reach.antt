-- What looking at an edge does.
use Rattle.std.specs.Prelude.{ℕ, ◌+◌, ◌≤◌, ◌<◌, ◌≡◌, ◌⊎◌, cond, List, eqb, set}
use Rattle.method.specs.Tree.{entries}
use Rattle.method.specs.Front.{far}
use Rattle.reach.specs.declared.Front.{Front}

-- How many vertices are reached once vertex w is, which had this distance.
abbrev pub with_reached : ℕ → ℕ → ℕ
with_reached dist reached = reached + cond (eqb dist far) 1 0

-- The front with another goal and end, and as many vertices reached.
abbrev pub advanced : Front → ℕ → ℕ → ℕ → Front
advanced f goal end reached = record { goal = goal; end = end; reached = reached; vertex = f.vertex; distance = f.distance }

-- Edge e leads to vertex w at distance h, from where a path ends at this exit. Nothing changes, but for a number after the list of those reached, unless this
-- is nearer than w was and than the goal: then w is reached by e, and is the end if with its exit that is nearer still.
pub data ReachedBy (exit w h e : ℕ) (f f' : Front) (label dist order label' dist' order' : List ℕ) : Type 0 where
  passes : (entries dist w ≤ h) ⊎ (f.goal ≤ h) → dist' ≡ dist → label' ≡ label → order' ≡ set order f.reached w →
      f' ≡ advanced f f.goal f.end f.reached → ReachedBy exit w h e f f' label dist order label' dist' order'
  reaches : h < entries dist w → h < f.goal → f.goal ≤ h + exit → dist' ≡ set dist w h → label' ≡ set label w e → order' ≡ set order f.reached w →
      f' ≡ advanced f f.goal f.end (with_reached (entries dist w) f.reached) → ReachedBy exit w h e f f' label dist order label' dist' order'
  ends : h < entries dist w → h + exit < f.goal → dist' ≡ set dist w h → label' ≡ set label w e → order' ≡ set order f.reached w →
      f' ≡ advanced f (h + exit) w (with_reached (entries dist w) f.reached) → ReachedBy exit w h e f f' label dist order label' dist' order'
