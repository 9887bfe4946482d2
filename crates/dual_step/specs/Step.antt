-- What the dual step does: it finds the nearest open vertex, settles it, and moves the prices once when the search is left.
use Rattle.std.specs.Prelude.{ℕ, ◌+◌, ◌≤◌, ◌<◌, ◌≡◌, List, set}
use Rattle.graph.specs.Limits.{most_vertices}
use Rattle.method.specs.Method.{top_price}
use Rattle.method.specs.Tree.{entries}
use Rattle.method.specs.Front.{far, Nearest}

-- The nearest open vertex can be looked for: the list has vertices at the places from count to before reached.
pub record Searchable (order : ℕ → ℕ) (count reached : ℕ) : Type 0 where
  pub few : reached ≤ most_vertices
  pub inside : (i : ℕ) → count ≤ i → i < reached → order i < most_vertices

-- It is at this place, at some distance below the goal, or the place is reached.
pub record NearestAt (dist order : ℕ → ℕ) (count reached goal place : ℕ) : Type 0 where
  pub best : ℕ
  pub nearest : Nearest dist order count reached goal reached place best

-- The vertex at this place is settled: it changes places with the one at count.
pub record Settles (order order' : List ℕ) (place count v : ℕ) : Type 0 where
  pub is : v ≡ entries order place
  pub order_is : order' ≡ set (set order place (entries order count)) count v

-- The prices can move: the first count of the list are vertices, each there once, none farther than the goal, and no price of a row vertex goes below 0.
pub record Movable (rows : ℕ) (order dist price : ℕ → ℕ) (count goal : ℕ) : Type 0 where
  pub few : count ≤ most_vertices
  pub small : goal ≤ far
  pub inside : (i : ℕ) → i < count → order i < most_vertices
  pub once : (i j : ℕ) → i < count → j < count → order i ≡ order j → i ≡ j
  pub near : (i : ℕ) → i < count → dist (order i) ≤ goal
  pub room : (i : ℕ) → i < count → order i < rows → goal ≤ dist (order i) + price (order i)
  pub under : (i : ℕ) → i < count → price (order i) ≤ top_price
