-- What the exported calls return, tell and leave.
use Rattle.std.specs.Prelude.{ℕ, ◌≡◌, List, [], ◌∷◌, ℤ, pos, length, replicate, Ok, Err}
use Rattle.graph.specs.Refusal.{Outcome, refuses, reported, output}
use Rattle.graph.specs.Graph.{Graph, shape_of}
use Rattle.layout.specs.AssignmentText.{unit_bounds}
use Rattle.telling.specs.Telling.{number_in, place_in, shape_told, length_told}
use Rattle.dual.specs.declared.Measures.{Measures}
use Rattle.dual.specs.Solve.{Lent, Outputs, solve, Left}
use Rattle.dual.specs.PriceGeneral.{price_general, GeneralLeft}

-- What the measuring call tells: weight, total, slacks of vertices, odd sets, edges and cover, and gap.
abbrev pub measures_told : Outcome Measures → List ℤ
measures_told (Ok m) = m.weight ∷ m.total ∷ m.vertices ∷ m.sets ∷ m.edges ∷ m.cover ∷ m.gap ∷ []
measures_told (Err refusal) = replicate 7 (pos 0)

-- A call that yields W has read a graph: what it returns and tells, and what its three outputs, of a, b and c numbers, hold.
pub record GraphRead (W : Outcome Graph) (a b c r : ℕ) (answer row column : List ℕ) (weight : List ℤ) : Type 0 where
  pub number : r ≡ number_in W
  pub told : answer ≡ shape_told (reported shape_of W)
  pub rows : row ≡ output a 0 (λ g. g.row) W
  pub columns : column ≡ output b 0 (λ g. g.column) W
  pub weights : weight ≡ output c (pos 0) (λ g. g.weight) W

-- It has read a graph whose bounds are all 1, which an output of d numbers holds.
pub record AssignmentRead (W : Outcome Graph) (a b c d r : ℕ) (answer row column : List ℕ) (weight bound : List ℤ) : Type 0 where
  pub graph : GraphRead W a b c r answer row column weight
  pub bounds : bound ≡ output d (pos 0) unit_bounds W

-- A call that yields W has filled an output of n numbers, where z is 0.
pub record Filled (N : Type 0) (W : Outcome (List N)) (n : ℕ) (z : N) (r place : ℕ) (out : List N) : Type 0 where
  pub number : r ≡ number_in W
  pub told : place ≡ place_in W
  pub holds : out ≡ output n z (λ xs. xs) W

-- A call that yields W tells of it only whether it refuses, as one does that tests what is lent.
pub record Tested (W : Outcome (Unit {0})) (r place : ℕ) : Type 0 where
  pub number : r ≡ number_in W
  pub told : place ≡ place_in W

-- A call that yields W has written a text to an output of n bytes.
pub record TextWritten (W : Outcome (List ℕ)) (n r : ℕ) (answer out : List ℕ) : Type 0 where
  pub number : r ≡ number_in W
  pub told : answer ≡ length_told (reported length W)
  pub holds : out ≡ output n 0 (λ t. t) W

-- A call that yields W has measured.
pub record Measured (W : Outcome Measures) (r place : ℕ) (numbers : List ℤ) : Type 0 where
  pub number : r ≡ number_in W
  pub told : place ≡ place_in W
  pub holds : numbers ≡ measures_told W

-- The solver has run on a graph with its bounds and its index: what it returns and tells, and what it leaves in its outputs and the workspace.
pub record GraphSolved (g : Graph) (bound : List ℤ) (index : List ℕ) (lent : Lent) (r place : ℕ) (S : Outputs) (workspace : List ℤ) : Type 0 where
  pub number : r ≡ number_in (solve g bound index lent)
  pub told : place ≡ place_in (solve g bound index lent)
  pub leaves : Left g bound index lent S workspace

-- A general graph with its bounds has been priced: what the call returns and tells, and what it leaves of v numbers for the prices of vertices and e for those
-- of edges.
pub record GeneralPriced (g : Graph) (bound : List ℤ) (v e r place : ℕ) (vertex edge : List ℤ) : Type 0 where
  pub answers : Tested (price_general g bound v e) r place
  pub leaves : GeneralLeft g bound v e vertex edge
