-- What the exported calls are passed as bools, and what they return and tell of an answer: a refusal's number, or 0; its place, or 0; and numbers of the
-- result, or 0.
use Rattle.std.specs.Prelude.{ℕ, Bool, true, false, List, [], ◌∷◌, Ok, Err}
use Rattle.graph.specs.declared.Kind.{Kind}
use Rattle.graph.specs.declared.Shape.{Shape}
use Rattle.graph.specs.declared.Kind.TheVariants.{Bipartite, General}
use Rattle.graph.specs.Refusal.{Outcome, number_of}
use Rattle.layout.specs.declared.Numbers.{Numbers}
use Rattle.layout.specs.declared.Numbers.TheVariants.{Bounds, Prices}

-- The kind that is passed as a bool, the shape with it, and the sort of numbers.
abbrev pub kind_of : Bool → Kind
kind_of false = Bipartite
kind_of true = General

abbrev pub shape_given : Bool → ℕ → ℕ → ℕ → Shape
shape_given general rows columns edges = record { kind = kind_of general; rows = rows; columns = columns; edges = edges }

abbrev pub numbers_of : Bool → Numbers
numbers_of false = Bounds
numbers_of true = Prices

-- The number and the place of a refusal; 0 and 0 where there is none.
abbrev pub number_in : {A : Type 0} → Outcome A → ℕ
number_in (Ok a) = 0
number_in (Err refusal) = number_of refusal.fault

abbrev pub place_in : {A : Type 0} → Outcome A → ℕ
place_in (Ok a) = 0
place_in (Err refusal) = refusal.place

-- A kind as a number: 0 for bipartite, 1 for general.
abbrev pub kind_number : Kind → ℕ
kind_number Bipartite = 0
kind_number General = 1

-- What the graph reader tells: the place, and kind, rows, columns and the number of edges.
abbrev pub shape_told : Outcome Shape → List ℕ
shape_told (Ok s) = 0 ∷ kind_number s.kind ∷ s.rows ∷ s.columns ∷ s.edges ∷ []
shape_told (Err refusal) = refusal.place ∷ 0 ∷ 0 ∷ 0 ∷ 0 ∷ []

-- What a call that writes a text tells: the place, and the text's length.
abbrev pub length_told : Outcome ℕ → List ℕ
length_told (Ok n) = 0 ∷ n ∷ []
length_told (Err refusal) = refusal.place ∷ 0 ∷ []
