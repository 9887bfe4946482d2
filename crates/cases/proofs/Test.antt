-- The test of the table that is computed.
use Rattle.std.specs.Prelude.{Option, None, Some, Ok, Err}
use Prim.Native.Nat.{ℕ}
use mathlib.Core.Bool.{Bool, true, false, ◌&&◌}
use mathlib.Core.List.{List, [], ◌∷◌, ◌++◌}
use lib.Dec.{eqb}
use lib.IntN.{ℤ}
use lib.Signed.{le_z}
use Rattle.graph.specs.Refusal.{Outcome, refuses, number_of}
use Rattle.graph.specs.Graph.{Graph}
use Rattle.graph.specs.Subgraph.{weight_of}
use Rattle.layout.specs.Text.{bytes}
use Rattle.dual.specs.declared.Measures.{Measures}
use Rattle.dual.specs.Sets.{capacity}
use Rattle.report.specs.Report.{measured_line}
use Rattle.cases.specs.Table.{Claim, largest, optimal, line, gap, capacity_of, taken, refused, solved, unsolved, sheet_taken, sheet_refused}
use Rattle.cases.specs.Table.{limits_taken, limits_refused, Case, measuring, solving, read_sheet, read_limits, table}
use Rattle.cases.proofs.Trying.{is_feasible, best}

abbrev pub sameℤ : ℤ → ℤ → Bool
sameℤ a b = le_z a b && le_z b a

-- Two lists are the same, by a test of their members.
abbrev pub same_list : {A : Type 0} → (A → A → Bool) → List A → List A → Bool
same_list test [] [] = true
same_list test [] (y ∷ ys) = false
same_list test (x ∷ xs) [] = false
same_list test (x ∷ xs) (y ∷ ys) = test x y && same_list test xs ys

abbrev pub same_best : Option ℤ → ℤ → Bool
same_best None w = false
same_best (Some v) w = sameℤ v w

-- What is yielded passes a test, or what is refused has this number and place.
abbrev pub yields_such : {A : Type 0} → (A → Bool) → Outcome A → Bool
yields_such test (Ok a) = test a
yields_such test (Err refusal) = false

abbrev pub is_refused : {A : Type 0} → Outcome A → ℕ → ℕ → Bool
is_refused (Ok a) n p = false
is_refused (Err refusal) n p = eqb (number_of refusal.fault) n && eqb refusal.place p

abbrev pub holds : Case → Claim → Bool
holds c (largest w) = same_best (best c.graph c.bound) w
holds c optimal = is_feasible c.graph c.bound c.chosen && same_best (best c.graph c.bound) (weight_of c.graph c.chosen)
holds c (line s) = yields_such (λ (m : Measures). same_list eqb (measured_line m) (bytes s ++ (10 ∷ []))) (measuring c)
holds c (gap z) = yields_such (λ (m : Measures). sameℤ m.gap z) (measuring c)
holds c (capacity_of s q) = eqb (capacity c.graph c.bound c.prices.marks s) q
holds c taken = yields_such (λ (m : Measures). true) (measuring c)
holds c (refused n p) = is_refused (measuring c) n p
holds c solved = yields_such (λ (u : Unit {0}). true) (solving c)
holds c (unsolved n p) = is_refused (solving c) n p
holds c (sheet_taken text) = yields_such (λ (g : Graph). same_list sameℤ g.weight c.graph.weight) (read_sheet text)
holds c (sheet_refused text n p) = is_refused (read_sheet text) n p
holds c (limits_taken text) = yields_such (λ zs. same_list sameℤ zs c.bound) (read_limits c text)
holds c (limits_refused text n p) = is_refused (read_limits c text) n p

-- Every member of a list passes a test; and the whole table's test.
abbrev pub all : {A : Type 0} → (A → Bool) → List A → Bool
all test [] = true
all test (x ∷ xs) = test x && all test xs

abbrev pub table_holds : Bool
table_holds = all (λ c. all (holds c) c.claims) table
