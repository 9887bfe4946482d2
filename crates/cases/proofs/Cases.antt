-- The twelve marked cases: the table's test is computed, and one law turns it into the statement of each claim.
use Rattle.std.specs.Prelude.{Option, None, Some, Ok, Err}
use Prim.Native.Nat.{ℕ}
use mathlib.Core.Path.{◌≡◌, refl, ap, ap₂, ◌∙◌}
use mathlib.Core.Bool.{Bool, true}
use mathlib.Core.List.{List, [], ◌∷◌, ◌++◌}
use lib.Dec.{eqb}
use borrow.Author.Tests.{eqb-true}
use lib.IntN.{ℤ}
use lib.Signed.{le_z}
use Rattle.integers.proofs.Order.{le_z_true, ≤ℤ-antisym}
use Rattle.graph.specs.Refusal.{Outcome, refuses, number_of, told, refused_with}
use Rattle.graph.specs.Graph.{Graph}
use Rattle.graph.specs.Subgraph.{weight_of}
use Rattle.graph.proofs.Passing.{zero_one}
use Rattle.graph.proofs.Ranges.{both}
use Rattle.layout.specs.Text.{bytes, on_first, pieces, non_empty, lines, words, digits_after, numeral, natural, integer, one_word, two_words, three_words, same}
use Rattle.layout.specs.Text.{same_folded, header_words, header, digits, spaced, unlines}
use Rattle.layout.specs.Lines.{on_line, at_end, read_lines}
use Rattle.layout.specs.GraphText.{read_graph_by}
use Rattle.layout.specs.NumberText.{read_numbers_by}
use Rattle.dual.specs.declared.Measures.{Measures}
use Rattle.dual.specs.Sets.{capacity}
use Rattle.dual.specs.Measure.{measure}
use Rattle.dual.specs.Solve.{solve}
use Rattle.report.specs.Report.{measured_line}
use Rattle.cases.specs.Table.{Claim, largest, optimal, line, gap, capacity_of, taken, refused, solved, unsolved, sheet_taken, sheet_refused}
use Rattle.cases.specs.Table.{limits_taken, limits_refused, Case, measuring, solving, read_sheet, read_limits, States, All, table}
use Rattle.cases.proofs.Trying.{is_feasible, best, best_optimal, weighs_best}
use Rattle.cases.proofs.Test.{sameℤ, same_list, same_best, yields_such, is_refused, holds, all, table_holds}

same-eq : (a b : ℤ) → sameℤ a b ≡ true → a ≡ b
same-eq a b e = let s = both (le_z a b) (le_z b a) e in ≤ℤ-antisym (le_z_true a b s.0) (le_z_true b a s.1)

list_eq : {A : Type 0} (test : A → A → Bool) → ((a b : A) → test a b ≡ true → a ≡ b) → (xs ys : List A) → same_list test xs ys ≡ true → xs ≡ ys
list_eq test law [] [] e = refl
list_eq test law [] (y ∷ ys) e = zero_one (cc)
list_eq test law (x ∷ xs) [] e = zero_one (cc)
list_eq test law (x ∷ xs) (y ∷ ys) e =
    let s = both (test x y) (same_list test xs ys) e in ap₂ (λ u us. u ∷ us) (law x y s.0) (list_eq test law xs ys s.1)

best_eq : (o : Option ℤ) (w : ℤ) → same_best o w ≡ true → o ≡ Some w
best_eq None w e = zero_one (cc)
best_eq (Some v) w e = ap Some (same-eq v w e)

yields_eq : {A : Type 0} (test : A → Bool) (o : Outcome A) → yields_such test o ≡ true → (a : A) × (o ≡ Ok a) × (test a ≡ true)
yields_eq test (Ok a) e = (a, refl, e)
yields_eq test (Err refusal) e = zero_one (cc)

refused_eq : {A : Type 0} (o : Outcome A) (n p : ℕ) → is_refused o n p ≡ true → told o ≡ refused_with n p
refused_eq (Ok a) n p e = zero_one (cc)
refused_eq (Err refusal) n p e =
    let s = both (eqb (number_of refusal.fault) n) (eqb refusal.place p) e in ap₂ refused_with (eqb-true (number_of refusal.fault) n s.0) (eqb-true refusal.place p s.1)

-- A claim whose test is true holds.
pub claim : (c : Case) (k : Claim) → holds c k ≡ true → States c k
claim c (largest w) e = best_optimal c.graph c.bound w (best_eq (best c.graph c.bound) w e)
claim c optimal e =
    let s = both (is_feasible c.graph c.bound c.chosen) (same_best (best c.graph c.bound) (weight_of c.graph c.chosen)) e in
    weighs_best c.graph c.bound c.chosen s.0 (best_eq (best c.graph c.bound) (weight_of c.graph c.chosen) s.1)
claim c (line s) e =
    let y = yields_eq (λ (m : Measures). same_list eqb (measured_line m) (bytes s ++ (10 ∷ []))) (measuring c) e in
    (y.0, y.1, list_eq eqb eqb-true (measured_line y.0) (bytes s ++ (10 ∷ [])) y.2)
claim c (gap z) e =
    let y = yields_eq (λ (m : Measures). sameℤ m.gap z) (measuring c) e in (y.0, y.1, same-eq y.0.gap z y.2)
claim c (capacity_of s q) e = eqb-true (capacity c.graph c.bound c.prices.marks s) q e
claim c taken e = let y = yields_eq (λ (m : Measures). true) (measuring c) e in (y.0, y.1)
claim c (refused n p) e = refused_eq (measuring c) n p e
claim c solved e = (yields_eq (λ (u : Unit {0}). true) (solving c) e).1
claim c (unsolved n p) e = refused_eq (solving c) n p e
claim c (sheet_taken text) e =
    let y = yields_eq (λ (g : Graph). same_list sameℤ g.weight c.graph.weight) (read_sheet text) e in
    (y.0, y.1, list_eq sameℤ same-eq y.0.weight c.graph.weight y.2)
claim c (sheet_refused text n p) e = refused_eq (read_sheet text) n p e
claim c (limits_taken text) e =
    let y = yields_eq (λ zs. same_list sameℤ zs c.bound) (read_limits c text) e in
    y.1 ∙ ap Ok (list_eq sameℤ same-eq y.0 c.bound y.2)
claim c (limits_refused text n p) e = refused_eq (read_limits c text) n p e

-- A test that is true of every member is a statement of every member.
every-member : {A : Type 0} (test : A → Bool) (P : A → Type 0) → ((a : A) → test a ≡ true → P a) → (xs : List A) → all test xs ≡ true → All P xs
every-member test P law [] e = tt
every-member test P law (x ∷ xs) e =
    let s = both (test x) (all test xs) e in (law x s.0, every-member test P law xs s.1)

computed : table_holds ≡ true
unfolding table measure solve read_graph_by read_numbers_by measured_line on_line at_end read_lines lines words pieces on_first non_empty digits_after numeral natural
    integer one_word two_words three_words same same_folded header_words header digits spaced unlines
computed = refl

-- Every claim of every case holds.
pub cases : All (λ c. All (States c) c.claims) table
cases =
    every-member (λ c. all (holds c) c.claims) (λ c. All (States c) c.claims) (λ c. every-member (holds c) (States c) (claim c) c.claims)
    table computed
