-- The writer yields a text just for what it accepts, and it is the text of the marks.
use Rattle.std.specs.Prelude.{Ok}
use mathlib.Core.Path.{◌≡◌, refl, sym, ◌∙◌}
use mathlib.Core.Bool.{true, ◌&&◌}
use mathlib.Core.List.{List, [], ◌∷◌}
use Prim.Native.Nat.{ℕ, ◌≤◌, ◌<◌}
use native.Mathlib.Omega.{arith}
use lib.Dec.{leb, eqb}
use borrow.Author.Tests.{eqb-true, eq-eqb, leb-true, le-leb}
use lib.ListN.{length}
use Rattle.graph.specs.declared.Kind.{Kind}
use Rattle.graph.specs.declared.Kind.TheVariants.{Bipartite, General}
use Rattle.graph.specs.declared.Fault.TheVariants.{LentLength}
use Rattle.graph.specs.Limits.{subgraph_bytes}
use Rattle.graph.specs.Refusal.{Outcome, Test, once, passing}
use Rattle.graph.specs.Graph.{Graph, shape_of, row_at, column_at, up_to, sizes_in_range}
use Rattle.graph.specs.Tests.{graph_lengths, graph_tests, mark_test}
use Rattle.graph.proofs.Passing.{Passes, passes, pass}
use Rattle.graph.specs.Passed.{Sound, Passed, MarksHold}
use Rattle.graph.proofs.Ranges.{both, ◌also◌}
use Rattle.graph.proofs.Passed.{graph_passed, passed_lengths, passed_tests, marks_passed, marks_test}
use Rattle.layout.specs.SubgraphText.{subgraph_text, write_subgraph}

-- The writer accepts a graph that has passed, with marks that have passed.
pub record Accepted (g : Graph) (x : List ℕ) : Type 0 where
  pub passed : Passed g
  pub marks : MarksHold g.edges x

-- ---- what a text is yielded for

module _ (g : Graph) (x : List ℕ) (n : ℕ) where
  -- The writer's tests before that of the marks, and what follows them.
  abbrev pub number_tests : List Test
  number_tests = once LentLength (graph_lengths g && eqb (length x) g.edges && eqb n subgraph_bytes) ∷ graph_tests g

  abbrev pub afterwards : Outcome (List ℕ)
  afterwards = passing (mark_test g x ∷ []) (Ok (subgraph_text g x))

  pub writes : write_subgraph g x n ≡ passing number_tests afterwards
  unfolding write_subgraph
  writes = refl

  -- Tests that are kept show that the writer accepts.
  module _ (numbers : Passes number_tests) (marks : Passes (mark_test g x ∷ [])) where
    lengths : (graph_lengths g ≡ true) × (eqb (length x) g.edges ≡ true)
    lengths =
        both (graph_lengths g) (eqb (length x) g.edges)
        (both (graph_lengths g && eqb (length x) g.edges) (eqb n subgraph_bytes) (numbers.0 0 (omega arith))).0

    pub kept_accepted : Accepted g x
    kept_accepted = record { passed = graph_passed g lengths.0 numbers.1; marks = marks_passed g x (eqb-true (length x) g.edges lengths.1) marks }

  module _ (text : List ℕ) (h : write_subgraph g x n ≡ Ok text) where
    numbers_kept : Passes number_tests
    numbers_kept = (passes number_tests afterwards text (sym writes ∙ h)).0

    then_yields : afterwards ≡ Ok text
    then_yields = (passes number_tests afterwards text (sym writes ∙ h)).1

    marks_kept : Passes (mark_test g x ∷ [])
    marks_kept = (passes (mark_test g x ∷ []) (Ok (subgraph_text g x)) text then_yields).0

    pub accepted : Accepted g x
    accepted = kept_accepted numbers_kept marks_kept

    -- The text that is yielded is that of the marks.
    pub text_is : subgraph_text g x ≡ text
    text_is =
        let e : ◌≡◌ {A = Outcome (List ℕ)} (Ok (subgraph_text g x)) (Ok text) =
        (passes (mark_test g x ∷ []) (Ok (subgraph_text g x)) text then_yields).1 in
        cc

-- ---- and back: the writer takes what it accepts

pub writes_accepted : {g : Graph} {x : List ℕ} → Accepted g x → write_subgraph g x subgraph_bytes ≡ Ok (subgraph_text g x)
writes_accepted {g} {x} a =
    writes g x subgraph_bytes
    ∙ pass (number_tests g x subgraph_bytes)
    (λ k l. passed_lengths a.passed also eq-eqb (length x) g.edges a.marks.long also refl, passed_tests a.passed)
    (afterwards g x subgraph_bytes)
    ∙ pass (mark_test g x ∷ []) (marks_test g x a.marks) (Ok (subgraph_text g x))

-- ---- the ranges as orders

-- No number of the text is large.
pub record Small (g : Graph) : Type 0 where
  pub rows_small : g.rows ≤ 128
  pub columns_small : g.columns ≤ 128
  pub edges_few : g.edges ≤ 1024
  pub row_small : (e : ℕ) → e < g.edges → row_at g e ≤ 128
  pub column_small : (e : ℕ) → e < g.edges → column_at g e ≤ 128

pub small : (g : Graph) → Sound (shape_of g) g.row g.column → Small g
small g S = record {
  rows_small = S.sizes.rows.greatest;
  columns_small = S.sizes.columns.greatest;
  edges_few = S.sizes.few;
  row_small = λ e l. omega (arith, S.sizes.rows, (S.ends e l).row);
  column_small = λ e l. omega (arith, S.sizes.columns, (S.ends e l).column);
}

-- Fewer edges keep the sizes in range.
pub sizes_fewer : (k : Kind) (r c m j : ℕ) → sizes_in_range k r c m ≡ true → j ≤ m → sizes_in_range k r c j ≡ true
sizes_fewer Bipartite r c m j h l =
    let p : ((up_to 64 r && up_to 64 c) ≡ true) × (leb m 1024 ≡ true) = both (up_to 64 r && up_to 64 c) (leb m 1024) h in
    p.0 also (le-leb j 1024 (omega (arith, leb-true m 1024 p.1)))
sizes_fewer General r c m j h l =
    let p : ((up_to 128 r && eqb c r) ≡ true) × (leb m 1024 ≡ true) = both (up_to 128 r && eqb c r) (leb m 1024) h in
    p.0 also (le-leb j 1024 (omega (arith, leb-true m 1024 p.1)))
