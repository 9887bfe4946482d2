-- A graph that a text yields passes the tests that the calls make on a graph.
use Rattle.std.specs.Prelude.{Option, Ok}
use mathlib.Core.Path.{◌≡◌, refl, ap₂, ◌∙◌}
use mathlib.Core.Bool.{true, false}
use mathlib.Core.List.{List, ◌∷◌}
use Prim.Native.Nat.{ℕ, suc, ◌≤◌, ◌<◌}
use native.Mathlib.Omega.{arith}
use lib.Dec.{ltb}
use borrow.Author.Tests.{ltb-true, ltb-false}
use lib.IntN.{ℤ}
use lib.ListN.{length}
use Rattle.graph.specs.declared.Kind.{Kind}
use Rattle.graph.specs.declared.Fault.TheVariants.{LentLength}
use Rattle.graph.specs.Refusal.{once, passing}
use Rattle.graph.specs.Graph.{Graph, shape_of, shape_in_range, ends_in_range, weight_in_range, row_at, column_at, weight_at, joined}
use Rattle.graph.specs.Tests.{graph_lengths, graph_tests}
use Rattle.graph.specs.Passed.{Passed}
use Rattle.graph.proofs.Passing.{up_to, pass}
use Rattle.graph.proofs.Passed.{passed_lengths, passed_tests}
use Rattle.graph.proofs.Ranges.{sizes_hold, ends_hold}
use Rattle.layout.specs.declared.Rules.{Rules}
use Rattle.layout.specs.declared.Field.{Field}
use Rattle.layout.specs.Text.{lines, words, natural, three_words}
use Rattle.layout.specs.Lines.{goes, start, sizing, reading, read_text}
use Rattle.layout.specs.GraphText.{no_edges, shape_from, graph_sizes, with_edge, edge_on, graph_edge, graph_layout}
use Rattle.readback.proofs.Trace.{Reads, done, by_header, skipped, by_size, blank-line, by_line, yield_reads}
use Rattle.patterns.proofs.Edges.{sizes-read, Added, edge_read, length-snoc, new_row, new_column, new_weight}
use Rattle.patterns.proofs.Edges.{old_row, old_column, old_weight, old_joined}

-- What holds of the edges read so far.
pub record SoFar (g : Graph) : Type 0 where
  pub sizes : shape_in_range (shape_of g) ≡ true
  pub columns : length g.column ≡ length g.row
  pub weights : length g.weight ≡ length g.row
  pub few : length g.row ≤ g.edges
  pub ends : (e : ℕ) → e < length g.row → ends_in_range g.kind g.rows g.columns (row_at g e) (column_at g e) ≡ true
  pub weight : (e : ℕ) → e < length g.row → weight_in_range (weight_at g e) ≡ true
  pub apart : (e : ℕ) → e < length g.row → joined g e (row_at g e) (column_at g e) ≡ false

-- No edge yet.
pub none_yet : (kind : Kind) (s : ℕ × ℕ × ℕ) → shape_in_range (shape_from kind s) ≡ true → SoFar (no_edges (shape_from kind s))
none_yet kind s h = record {
  sizes = h;
  columns = refl;
  weights = refl;
  few = omega arith;
  ends = λ e l. absurd (omega arith);
  weight = λ e l. absurd (omega arith);
  apart = λ e l. absurd (omega arith);
}

-- One edge more.
module _ (g : Graph) (S : SoFar g) (more : length g.row < g.edges) (r c : ℕ) (w : ℤ) where
  abbrev next : Graph
  next = with_edge g r c w

  module _ (a : Added g r c w next) where
    longer : length next.row ≡ suc (length g.row)
    longer = length-snoc g.row r

    next-ends : (e : ℕ) → e < suc (length g.row) → ends_in_range g.kind g.rows g.columns (row_at next e) (column_at next e) ≡ true
    next-ends =
        up_to {P = λ e. ends_in_range g.kind g.rows g.columns (row_at next e) (column_at next e) ≡ true}
        (λ e l. rw (old_row g r c w S.columns e l, old_column g r c w S.columns e l) (S.ends e l))
        (rw (new_row g r c w S.columns, new_column g r c w S.columns) a.ends)

    next-weight : (e : ℕ) → e < suc (length g.row) → weight_in_range (weight_at next e) ≡ true
    next-weight =
        up_to {P = λ e. weight_in_range (weight_at next e) ≡ true} (λ e l. rw (old_weight g r c w S.columns e l S.weights) (S.weight e l))
        (rw (new_weight g r c w S.columns S.weights) a.weight)

    next-apart : (e : ℕ) → e < suc (length g.row) → joined next e (row_at next e) (column_at next e) ≡ false
    next-apart =
        up_to {P = λ e. joined next e (row_at next e) (column_at next e) ≡ false}
        (λ e l. ap₂ (joined next e) (old_row g r c w S.columns e l) (old_column g r c w S.columns e l)
        ∙ old_joined g r c w S.columns e (row_at g e) (column_at g e) (omega arith) ∙ S.apart e l)
        (ap₂ (joined next (length g.row)) (new_row g r c w S.columns) (new_column g r c w S.columns)
        ∙ old_joined g r c w S.columns (length g.row) r c (omega arith) ∙ a.apart)

    one_more : SoFar next
    one_more = record {
      sizes = S.sizes;
      columns = omega (arith, longer, length-snoc g.column c, S.columns);
      weights = omega (arith, longer, length-snoc g.weight w, S.weights);
      few = omega (arith, longer);
      ends = λ e l. next-ends e (omega (arith, longer));
      weight = λ e l. next-weight e (omega (arith, longer));
      apart = λ e l. next-apart e (omega (arith, longer));
    }

-- What a line of an edge, and the size line, lead to.
pub line_more : (g : Graph) (o : Option (ℕ × ℕ × ℤ)) (d : Graph) → SoFar g → ltb (length g.row) g.edges ≡ true → graph_edge g o ≡ goes d → SoFar d
line_more g o d S more h =
    let f = edge_read g o d h in
    let a = f.added in
    rw a.is at
    (one_more g S (ltb-true (length g.row) g.edges more) f.edge.0 f.edge.1 f.edge.2
    (record { ends = a.ends; weight = a.weight; apart = a.apart; is = refl }))

size_more : (kind : Kind) (o : Option (ℕ × ℕ × ℕ)) (d : Graph) → graph_sizes kind o ≡ goes d → SoFar d
size_more kind o d h = let s = sizes-read kind o d h in rw s.is at (none_yet kind s.sizes s.range)

-- Where no edge is to come, all are read, and the graph passes.
pub all_came : (g : Graph) → SoFar g → ltb (length g.row) g.edges ≡ false → length g.row ≡ g.edges
all_came g S last = omega (arith, S.few, ltb-false (length g.row) g.edges last)

pub so_passed : (g : Graph) → SoFar g → length g.row ≡ g.edges → Passed g
so_passed g S all = record {
  sound = record {
    row_long = all;
    column_long = S.columns ∙ all;
    sizes = sizes_hold g.kind g.rows g.columns g.edges S.sizes;
    ends = λ e l. ends_hold g.kind g.rows g.columns (row_at g e) (column_at g e) (S.ends e (omega arith));
  };
  weight_long = S.weights ∙ all;
  weights = λ e l. S.weight e (omega arith);
  apart = λ e l. S.apart e (omega arith);
}

-- What has passed passes the tests.
pub passed_passing : {g : Graph} → Passed g → passing (once LentLength (graph_lengths g) ∷ graph_tests g) (Ok tt) ≡ Ok (tt {0})
passed_passing {g} P = pass (once LentLength (graph_lengths g) ∷ graph_tests g) (λ k l. passed_lengths P, passed_tests P) (Ok tt)

-- ---- the whole text

module _ (rules : Rules) (field : Field) where
  lines-pass : {g : Graph} {ls : List (List ℕ)} {p : Graph} → Reads (graph_layout rules field) (reading g) ls p → SoFar g → Passed p
  lines-pass (done {b = b} last) S = so_passed b S (all_came b S last)
  lines-pass (blank-line fits empty rest) S = lines-pass rest S
  lines-pass (by_line {l = l} {c = c} {d = d} fits full more is rest) S = lines-pass rest (line_more c (edge_on rules field (words l)) d S more is)

  sizes_pass : {kind : Kind} {ls : List (List ℕ)} {p : Graph} → Reads (graph_layout rules field) (sizing kind) ls p → Passed p
  sizes_pass (skipped fits over rest) = sizes_pass rest
  sizes_pass (by_size {l = l} {h = kind} {c = c} fits full is rest) =
      lines-pass rest (size_more kind (three_words (natural rules) (natural rules) (natural rules) (words l)) c is)

  pub reads_pass : {ls : List (List ℕ)} {p : Graph} → Reads (graph_layout rules field) start ls p → Passed p
  reads_pass (by_header fits is rest) = sizes_pass rest

  module _ (text : List ℕ) (g : Graph) (h : read_text (graph_layout rules field) text ≡ Ok g) where
    -- How the lines of the text are read.
    pub graph_reads : Reads (graph_layout rules field) start (lines text) g
    graph_reads = let r = yield_reads (graph_layout rules field) 1 start (lines text) g h in rw r.result at r.reads

    -- The graph passes the tests.
    pub text_passes : Passed g
    text_passes = reads_pass graph_reads

    pub text_passes_tests : passing (once LentLength (graph_lengths g) ∷ graph_tests g) (Ok tt) ≡ Ok (tt {0})
    text_passes_tests = passed_passing text_passes
