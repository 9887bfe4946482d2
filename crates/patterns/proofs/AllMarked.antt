-- The text of a graph without weights is the text of a subgraph (plan) of that graph: the one with all its edges.
use Rattle.std.specs.Prelude.{Option, None, Some, option_map, Ok}
use mathlib.Core.Path.{◌≡◌, refl, sym, ap, ap₂, ◌∙◌}
use mathlib.Core.Bool.{Bool, true, cond, ◌&&◌}
use mathlib.Core.List.{List}
use Prim.Native.Nat.{ℕ, suc, ◌+◌, ◌<◌}
use native.Mathlib.Omega.{arith}
use lib.Dec.{ltb, leb, eqb}
use borrow.Author.Tests.{ltb-true, eq-eqb, le-leb}
use lib.IntN.{ℤ, pos}
use lib.ListN.{length, get_or, set, replicate, length-replicate, get_or-replicate}
use Rattle.graph.specs.declared.Kind.{Kind}
use Rattle.graph.specs.declared.Shape.{Shape}
use Rattle.graph.specs.declared.Fault.TheVariants.{Disagreement}
use Rattle.graph.specs.Graph.{Graph, shape_of, sizes_in_range, ends_in_range}
use Rattle.graph.specs.Passed.{Passed}
use Rattle.graph.proofs.Passing.{zero_one}
use Rattle.graph.proofs.Ranges.{◌also◌}
use Rattle.layout.specs.declared.Rules.{Rules}
use Rattle.layout.specs.declared.Field.TheVariants as Field
use Rattle.layout.specs.Text.{words, natural, two_words, three_words}
use Rattle.layout.specs.Lines.{goes, stops, start, sizing, reading, read_text}
use Rattle.layout.specs.GraphText.{shape_from, with_edge, edge_on, graph_layout}
use Rattle.layout.specs.SubgraphText.{Marked, subgraph_header, subgraph_sizes, edge_with, subgraph_edge, subgraph_layout}
use Rattle.readback.proofs.ReadBack.{same_kind, edge_found, marks_to, marks_so_far, marks_none, marks_all, marks_clear, marks_set}
use Rattle.readback.proofs.Trace.{Reads, done, by_header, skipped, by_size, blank-line, by_line, reads_yield}
use Rattle.patterns.proofs.Edges.{Sized, sizes-read, edge_read, length-snoc}
use Rattle.patterns.proofs.Texts.{graph_reads, text_passes}
use Rattle.patterns.proofs.Marks.{header-kind}
use Rattle.patterns.proofs.Extends.{Extends, extends_row, extends_column, lines-extend, kind_kept}

-- The marks of all edges; and how far reading is after the first n.
abbrev all_of : Graph → List ℕ
all_of p = replicate p.edges 1

abbrev marks_after : Graph → ℕ → Marked
marks_after p n = marks_so_far p.edges n (marks_to p.edges (all_of p) n)

-- ---- the line of an edge

-- Row and column of an edge that is read without its weight.
ends_of : (o : Option (ℕ × ℕ)) (e : ℕ × ℕ × ℤ) → option_map (λ x. (x.0, x.1, pos 0)) o ≡ Some e → o ≡ Some (e.0, e.1)
ends_of None e h = zero_one (cc)
ends_of (Some (r, c)) e h =
    let i : ◌≡◌ {A = ℕ × ℕ × ℤ} (r, c, pos 0) e = cc in
    ap (λ (x : ℕ × ℕ × ℤ). Some (x.0, x.1)) i

-- q is read, and then an edge with row r and column c, of the graph p.
module _ {p : Graph} (P : Passed p) (q : Graph) (r c : ℕ) (w : ℤ) (E : Extends (with_edge q r c w) p) (same : length q.column ≡ length q.row)
    (more : ltb (length q.row) q.edges ≡ true) where
  abbrev n : ℕ
  n = length q.row

  count_is : q.edges ≡ p.edges
  count_is = ap (λ (s : Shape). s.edges) E.shape

  among : n < p.edges
  among = omega (arith, ltb-true n q.edges more, count_is)

  more_marks : ltb n p.edges ≡ true
  more_marks = sym (ap (ltb n) count_is) ∙ more

  found : edge_with p r c ≡ Some n
  found = sym (ap₂ (edge_with p) (extends_row q r c w E) (extends_column q r c w E same)) ∙ edge_found P n among

  long : length (all_of p) ≡ p.edges
  long = length-replicate p.edges 1

  set_here : set (marks_to p.edges (all_of p) n) n 1 ≡ marks_to p.edges (all_of p) (suc n)
  set_here = marks_set p.edges (all_of p) long n among (get_or-replicate p.edges n 1 0 among)

  edge_marked : ends_in_range q.kind q.rows q.columns r c ≡ true → subgraph_edge p (marks_after p n) (Some (r, c)) ≡ goes (marks_after p (suc n))
  edge_marked ends =
      let s : n + 1 ≡ suc n = omega arith in
      let in-range : ends_in_range p.kind p.rows p.columns r c ≡ true =
      sym (ap (λ (x : Shape). ends_in_range x.kind x.rows x.columns r c) E.shape) ∙ ends in
      let clear : eqb (get_or (marks_to p.edges (all_of p) n) n 0) 0 ≡ true =
      eq-eqb (get_or (marks_to p.edges (all_of p) n) n 0) 0 (marks_clear p.edges (all_of p) long n among) in
      rw (in-range, found, clear) (ap₂ (λ (k : ℕ) (ms : List ℕ). goes (marks_so_far p.edges k ms)) s set_here)

-- ---- the size line

-- The sizes that were read are those of p.
module _ {p d : Graph} (kind : Kind) (o : Option (ℕ × ℕ × ℕ)) (S : Sized kind o d) (E : Extends d p) where
  abbrev read : ℕ × ℕ × ℕ
  read = S.sizes

  shape_is : shape_from kind read ≡ shape_of p
  shape_is = ap shape_of S.is ∙ E.shape

  count_agrees : read.2 ≡ p.edges
  count_agrees = ap (λ (s : Shape). s.edges) shape_is

  in-range : sizes_in_range p.kind read.0 read.1 read.2 ≡ true
  in-range = sym (ap (λ (k : Kind). sizes_in_range k read.0 read.1 read.2) (ap (λ (s : Shape). s.kind) shape_is)) ∙ S.range

  agrees : eqb read.0 p.rows && eqb read.1 p.columns && leb read.2 p.edges ≡ true
  agrees =
      eq-eqb read.0 p.rows (ap (λ (s : Shape). s.rows) shape_is)
      also eq-eqb read.1 p.columns (ap (λ (s : Shape). s.columns) shape_is)
      also le-leb read.2 p.edges (omega (arith, count_agrees))

  none_read : 0 ≡ length d.row
  none_read = ap (λ (g : Graph). length g.row) S.is

  sizes_marked : subgraph_sizes p o ≡ goes (marks_after p (length d.row))
  sizes_marked =
      ap (subgraph_sizes p) S.read
      ∙ rw (in-range, agrees)
      (ap₂ (λ (k : ℕ) (ms : List ℕ). goes (marks_so_far k 0 ms)) count_agrees (marks_none p.edges (all_of p) (length-replicate p.edges 1))
      ∙ ap (λ (k : ℕ). goes (marks_after p k)) none_read)

-- ---- the lines

module _ (rules : Rules) where
  lines-all_marked : {q p : Graph} {ls : List (List ℕ)} → Reads (graph_layout rules Field.Pattern) (reading q) ls p → Passed p
      → length q.column ≡ length q.row → Reads (subgraph_layout rules p) (reading (marks_after p (length q.row))) ls (marks_after p (length p.row))
  lines-all_marked (done last) P same = done last
  lines-all_marked (blank-line fits empty rest) P same = blank-line fits empty (lines-all_marked rest P same)
  lines-all_marked (by_line {l = l} {c = q} {d = d} {b = p} fits full more is rest) P same =
      let o = two_words (natural rules) (natural rules) (words l) in
      let f = edge_read q (edge_on rules Field.Pattern (words l)) d is in
      let r : ℕ = f.edge.0 in
      let c : ℕ = f.edge.1 in
      let w : ℤ = f.edge.2 in
      let E : Extends (with_edge q r c w) p = rw f.added.is (lines-extend rules Field.Pattern rest) in
      let longer : suc (length q.row) ≡ length d.row = sym (length-snoc q.row r) ∙ ap (λ (g : Graph). length g.row) f.added.is in
      let columns : suc (length q.column) ≡ length d.column = sym (length-snoc q.column c) ∙ ap (λ (g : Graph). length g.column) f.added.is in
      by_line fits full (more_marks P q r c w E same more)
      (ap (subgraph_edge p (marks_after p (length q.row))) (ends_of o f.edge f.read)
      ∙ edge_marked P q r c w E same more f.added.ends ∙ ap (λ (k : ℕ). goes (marks_after p k)) longer)
      (lines-all_marked rest P (omega arith))

  sizes_all_marked : {kind : Kind} {p : Graph} {ls : List (List ℕ)} → Reads (graph_layout rules Field.Pattern) (sizing kind) ls p → Passed p
      → Reads (subgraph_layout rules p) (sizing tt) ls (marks_after p (length p.row))
  sizes_all_marked (skipped fits over rest) P = skipped fits over (sizes_all_marked rest P)
  sizes_all_marked (by_size {l = l} {h = kind} {c = d} fits full is rest) P =
      let o = three_words (natural rules) (natural rules) (natural rules) (words l) in
      let S = sizes-read kind o d is in
      let same : length d.column ≡ length d.row = rw (← S.is) refl in
      by_size fits full (sizes_marked kind o S (lines-extend rules Field.Pattern rest)) (lines-all_marked rest P same)

  reads_all_marked : {p : Graph} {ls : List (List ℕ)} → Reads (graph_layout rules Field.Pattern) start ls p → Passed p
      → Reads (subgraph_layout rules p) start ls (marks_after p (length p.row))
  reads_all_marked (by_header {l = l} {h = kind} {b = p} fits is rest) P =
      by_header fits
      (ap (subgraph_header p) (header-kind l kind is ∙ ap Some (kind_kept rules Field.Pattern rest))
      ∙ ap (λ (t : Bool). cond t (goes tt) (stops Disagreement)) (same_kind p.kind))
      (sizes_all_marked rest P)

  pub pattern_marked : (text : List ℕ) (p : Graph) → read_text (graph_layout rules Field.Pattern) text ≡ Ok p
      → read_text (subgraph_layout rules p) text ≡ Ok (replicate p.edges 1)
  pattern_marked text p h =
      let P : Passed p = text_passes rules Field.Pattern text p h in
      reads_yield (subgraph_layout rules p) (reads_all_marked (graph_reads rules Field.Pattern text p h) P) 1
      ∙ ap (λ (k : ℕ). Ok (marks_to p.edges (all_of p) k)) P.sound.row_long
      ∙ ap Ok (marks_all p.edges (all_of p) (length-replicate p.edges 1))
