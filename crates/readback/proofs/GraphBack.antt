-- What a graph is written as, the graph reader reads back: the same graph, its edges in the same order.
use Rattle.std.specs.Prelude.{Some, Ok}
use mathlib.Core.Path.{◌≡◌, refl, sym, ap, ap₂, ◌∙◌}
use mathlib.Core.Bool.{Bool, true, false, cond, ◌&&◌}
use mathlib.Core.List.{List, [], ◌∷◌, ◌++◌}
use Prim.Native.Nat.{ℕ, suc, ◌<◌}
use native.Mathlib.Omega.{arith}
use lib.Dec.{ltb, eqb}
use lib.IntN.{ℤ, pos}
use borrow.Author.Tests.{le-leb, lt-ltb, le-ltb}
use lib.ListN.{length, take}
use lib.Seq.{take-suc, take_all, length-take-le, get_or-take}
use Rattle.graph.specs.declared.Kind.{Kind}
use Rattle.graph.specs.declared.Kind.TheVariants.{Bipartite, General}
use Rattle.graph.specs.declared.Fault.TheVariants.{Sizes}
use Rattle.graph.specs.Limits.{most_edges}
use Rattle.graph.specs.Graph.{Graph, graph_of, shape_of, row_at, column_at, weight_at, joins, joined}
use Rattle.graph.specs.Passed.{Passed}
use Rattle.graph.proofs.Passed.{weight_hold}
use Rattle.graph.proofs.Passing.{some_cong, pass}
use Rattle.layout.specs.declared.Rules.TheVariants.{New}
use Rattle.layout.specs.declared.Field.TheVariants as Field
use Rattle.layout.specs.Text.{newline, on_first, pieces, non_empty, words, same, same_folded, header_words, header, natural, three_words}
use Rattle.layout.specs.Text.{no_words, decimal, signed, spaced, lines}
use Rattle.layout.specs.Lines.{goes, stops, start, sizing, reading, on_line, read_lines, read_text}
use Rattle.layout.specs.GraphText.{graph_header, no_edges, graph_sizes, with_edge, edge_on, graph_edge, graph_layout, graph_reader_tests, read_graph_by, read_graph}
use Rattle.layout.specs.GraphText.{header_text, edge_line, edge_lines, graph_text}
use Rattle.readback.proofs.Accepted.{Small, small}
use Rattle.readback.proofs.Digits.{decimal-some, signed-some, number_back, signed_back}
use Rattle.readback.proofs.Pieces.{Free, lines-unlines, words-spaced, free_spaced, decimal-no_newline}
use Rattle.readback.proofs.Pieces.{decimal-no_blank, signed-no_newline, signed-no_blank}
use Rattle.readback.proofs.Reaches.{on_start, on_sizing, on_reading, reaches_one, reaches_text}
use Rattle.readback.proofs.Growing.{growing_free, growing_reaches}
use Rattle.readback.proofs.Fits.{size_line_le, lines-growing, graph_line_le, graph_text-le}
use Rattle.readback.proofs.ReadBack.{three-words, three_back, three_plain, three_free, header-short, header-free}

-- ---- the line of an edge

edge-words : (r c : ℕ) (w : ℤ) → words (spaced (decimal r ∷ decimal c ∷ signed w ∷ [])) ≡ decimal r ∷ decimal c ∷ signed w ∷ []
edge-words r c w =
    words-spaced (decimal r ∷ decimal c ∷ signed w ∷ [])
    (decimal-some r, decimal-no_blank r, (decimal-some c, decimal-no_blank c, (signed-some w, signed-no_blank w, tt)))

header-back : (k : Kind) → graph_header Field.Integer (header_text Field.Integer k) ≡ goes k
unfolding header header_words same_folded same words non_empty pieces on_first
header-back Bipartite = refl
header-back General = refl

-- ---- the edges so far

-- The graph with its first n edges.
abbrev pub first_edges : Graph → ℕ → Graph
first_edges g n = graph_of (shape_of g) (take n g.row) (take n g.column) (take n g.weight)

module _ {g : Graph} (P : Passed g) where
  S : Small g
  S = small g P.sound

  pub edges-all : first_edges g g.edges ≡ g
  edges-all =
      ap₂ (λ (r c : List ℕ). graph_of (shape_of g) r c (take g.edges g.weight))
      (take_all g.edges g.row (omega (arith, P.sound.row_long))) (take_all g.edges g.column (omega (arith, P.sound.column_long)))
      ∙ ap (graph_of (shape_of g) g.row g.column) (take_all g.edges g.weight (omega (arith, P.weight_long)))

  -- Then none is to come.
  pub edges-came : ltb (length (take g.edges g.row)) g.edges ≡ false
  edges-came =
      le-ltb (length (take g.edges g.row)) g.edges (omega (arith, length-take-le g.edges g.row (omega (arith, P.sound.row_long))))

  module _ (n : ℕ) (l : n < g.edges) where
    rows_so_far : length (take n g.row) ≡ n
    rows_so_far = length-take-le n g.row (omega (arith, P.sound.row_long))

    -- Another is to come.
    pub edges-to_come : ltb (length (take n g.row)) g.edges ≡ true
    edges-to_come = lt-ltb (length (take n g.row)) g.edges (omega (arith, rows_so_far))

    edges-next : with_edge (first_edges g n) (row_at g n) (column_at g n) (weight_at g n) ≡ first_edges g (suc n)
    edges-next =
        ap₂ (λ (r c : List ℕ). graph_of (shape_of g) r c (take n g.weight ++ (weight_at g n ∷ [])))
        (sym (take-suc g.row n 0 (omega (arith, P.sound.row_long)))) (sym (take-suc g.column n 0 (omega (arith, P.sound.column_long))))
        ∙ ap (graph_of (shape_of g) (take (suc n) g.row) (take (suc n) g.column)) (sym (take-suc g.weight n (pos 0) (omega (arith, P.weight_long))))

    -- No edge so far has its ends.
    edges-apart : joined (first_edges g n) (length (take n g.row)) (row_at g n) (column_at g n) ≡ false
    edges-apart =
        ap (λ (k : ℕ). joined (first_edges g n) k (row_at g n) (column_at g n)) rows_so_far
        ∙ some_cong n (joins (first_edges g n) (row_at g n) (column_at g n)) (joins g (row_at g n) (column_at g n))
        (λ k b. ap₂ (λ (r c : ℕ). eqb r (row_at g n) && eqb c (column_at g n)) (get_or-take n g.row k 0 b) (get_or-take n g.column k 0 b))
        ∙ P.apart n l

    -- The next edge is added.
    pub edge_next : graph_edge (first_edges g n) (Some (row_at g n, column_at g n, weight_at g n)) ≡ goes (first_edges g (suc n))
    edge_next = rw ((P.sound.ends n l).test, P.weights n l, edges-apart) (ap goes edges-next)

    -- ---- what its line does

    edge_back : edge_on New Field.Integer (words (edge_line g n)) ≡ Some (row_at g n, column_at g n, weight_at g n)
    unfolding three_words
    edge_back =
        rw (
          edge-words (row_at g n) (column_at g n) (weight_at g n),
          number_back (row_at g n) (omega (arith, S.row_small n l)),
          number_back (column_at g n) (omega (arith, S.column_small n l)),
          signed_back (weight_at g n) (weight_hold (weight_at g n) (P.weights n l)),
        )

    edge_read : graph_edge (first_edges g n) (edge_on New Field.Integer (words (edge_line g n))) ≡ goes (first_edges g (suc n))
    edge_read = ap (graph_edge (first_edges g n)) edge_back ∙ edge_next

    edge_step : on_line (graph_layout New Field.Integer) (reading (first_edges g n)) (edge_line g n) ≡ goes (reading (first_edges g (suc n)))
    edge_step =
        on_reading (graph_layout New Field.Integer) (first_edges g n) (edge_line g n) (first_edges g (suc n))
        (le-leb (length (edge_line g n)) 1024 (omega (arith, graph_line_le P n l)))
        (ap no_words (edge-words (row_at g n) (column_at g n) (weight_at g n)))
        edges-to_come
        edge_read

  -- ---- the header line and the size line

  abbrev size_text : List ℕ
  size_text = spaced (decimal g.rows ∷ decimal g.columns ∷ decimal g.edges ∷ [])

  header-step : on_line (graph_layout New Field.Integer) start (header_text Field.Integer g.kind) ≡ goes (sizing g.kind)
  header-step =
      on_start (graph_layout New Field.Integer) (header_text Field.Integer g.kind) g.kind (header-short Field.Integer g.kind) (header-back g.kind)

  size_read : graph_sizes g.kind (three_words (natural New) (natural New) (natural New) (words size_text)) ≡ goes (first_edges g 0)
  size_read =
      ap (graph_sizes g.kind)
      (three_back g.rows g.columns g.edges (omega (arith, S.rows_small)) (omega (arith, S.columns_small)) (omega (arith, S.edges_few)))
      ∙ ap (λ (t : Bool). cond t (goes (no_edges (shape_of g))) (stops Sizes)) P.sound.sizes.test

  size_step : on_line (graph_layout New Field.Integer) (sizing g.kind) size_text ≡ goes (reading (first_edges g 0))
  size_step =
      on_sizing (graph_layout New Field.Integer) g.kind size_text (first_edges g 0)
      (le-leb (length size_text) 1024
      (omega (arith, size_line_le g.rows g.columns g.edges S.rows_small S.columns_small S.edges_few)))
      (ap no_words (three-words g.rows g.columns g.edges))
      (three_plain g.rows g.columns g.edges)
      size_read

  -- ---- the whole text

  lines-of_text : lines (graph_text g) ≡ header_text Field.Integer g.kind ∷ size_text ∷ edge_lines g g.edges
  unfolding graph_text
  lines-of_text =
      lines-unlines (header_text Field.Integer g.kind ∷ size_text ∷ edge_lines g g.edges) (
        header-free Field.Integer g.kind,
        (three_free g.rows g.columns g.edges, growing_free (lines-growing g) (λ n. (edge_free n, tt)) g.edges),
      )
    where
      edge_free : (n : ℕ) → Free newline (edge_line g n)
      edge_free n =
          free_spaced newline (decimal (row_at g n) ∷ decimal (column_at g n) ∷ signed (weight_at g n) ∷ []) refl
          (decimal-no_newline (row_at g n), (decimal-no_newline (column_at g n), (signed-no_newline (weight_at g n), tt)))

  all_read : read_lines (graph_layout New Field.Integer) 1 start (header_text Field.Integer g.kind ∷ size_text ∷ edge_lines g g.edges) ≡ Ok g
  all_read =
      reaches_text (graph_layout New Field.Integer) g.kind (first_edges g 0) (first_edges g g.edges) 1 (header_text Field.Integer g.kind) size_text
      (edge_lines g g.edges) header-step size_step
      (growing_reaches (lines-growing g) (read_lines (graph_layout New Field.Integer)) g.edges (λ n. reading (first_edges g n))
      (λ n l. reaches_one (graph_layout New Field.Integer) (reading (first_edges g n)) (reading (first_edges g (suc n))) (edge_line g n) (edge_step n l))
      g.edges (omega arith))
      edges-came
      ∙ ap Ok edges-all

  -- The text of a graph that has passed reads as that graph.
  pub graph_back : read_graph most_edges most_edges most_edges (graph_text g) ≡ Ok g
  unfolding read_graph_by
  graph_back =
      pass (graph_reader_tests most_edges most_edges most_edges (graph_text g))
      (λ k l. refl, (λ k l. le-leb (length (graph_text g)) 32768 (omega (arith, graph_text-le P)), tt))
      (read_text (graph_layout New Field.Integer) (graph_text g))
      ∙ ap (read_lines (graph_layout New Field.Integer) 1 start) lines-of_text
      ∙ all_read
