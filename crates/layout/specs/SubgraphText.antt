-- The text of a subgraph (plan): what the subgraph reader yields, and what the writer writes.
use Rattle.std.specs.Prelude.{ℕ, zero, suc, ◌+◌, Bool, true, false, not, cond, ◌&&◌, List, [], ◌∷◌, ◌++◌, ltb, leb, eqb, length, get_or, set, replicate, Option, None, Some, Ok}
use Rattle.integers.specs.Sum.{sum}
use Rattle.graph.specs.declared.Kind.{Kind}
use Rattle.graph.specs.declared.Kind.TheVariants.{Bipartite, General}
use Rattle.graph.specs.declared.Fault.TheVariants.{TextLength, Header, SizeLine, Sizes, LaterLine, Ends, SameEnds, LentLength, Disagreement}
use Rattle.graph.specs.Limits.{subgraph_bytes}
use Rattle.graph.specs.Refusal.{Outcome, Test, once, lowest, passing}
use Rattle.graph.specs.Graph.{Graph, row_at, column_at, sizes_in_range, ends_in_range, joins}
use Rattle.graph.specs.Subgraph.{mark_at}
use Rattle.graph.specs.Tests.{graph_lengths, graph_tests, mark_test}
use Rattle.layout.specs.declared.Rules.{Rules}
use Rattle.layout.specs.declared.Rules.TheVariants.{New}
use Rattle.layout.specs.declared.Field.TheVariants as Field
use Rattle.layout.specs.Text.{bytes, words, natural, two_words, three_words, header, text_fits, decimal, spaced, unlines}
use Rattle.layout.specs.Lines.{Step, goes, stops, Layout, read_text}
use Rattle.layout.specs.GraphText.{header_text}

-- Header: `%%MatrixMarket matrix coordinate pattern general`, or `symmetric` for a general graph. A kind that differs from the graph's is a disagreement.
abbrev pub subgraph_kind : List ℕ → Option Kind
subgraph_kind l =
    cond (header (bytes "matrix" ∷ bytes "coordinate" ∷ bytes "pattern" ∷ bytes "general" ∷ []) l) (Some Bipartite)
    (cond (header (bytes "matrix" ∷ bytes "coordinate" ∷ bytes "pattern" ∷ bytes "symmetric" ∷ []) l) (Some General) None)

abbrev pub kinds_agree : Kind → Kind → Bool
kinds_agree Bipartite Bipartite = true
kinds_agree Bipartite General = false
kinds_agree General Bipartite = false
kinds_agree General General = true

abbrev pub subgraph_header : Graph → Option Kind → Step (Unit {0})
subgraph_header g None = stops Header
subgraph_header g (Some kind) = cond (kinds_agree kind g.kind) (goes tt) (stops Disagreement)

-- What has been read after the size line: how many chosen edges the text has, how many of them came, and the marks so far.
pub record Marked : Type 0 where
  pub count : ℕ
  pub came : ℕ
  pub marks : List ℕ

-- Size line: the graph's rows and columns, and the number of chosen edges.
abbrev pub subgraph_sizes : Graph → Option (ℕ × ℕ × ℕ) → Step Marked
subgraph_sizes g None = stops SizeLine
subgraph_sizes g (Some s) =
    cond (sizes_in_range g.kind s.0 s.1 s.2)
    (cond (eqb s.0 g.rows && eqb s.1 g.columns && leb s.2 g.edges)
    (goes (record { count = s.2; came = 0; marks = replicate g.edges 0 }))
    (stops Disagreement))
    (stops Sizes)

-- The edge with row r and column c, if the graph has one.
abbrev pub edge_with : Graph → ℕ → ℕ → Option ℕ
edge_with g r c = lowest g.edges (λ e. not (joins g r c e))

-- The mark of the edge that a line names: it is in the graph, and no earlier line names it.
abbrev pub subgraph_mark : Marked → Option ℕ → Step Marked
subgraph_mark b None = stops Disagreement
subgraph_mark b (Some e) =
    cond (eqb (get_or b.marks e 0) 0)
    (goes (record { count = b.count; came = b.came + 1; marks = set b.marks e 1 }))
    (stops SameEnds)

-- Edge line: row and column of a chosen edge, in any order of edges.
abbrev pub subgraph_edge : Graph → Marked → Option (ℕ × ℕ) → Step Marked
subgraph_edge g b None = stops LaterLine
subgraph_edge g b (Some e) =
    cond (ends_in_range g.kind g.rows g.columns e.0 e.1) (subgraph_mark b (edge_with g e.0 e.1)) (stops Ends)

abbrev pub subgraph_layout : Rules → Graph → Layout (Unit {0}) Marked (List ℕ)
subgraph_layout rules g = record {
  header_line = λ l. subgraph_header g (subgraph_kind l);
  size_line = λ h l. subgraph_sizes g (three_words (natural rules) (natural rules) (natural rules) (words l));
  later_line = λ b l. subgraph_edge g b (two_words (natural rules) (natural rules) (words l));
  more = λ b. ltb b.came b.count;
  result = λ b. b.marks;
}

-- The tests before the lines are read, where the output has n marks: the lengths (9), the graph's numbers (4, 6, 7, 8), and the text's length (1).
abbrev pub subgraph_reader_tests : Graph → ℕ → List ℕ → List Test
subgraph_reader_tests g n text = (once LentLength (graph_lengths g && eqb n g.edges) ∷ graph_tests g) ++ (once TextLength (text_fits text) ∷ [])

-- What is yielded of a text by these rules, for a graph; and what the subgraph reader yields.
unfoldable pub read_subgraph_by : Rules → Graph → ℕ → List ℕ → Outcome (List ℕ)
read_subgraph_by rules g n text = passing (subgraph_reader_tests g n text) (read_text (subgraph_layout rules g) text)

abbrev pub read_subgraph : Graph → ℕ → List ℕ → Outcome (List ℕ)
read_subgraph g n text = read_subgraph_by New g n text

-- The lines of the chosen edges among the first n, in the graph's order.
unfoldable pub chosen_lines : Graph → List ℕ → ℕ → List (List ℕ)
chosen_lines g x zero = []
chosen_lines g x (suc n) =
    chosen_lines g x n ++ cond (eqb (mark_at x n) 1) (spaced (decimal (row_at g n) ∷ decimal (column_at g n) ∷ []) ∷ []) []

-- The text that a subgraph is written as.
unfoldable pub subgraph_text : Graph → List ℕ → List ℕ
subgraph_text g x =
    unlines
    (header_text Field.Pattern g.kind
    ∷ spaced (decimal g.rows ∷ decimal g.columns ∷ decimal (sum g.edges (mark_at x)) ∷ [])
    ∷ chosen_lines g x g.edges)

-- The tests of the writer, where its output has n bytes: the lengths (9), the graph's numbers (4, 6, 7, 8), and the marks (11).
abbrev pub writer_tests : Graph → List ℕ → ℕ → List Test
writer_tests g x n = (once LentLength (graph_lengths g && eqb (length x) g.edges && eqb n subgraph_bytes) ∷ graph_tests g) ++ (mark_test g x ∷ [])

-- What the subgraph writer yields.
unfoldable pub write_subgraph : Graph → List ℕ → ℕ → Outcome (List ℕ)
write_subgraph g x n = passing (writer_tests g x n) (Ok (subgraph_text g x))
