-- The text of a graph (sheet): what the graph reader yields, and how a graph is written. A text without weights, whose field is `pattern`, is read alike,
-- each weight as 0: it is the text of a subgraph (plan) without its graph.
use Rattle.std.specs.Prelude.{ℕ, zero, suc, cond, ◌&&◌, List, [], ◌∷◌, ◌++◌, ltb, eqb, ℤ, pos, length, Option, None, Some, option_map}
use Rattle.graph.specs.declared.Kind.{Kind}
use Rattle.graph.specs.declared.Kind.TheVariants.{Bipartite, General}
use Rattle.graph.specs.declared.Fault.TheVariants.{TextLength, Header, SizeLine, Sizes, LaterLine, Ends, Weight, SameEnds, LentLength}
use Rattle.graph.specs.declared.Shape.{Shape}
use Rattle.graph.specs.Limits.{most_edges}
use Rattle.graph.specs.Refusal.{Outcome, Test, once, passing}
use Rattle.graph.specs.Graph.{Graph, graph_of, shape_of, row_at, column_at, weight_at, shape_in_range, ends_in_range, weight_in_range, joined}
use Rattle.layout.specs.declared.Rules.{Rules}
use Rattle.layout.specs.declared.Rules.TheVariants.{New}
use Rattle.layout.specs.declared.Field.{Field}
use Rattle.layout.specs.Text.{bytes, words, natural, integer, two_words, three_words, header, text_fits, decimal, signed, spaced, unlines}
use Rattle.layout.specs.Lines.{Step, goes, stops, Layout, read_text}

-- Header: `%%MatrixMarket matrix coordinate integer general`, or `symmetric` for a general graph; `pattern` for `integer` where there are no weights.
abbrev pub field_word : Field → List ℕ
field_word Field.Integer = bytes "integer"
field_word Field.Pattern = bytes "pattern"

abbrev pub graph_header : Field → List ℕ → Step Kind
graph_header field l =
    cond (header (bytes "matrix" ∷ bytes "coordinate" ∷ field_word field ∷ bytes "general" ∷ []) l) (goes Bipartite)
    (cond (header (bytes "matrix" ∷ bytes "coordinate" ∷ field_word field ∷ bytes "symmetric" ∷ []) l) (goes General) (stops Header))

-- The graph of a shape with no edge read yet.
abbrev pub no_edges : Shape → Graph
no_edges s = graph_of s [] [] []

-- Size line: rows, columns, edges.
abbrev pub shape_from : Kind → ℕ × ℕ × ℕ → Shape
shape_from kind s = record { kind = kind; rows = s.0; columns = s.1; edges = s.2 }

abbrev pub graph_sizes : Kind → Option (ℕ × ℕ × ℕ) → Step Graph
graph_sizes kind None = stops SizeLine
graph_sizes kind (Some s) = cond (shape_in_range (shape_from kind s)) (goes (no_edges (shape_from kind s))) (stops Sizes)

-- The graph with one edge more.
abbrev pub with_edge : Graph → ℕ → ℕ → ℤ → Graph
with_edge g r c w = graph_of (shape_of g) (g.row ++ (r ∷ [])) (g.column ++ (c ∷ [])) (g.weight ++ (w ∷ []))

-- Edge line: row, column, weight; without weights row and column.
abbrev pub edge_on : Rules → Field → List (List ℕ) → Option (ℕ × ℕ × ℤ)
edge_on rules Field.Integer ws = three_words (natural rules) (natural rules) (integer rules) ws
edge_on rules Field.Pattern ws = option_map (λ e. (e.0, e.1, pos 0)) (two_words (natural rules) (natural rules) ws)

-- Tested in this order: malformed, ends, weight, the ends of an earlier edge.
abbrev pub graph_edge : Graph → Option (ℕ × ℕ × ℤ) → Step Graph
graph_edge g None = stops LaterLine
graph_edge g (Some e) =
    cond (ends_in_range g.kind g.rows g.columns e.0 e.1)
    (cond (weight_in_range e.2)
    (cond (joined g (length g.row) e.0 e.1) (stops SameEnds) (goes (with_edge g e.0 e.1 e.2)))
    (stops Weight))
    (stops Ends)

abbrev pub graph_layout : Rules → Field → Layout Kind Graph Graph
graph_layout rules field = record {
  header_line = graph_header field;
  size_line = λ kind l. graph_sizes kind (three_words (natural rules) (natural rules) (natural rules) (words l));
  later_line = λ g l. graph_edge g (edge_on rules field (words l));
  more = λ g. ltb (length g.row) g.edges;
  result = λ g. g;
}

-- The tests before the lines are read, where the three outputs have r, c and w numbers: their lengths (9), and the text's (1).
abbrev pub graph_reader_tests : ℕ → ℕ → ℕ → List ℕ → List Test
graph_reader_tests r c w text = once LentLength (eqb r most_edges && eqb c most_edges && eqb w most_edges) ∷ once TextLength (text_fits text) ∷ []

-- What is yielded of a text by these rules, with this field; and what the graph reader yields.
unfoldable pub read_graph_by : Rules → Field → ℕ → ℕ → ℕ → List ℕ → Outcome Graph
read_graph_by rules field r c w text = passing (graph_reader_tests r c w text) (read_text (graph_layout rules field) text)

abbrev pub read_graph : ℕ → ℕ → ℕ → List ℕ → Outcome Graph
read_graph r c w text = read_graph_by New Field.Integer r c w text

-- ---- how a graph is written

-- The header line of a text that is written, each word after the first in lower case.
abbrev pub header_text : Field → Kind → List ℕ
header_text Field.Integer Bipartite = bytes "%%MatrixMarket matrix coordinate integer general"
header_text Field.Integer General = bytes "%%MatrixMarket matrix coordinate integer symmetric"
header_text Field.Pattern Bipartite = bytes "%%MatrixMarket matrix coordinate pattern general"
header_text Field.Pattern General = bytes "%%MatrixMarket matrix coordinate pattern symmetric"

-- The line of edge e: row, column and weight.
abbrev pub edge_line : Graph → ℕ → List ℕ
edge_line g e = spaced (decimal (row_at g e) ∷ decimal (column_at g e) ∷ signed (weight_at g e) ∷ [])

-- The lines of the first n edges, in the graph's order.
unfoldable pub edge_lines : Graph → ℕ → List (List ℕ)
edge_lines g zero = []
edge_lines g (suc n) = edge_lines g n ++ (edge_line g n ∷ [])

-- The text that a graph is written as, its edges in the graph's order.
unfoldable pub graph_text : Graph → List ℕ
graph_text g =
    unlines
    (header_text Field.Integer g.kind
    ∷ spaced (decimal g.rows ∷ decimal g.columns ∷ decimal g.edges ∷ [])
    ∷ edge_lines g g.edges)
