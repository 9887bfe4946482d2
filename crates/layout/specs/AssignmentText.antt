-- The DIMACS assignment text (document 02, U7): how a graph (sheet) whose bounds (limits) are all 1 is written, and what the reader of such a text yields.
-- Its nodes are the vertices: the row vertices (dams) are the source nodes, 1 to rows, and column j (sire j) is node rows + j. An arc is an edge (pair), and
-- its cost is the edge's weight (merit) negated.
use Rattle.std.specs.Prelude.{ℕ, zero, suc, ◌+◌, ◌-◌, Bool, cond, ◌&&◌, ◌||◌, List, [], ◌∷◌, ◌++◌, ltb, eqb, ℤ, pos, neg_ℤ, length, replicate, Option, None, Some, option_map, Ok, Err}
use Rattle.graph.specs.declared.Kind.TheVariants.{Bipartite}
use Rattle.graph.specs.declared.Shape.{Shape}
use Rattle.graph.specs.declared.Fault.TheVariants.{TextLength, Sizes, LentLength, AssignmentLine, Sources}
use Rattle.graph.specs.Limits.{most_vertices, most_edges, longest_text}
use Rattle.graph.specs.Refusal.{Outcome, refuses, Test, once, passing}
use Rattle.graph.specs.Graph.{Graph, vertices, row_at, column_at, weight_at, shape_in_range}
use Rattle.graph.specs.Tests.{one_test, bipartite_tests}
use Rattle.layout.specs.declared.Rules.TheVariants.{New}
use Rattle.layout.specs.Text.{bytes, lines, words, natural, integer, one_word, two_words, three_words, same, begins, blank_line, starts_with}
use Rattle.layout.specs.Text.{text_fits, line_fits, decimal, signed, spaced, unlines}
use Rattle.layout.specs.Lines.{Step, goes, stops}
use Rattle.layout.specs.GraphText.{no_edges, graph_edge}

-- ---- how a graph is written

-- `p asn`, the number of nodes, the number of arcs.
abbrev pub problem_line : Graph → List ℕ
problem_line g = spaced (bytes "p" ∷ bytes "asn" ∷ decimal (g.rows + g.columns) ∷ decimal g.edges ∷ [])

-- `n` and a source node: the lines of the first n row vertices.
abbrev pub source_line : ℕ → List ℕ
source_line v = spaced (bytes "n" ∷ decimal (v + 1) ∷ [])

unfoldable pub source_lines : ℕ → List (List ℕ)
source_lines zero = []
source_lines (suc n) = source_lines n ++ (source_line n ∷ [])

-- `a`, source, target and cost: the lines of the first n edges, in the graph's order.
abbrev pub arc_line : Graph → ℕ → List ℕ
arc_line g e =
    spaced (bytes "a" ∷ decimal (row_at g e) ∷ decimal (g.rows + column_at g e) ∷ signed (neg_ℤ (weight_at g e)) ∷ [])

unfoldable pub arc_lines : Graph → ℕ → List (List ℕ)
arc_lines g zero = []
arc_lines g (suc n) = arc_lines g n ++ (arc_line g n ∷ [])

-- The text that a graph is written as.
unfoldable pub assignment_text : Graph → List ℕ
assignment_text g = unlines (problem_line g ∷ (source_lines g.rows ++ arc_lines g g.edges))

-- The tests of the call that writes it, where its output has n bytes: those of a bipartite graph with bounds, and that each bound is 1 (19); and what the
-- call yields.
abbrev pub assignment_tests : Graph → List ℤ → ℕ → List Test
assignment_tests g bound n = bipartite_tests g bound (eqb n longest_text) ++ (one_test g bound ∷ [])

unfoldable pub write_assignment : Graph → List ℤ → ℕ → Outcome (List ℕ)
write_assignment g bound n = passing (assignment_tests g bound n) (Ok (assignment_text g))

-- ---- what a line is

-- A comment line begins with c (byte 99), whatever follows.
abbrev pub assignment_comment : List ℕ → Bool
assignment_comment l = starts_with 99 l

-- A line that is neither blank nor a comment: the problem line, with the numbers of nodes and of arcs; a source node; or an arc, with source, target and cost.
pub data Entry : Type 0 where
  problem : ℕ → ℕ → Entry
  source : ℕ → Entry
  arc : ℕ → ℕ → ℤ → Entry

-- The words after `p`, after `n` and after `a`; no entry where they are malformed.
abbrev pub problem_sizes : List (List ℕ) → Option (ℕ × ℕ)
problem_sizes [] = None
problem_sizes (w ∷ ws) = cond (same w (bytes "asn")) (two_words (natural New) (natural New) ws) None

abbrev pub problem_of : List (List ℕ) → Option Entry
problem_of ws = option_map (λ p. problem p.0 p.1) (problem_sizes ws)

abbrev pub source_of : List (List ℕ) → Option Entry
source_of ws = option_map source (one_word (natural New) ws)

abbrev pub arc_of : List (List ℕ) → Option Entry
arc_of ws = option_map (λ a. arc a.0 a.1 a.2) (three_words (natural New) (natural New) (integer New) ws)

-- The first word is the letter, which keeps its case and begins the line.
abbrev pub entry_words : List (List ℕ) → Option Entry
entry_words [] = None
entry_words (w ∷ ws) =
    cond (same w (bytes "p")) (problem_of ws) (cond (same w (bytes "n")) (source_of ws) (cond (same w (bytes "a")) (arc_of ws) None))

unfoldable pub entry_on : List ℕ → Option Entry
entry_on l = cond (begins l) (entry_words (words l)) None

-- ---- reading the lines from the top

-- What the problem line tells, and its line's number.
pub record Stated : Type 0 where
  pub line : ℕ
  pub nodes : ℕ
  pub arcs : ℕ

-- How far reading is: before the problem line; after it, with the number of source nodes so far; or after the first arc, with the graph read so far.
pub data Progress : Type 0 where
  start : Progress
  naming : Stated → ℕ → Progress
  joining : Graph → Progress

-- Rows are the source nodes, and columns the nodes left over.
abbrev pub assignment_shape : Stated → ℕ → Shape
assignment_shape P rows = record { kind = Bipartite; rows = rows; columns = P.nodes - rows; edges = P.arcs }

-- The sizes are judged once the source nodes are known; a bad size (4) is placed at the problem line. Where they are in range, the rest is yielded of the
-- graph with no edge yet.
abbrev pub judged : {A : Type 0} → Stated → ℕ → (Graph → Outcome A) → Outcome A
judged P rows rest = cond (shape_in_range (assignment_shape P rows)) (rest (no_edges (assignment_shape P rows))) (refuses Sizes P.line)

-- Whether another arc is still to come.
abbrev pub more_arcs : Graph → Bool
more_arcs g = ltb (length g.row) g.edges

-- An arc on line k after the edges of g, tested as an edge of a sheet is: ends (6), weight (7), the ends of an earlier edge (8). A target that is a source
-- node, or 0, gives column 0, which is out of range.
abbrev pub placed : ℕ → Step Graph → Outcome Progress
placed k (goes g) = Ok (joining g)
placed k (stops f) = refuses f k

abbrev pub with_arc : ℕ → Graph → ℕ → ℕ → ℤ → Outcome Progress
with_arc k g a b z = placed k (graph_edge g (Some (a, b - g.rows, neg_ℤ z)))

-- What each entry does on line k: one out of turn, or surplus, is refused (20).
abbrev pub on_problem : ℕ → Progress → ℕ → ℕ → Outcome Progress
on_problem k start nodes arcs = Ok (naming (record { line = k; nodes = nodes; arcs = arcs }) 0)
on_problem k (naming P rows) nodes arcs = refuses AssignmentLine k
on_problem k (joining g) nodes arcs = refuses AssignmentLine k

-- The source nodes are 1 up to their count in rising order (21).
abbrev pub on_source : ℕ → Progress → ℕ → Outcome Progress
on_source k start v = refuses AssignmentLine k
on_source k (naming P rows) v = cond (eqb v (rows + 1)) (Ok (naming P (rows + 1))) (refuses Sources k)
on_source k (joining g) v = refuses AssignmentLine k

-- The sizes are judged at the first arc, where it is not surplus.
abbrev pub on_arc : ℕ → Progress → ℕ → ℕ → ℤ → Outcome Progress
on_arc k start a b z = refuses AssignmentLine k
on_arc k (naming P rows) a b z = cond (ltb 0 P.arcs) (judged P rows (λ g. with_arc k g a b z)) (refuses AssignmentLine k)
on_arc k (joining g) a b z = cond (more_arcs g) (with_arc k g a b z) (refuses AssignmentLine k)

abbrev pub on_entry : ℕ → Progress → Option Entry → Outcome Progress
on_entry k s None = refuses AssignmentLine k
on_entry k s (Some (problem nodes arcs)) = on_problem k s nodes arcs
on_entry k s (Some (source v)) = on_source k s v
on_entry k s (Some (arc a b z)) = on_arc k s a b z

-- Line k: one over 1,024 bytes is refused whatever it holds; blank lines and comments may stand anywhere.
abbrev pub skipped : List ℕ → Bool
skipped l = blank_line l || assignment_comment l

unfoldable pub on_assignment_line : ℕ → Progress → List ℕ → Outcome Progress
on_assignment_line k s l = cond (line_fits l) (cond (skipped l) (Ok s) (on_entry k s (entry_on l))) (refuses AssignmentLine k)

-- Where the lines end, k being the number after the last: a line that is still to come is missing there. The sizes are judged before a missing arc, where
-- no arc has come.
abbrev pub complete : ℕ → Graph → Outcome Graph
complete k g = cond (more_arcs g) (refuses AssignmentLine k) (Ok g)

abbrev pub after_last : ℕ → Progress → Outcome Graph
after_last k start = refuses AssignmentLine k
after_last k (naming P rows) = judged P rows (complete k)
after_last k (joining g) = complete k g

abbrev pub proceed : {A : Type 0} → Outcome Progress → (Progress → Outcome A) → Outcome A
proceed (Ok s) rest = rest s
proceed (Err refusal) rest = refuses refusal.fault refusal.place

-- The lines ls, of which the first is line k, and a whole text.
unfoldable pub read_entries : ℕ → Progress → List (List ℕ) → Outcome Graph
read_entries k s [] = after_last k s
read_entries k s (l ∷ ls) = proceed (on_assignment_line k s l) (λ t. read_entries (k + 1) t ls)

abbrev pub read_arcs : List ℕ → Outcome Graph
read_arcs text = read_entries 1 start (lines text)

-- The tests before the lines are read, where the four outputs have r, c, w and b numbers: their lengths (9), and the text's (1).
abbrev pub assignment_reader_tests : ℕ → ℕ → ℕ → ℕ → List ℕ → List Test
assignment_reader_tests r c w b text =
    once LentLength (eqb r most_edges && eqb c most_edges && eqb w most_edges && eqb b most_vertices) ∷ once TextLength (text_fits text) ∷ []

-- What the reader yields; and the bounds that it gives the graph's vertices.
unfoldable pub read_assignment : ℕ → ℕ → ℕ → ℕ → List ℕ → Outcome Graph
read_assignment r c w b text = passing (assignment_reader_tests r c w b text) (read_arcs text)

abbrev pub unit_bounds : Graph → List ℤ
unit_bounds g = replicate (vertices g) (pos 1)
