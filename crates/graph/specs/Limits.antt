-- The ranges and lengths of documents 01 and 02, each once. The code's constants of these names are the same numbers.
use Rattle.std.specs.Prelude.{ℕ, ◌+◌, ◌*◌}

-- At most 64 rows and as many columns in a bipartite graph (dams and sires), and at most 128 vertices in any (families).
abbrev pub most_side : ℕ
most_side = 64

abbrev pub most_vertices : ℕ
most_vertices = 128

-- At most 1,024 edges (pairs), and so at most 1,152 numbers in a text: one for each vertex and edge. A text by the old rules has at most as many.
abbrev pub most_edges : ℕ
most_edges = 1024

abbrev pub most_numbers : ℕ
most_numbers = most_vertices + most_edges

abbrev pub most_old_numbers : ℕ
most_old_numbers = most_vertices + most_edges

-- At most 512 edges in a graph that is doubled (request U8), so that the doubled graph has at most 1,024.
abbrev pub most_doubled_edges : ℕ
most_doubled_edges = 512

-- A weight (merit) is from -1,000,000 to 1,000,000 points, a bound (limit) from 0 to 64, and a price from 0 to 4,000,000 half points; the solver's prices
-- are to 2,000,000 half points, and the prices of texts by the old rules, in points, to 2,000,000 (request U5).
abbrev pub greatest_weight : ℕ
greatest_weight = 1000000

abbrev pub greatest_bound : ℕ
greatest_bound = 64

abbrev pub greatest_price : ℕ
greatest_price = 4000000

abbrev pub greatest_solver_price : ℕ
greatest_solver_price = 2000000

abbrev pub greatest_old_price : ℕ
greatest_old_price = 2000000

-- At most 16 odd sets (groups). A set has words of 64 bits: 2 for vertices and 16 for edges.
abbrev pub most_sets : ℕ
most_sets = 16

abbrev pub word_bits : ℕ
word_bits = 64

abbrev pub vertex_words : ℕ
vertex_words = 2

abbrev pub edge_words : ℕ
edge_words = 16

-- A text has at most 32,768 bytes, and a line at most 1,024 before its byte 10.
abbrev pub longest_text : ℕ
longest_text = 32768

abbrev pub longest_line : ℕ
longest_line = 1024

-- A subgraph's text (a plan's) goes to 16,384 bytes, and the workspace (scratch) has 4,096 numbers.
abbrev pub subgraph_bytes : ℕ
subgraph_bytes = 16384

abbrev pub workspace_numbers : ℕ
workspace_numbers = 4096

-- An index has an offset for each vertex and one more, and each edge's number twice: at most 2,177 numbers.
abbrev pub most_index : ℕ
most_index = most_vertices + 1 + 2 * most_edges
