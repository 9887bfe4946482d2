-- The graph (sheet): its vertices (fish), edges (pairs) and weights (merits), and the bounds (limits) of its vertices.
use Rattle.std.specs.Prelude.{ℕ, zero, suc, ◌+◌, ◌-◌, Bool, false, not, ◌&&◌, ◌||◌, List, leb, ltb, eqb, ℤ, pos, neg_ℤ, get_or}
use Rattle.integers.specs.Integer.{between}
use Rattle.graph.specs.declared.Kind.{Kind}
use Rattle.graph.specs.declared.Kind.TheVariants.{Bipartite, General}
use Rattle.graph.specs.declared.Shape.{Shape}
use Rattle.graph.specs.Limits.{most_side, most_vertices, most_edges, greatest_weight, greatest_bound, greatest_price}

-- A graph as it is read or lent: its kind, rows, columns and number of edges, and for each edge its row, column and weight as in the text.
-- Edges and vertices count from 0 here, and rows, columns and places from 1, as in the text.
pub record Graph : Type 0 where
  pub kind : Kind
  pub rows : ℕ
  pub columns : ℕ
  pub edges : ℕ
  pub row : List ℕ
  pub column : List ℕ
  pub weight : List ℤ

-- The graph of a shape, which is its kind, rows, columns and number of edges, with these rows, columns and weights; and a graph's shape.
abbrev pub graph_of : Shape → List ℕ → List ℕ → List ℤ → Graph
graph_of s row column weight = record {
  kind = s.kind;
  rows = s.rows;
  columns = s.columns;
  edges = s.edges;
  row = row;
  column = column;
  weight = weight;
}

abbrev pub shape_of : Graph → Shape
shape_of g = record { kind = g.kind; rows = g.rows; columns = g.columns; edges = g.edges }

-- n, the number of vertices: rows and columns, or rows where the graph is general.
abbrev pub vertices_of : Kind → ℕ → ℕ → ℕ
vertices_of Bipartite rows columns = rows + columns
vertices_of General rows columns = rows

abbrev pub vertices : Graph → ℕ
vertices g = vertices_of g.kind g.rows g.columns

-- Row, column and weight of edge e.
abbrev pub row_at : Graph → ℕ → ℕ
row_at g e = get_or g.row e 0

abbrev pub column_at : Graph → ℕ → ℕ
column_at g e = get_or g.column e 0

abbrev pub weight_at : Graph → ℕ → ℤ
weight_at g e = get_or g.weight e (pos 0)

-- The vertex of a column: the columns of a bipartite graph come after its rows.
abbrev pub column_vertex : Kind → ℕ → ℕ → ℕ
column_vertex Bipartite rows c = rows + (c - 1)
column_vertex General rows c = c - 1

-- The two ends of edge e, as vertices.
abbrev pub first_end : Graph → ℕ → ℕ
first_end g e = row_at g e - 1

abbrev pub second_end : Graph → ℕ → ℕ
second_end g e = column_vertex g.kind g.rows (column_at g e)

-- From 1 to n.
abbrev pub up_to : ℕ → ℕ → Bool
up_to n x = leb 1 x && leb x n

-- Sizes in range: 1 to 64 rows and columns, or 1 to 128 rows and as many columns, and at most 1,024 edges.
abbrev pub sizes_in_range : Kind → ℕ → ℕ → ℕ → Bool
sizes_in_range Bipartite rows columns edges = up_to most_side rows && up_to most_side columns && leb edges most_edges
sizes_in_range General rows columns edges = up_to most_vertices rows && eqb columns rows && leb edges most_edges

-- The same of a shape: its vertices, and whether its sizes are in range.
abbrev pub vertices_in : Shape → ℕ
vertices_in s = vertices_of s.kind s.rows s.columns

abbrev pub shape_in_range : Shape → Bool
shape_in_range s = sizes_in_range s.kind s.rows s.columns s.edges

-- Ends in range and on the right side: in a general graph the first end's number is the greater.
abbrev pub ends_in_range : Kind → ℕ → ℕ → ℕ → ℕ → Bool
ends_in_range Bipartite rows columns r c = up_to rows r && up_to columns c
ends_in_range General rows columns r c = up_to rows r && up_to columns c && ltb c r

-- A weight is from -1,000,000 to 1,000,000.
abbrev pub weight_in_range : ℤ → Bool
weight_in_range z = between (neg_ℤ (pos greatest_weight)) (pos greatest_weight) z

-- Edge e has row r and column c.
abbrev pub joins : Graph → ℕ → ℕ → ℕ → Bool
joins g r c e = eqb (row_at g e) r && eqb (column_at g e) c

-- One of the items 0 .. n - 1 has the property.
abbrev pub some? : ℕ → (ℕ → Bool) → Bool
some? zero has = false
some? (suc n) has = some? n has || has n

-- Each of them has it.
abbrev pub every : ℕ → (ℕ → Bool) → Bool
every n has = not (some? n (λ k. not (has k)))

-- One of the first n edges has row r and column c.
abbrev pub joined : Graph → ℕ → ℕ → ℕ → Bool
joined g n r c = some? n (joins g r c)

-- A bound is from 0 to 64.
abbrev pub bound_in_range : ℤ → Bool
bound_in_range z = between (pos 0) (pos greatest_bound) z

-- A bound is 1, as each is where a graph goes out as an assignment text (request U7).
abbrev pub bound_is_one : ℤ → Bool
bound_is_one z = between (pos 1) (pos 1) z

-- A price is from 0 to 4,000,000 half points.
abbrev pub price_in_range : ℤ → Bool
price_in_range z = between (pos 0) (pos greatest_price) z

-- The bound of vertex v.
abbrev pub bound_at : List ℤ → ℕ → ℤ
bound_at bound v = get_or bound v (pos 0)
