-- The texts that are written fit: each line is short, and the whole has at most 8,256 bytes for a subgraph, and 17,472 for a graph.
use Rattle.std.specs.Prelude.{Ok}
use mathlib.Core.Path.{◌≡◌, refl, ap}
use mathlib.Core.Bool.{Bool, true, false, cond}
use mathlib.Core.List.{List, [], ◌∷◌, ◌++◌}
use Prim.Native.Nat.{ℕ, ◌+◌, ◌*◌, ◌≤◌, ◌<◌}
use native.Mathlib.Omega.{arith}
use lib.Dec.{eqb, lit≤}
use lib.ListN.{length, length-append}
use Rattle.integers.specs.Sum.{sum}
use Rattle.integers.proofs.Sum.{sum_mono, sum-const}
use Rattle.graph.specs.declared.Kind.{Kind}
use Rattle.graph.specs.declared.Kind.TheVariants.{Bipartite, General}
use Rattle.graph.specs.Limits.{greatest_weight, subgraph_bytes}
use Rattle.graph.specs.Graph.{Graph, shape_of, row_at, column_at, weight_at}
use Rattle.graph.specs.Subgraph.{mark_at}
use Rattle.graph.specs.Passed.{Sound, Passed, MarksHold}
use Rattle.graph.proofs.Passed.{weight_hold}
use Rattle.layout.specs.declared.Field.{Field}
use Rattle.layout.specs.declared.Field.TheVariants as Field
use Rattle.layout.specs.Text.{decimal, signed, spaced, unlines}
use Rattle.layout.specs.GraphText.{header_text, edge_line, edge_lines, graph_text}
use Rattle.layout.specs.SubgraphText.{chosen_lines, subgraph_text, write_subgraph}
use Rattle.readback.proofs.Accepted.{Small, small, accepted, text_is}
use Rattle.readback.proofs.Digits.{decimal-few, signed-few}
use Rattle.readback.proofs.Pieces.{length-line, length-no_line}
use Rattle.readback.proofs.Growing.{Growing, growing_le}

-- ---- the number of chosen edges

-- At most one for each edge.
pub count_le : {m : ℕ} {x : List ℕ} → MarksHold m x → sum m (mark_at x) ≤ m
count_le {m} {x} M = omega (arith, sum_mono m (mark_at x) (λ e. 1) M.each, sum-const m 1)

-- ---- the lines

pub length_two : (u v : List ℕ) → length (spaced (u ∷ v ∷ [])) ≡ length u + 1 + length v
unfolding spaced
length_two u v = let e : length (u ++ (32 ∷ v)) ≡ length u + length (32 ∷ v) = length-append u (32 ∷ v) in omega arith

pub length_three : (u v w : List ℕ) → length (spaced (u ∷ v ∷ w ∷ [])) ≡ length u + 1 + length v + 1 + length w
unfolding spaced
length_three u v w =
    let e : length (u ++ (32 ∷ (v ++ (32 ∷ w)))) ≡ length u + length (32 ∷ (v ++ (32 ∷ w))) = length-append u (32 ∷ (v ++ (32 ∷ w))) in
    let f : length (v ++ (32 ∷ w)) ≡ length v + length (32 ∷ w) = length-append v (32 ∷ w) in
    omega arith

three_digits : (n : ℕ) → n ≤ 128 → length (decimal n) ≤ 3
three_digits n h = decimal-few 2 n (omega arith)

four_digits : (n : ℕ) → n ≤ 1024 → length (decimal n) ≤ 4
four_digits n h = decimal-few 3 n (omega arith)

-- The line of an edge, and the size line.
pub edge_line-le : (r c : ℕ) → r ≤ 128 → c ≤ 128 → length (spaced (decimal r ∷ decimal c ∷ [])) ≤ 7
edge_line-le r c h k = omega (arith, length_two (decimal r) (decimal c), three_digits r h, three_digits c k)

pub size_line_le : (r c n : ℕ) → r ≤ 128 → c ≤ 128 → n ≤ 1024 → length (spaced (decimal r ∷ decimal c ∷ decimal n ∷ [])) ≤ 12
size_line_le r c n h k l =
    omega (arith, length_three (decimal r) (decimal c) (decimal n), three_digits r h, three_digits c k, four_digits n l)

pub header-le : (f : Field) (k : Kind) → length (header_text f k) ≤ 50
header-le Field.Integer Bipartite = lit≤ tt
header-le Field.Integer General = lit≤ tt
header-le Field.Pattern Bipartite = lit≤ tt
header-le Field.Pattern General = lit≤ tt

-- ---- the text

-- The lines of one edge: one if it is chosen.
abbrev pub lines_at : Graph → List ℕ → ℕ → List (List ℕ)
lines_at g x n = cond (eqb (mark_at x n) 1) (spaced (decimal (row_at g n) ∷ decimal (column_at g n) ∷ []) ∷ []) []

pub chosen_growing : (g : Graph) (x : List ℕ) → Growing (lines_at g x) (chosen_lines g x)
unfolding chosen_lines
chosen_growing g x = record { start = refl; step = λ n. refl }

module _ {g : Graph} (x : List ℕ) (s : Small g) where
  pub line_le : (n : ℕ) → n < g.edges → length (unlines (lines_at g x n)) ≤ 8
  line_le n l = go (eqb (mark_at x n) 1)
    where
      go : (b : Bool) → length (unlines (cond b (spaced (decimal (row_at g n) ∷ decimal (column_at g n) ∷ []) ∷ []) [])) ≤ 8
      go true =
          omega (
            arith,
            length-line (spaced (decimal (row_at g n) ∷ decimal (column_at g n) ∷ [])) [],
            length-no_line,
            edge_line-le (row_at g n) (column_at g n) (s.row_small n l) (s.column_small n l),
          )
      go false = omega (arith, length-no_line)

  pub chosen_le : (n : ℕ) → n ≤ g.edges → length (unlines (chosen_lines g x n)) ≤ n * 8
  chosen_le n l = growing_le (chosen_growing g x) g.edges 8 line_le n l

pub text_le : (g : Graph) (x : List ℕ) → Sound (shape_of g) g.row g.column → MarksHold g.edges x → length (subgraph_text g x) ≤ 8256
unfolding subgraph_text
text_le g x S M =
    let s : Small g = small g S in
    omega (
      arith,
      length-line (header_text Field.Pattern g.kind)
          (spaced (decimal g.rows ∷ decimal g.columns ∷ decimal (sum g.edges (mark_at x)) ∷ []) ∷ chosen_lines g x g.edges),
      length-line (spaced (decimal g.rows ∷ decimal g.columns ∷ decimal (sum g.edges (mark_at x)) ∷ [])) (chosen_lines g x g.edges),
      header-le Field.Pattern g.kind,
      size_line_le g.rows g.columns (sum g.edges (mark_at x)) s.rows_small s.columns_small (omega (arith, s.edges_few, count_le M)),
      chosen_le x s g.edges (omega arith),
      s.edges_few,
    )

-- A text that is yielded fits the 16,384 bytes of the output, and so the 32,768 that a reader takes.
pub text-fits : (g : Graph) (x : List ℕ) (n : ℕ) (text : List ℕ) → write_subgraph g x n ≡ Ok text → length text ≤ subgraph_bytes
text-fits g x n text h =
    let a = accepted g x n text h in
    omega (arith, text_le g x a.passed.sound a.marks, ap length (text_is g x n text h))

-- ---- the text of a graph

pub lines-growing : (g : Graph) → Growing (λ n. edge_line g n ∷ []) (edge_lines g)
unfolding edge_lines
lines-growing g = record { start = refl; step = λ n. refl }

module _ {g : Graph} (P : Passed g) where
  -- The line of an edge has at most 16 bytes: two indices of three digits, and a weight of seven and its sign.
  pub graph_line_le : (n : ℕ) → n < g.edges → length (edge_line g n) ≤ 16
  graph_line_le n l =
      let s = small g P.sound in
      omega (
        arith,
        length_three (decimal (row_at g n)) (decimal (column_at g n)) (signed (weight_at g n)),
        three_digits (row_at g n) (s.row_small n l),
        three_digits (column_at g n) (s.column_small n l),
        signed-few 6 greatest_weight (weight_at g n) (lit≤ tt) (weight_hold (weight_at g n) (P.weights n l)),
      )

  pub graph_lines_le : (n : ℕ) → n ≤ g.edges → length (unlines (edge_lines g n)) ≤ n * 17
  graph_lines_le =
      growing_le (lines-growing g) g.edges 17 (λ n l. omega (arith, length-line (edge_line g n) [], length-no_line, graph_line_le n l))

  -- The whole text has at most 17,472 bytes, and so a reader takes it.
  pub graph_text-le : length (graph_text g) ≤ 17472
  unfolding graph_text
  graph_text-le =
      let s = small g P.sound in
      let sizes = spaced (decimal g.rows ∷ decimal g.columns ∷ decimal g.edges ∷ []) in
      omega (
        arith,
        length-line (header_text Field.Integer g.kind) (sizes ∷ edge_lines g g.edges),
        length-line sizes (edge_lines g g.edges),
        header-le Field.Integer g.kind,
        size_line_le g.rows g.columns g.edges s.rows_small s.columns_small s.edges_few,
        graph_lines_le g.edges (omega arith),
        s.edges_few,
      )
