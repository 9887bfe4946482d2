-- The assignment text of a graph that has passed fits: each line is short, and the whole has at most 20,239 bytes.
use mathlib.Core.Path.{◌≡◌, refl, ap, ◌∙◌}
use mathlib.Core.List.{List, [], ◌∷◌, ◌++◌}
use Prim.Native.Nat.{ℕ, ◌+◌, ◌*◌, ◌≤◌, ◌<◌}
use native.Mathlib.Omega.{arith}
use lib.Dec.{lit≤}
use lib.IntN.{neg_ℤ}
use lib.ListN.{length, length-append}
use Rattle.integers.proofs.Order.{within-neg}
use Rattle.graph.specs.Limits.{greatest_weight}
use Rattle.graph.specs.Graph.{Graph, row_at, column_at, weight_at}
use Rattle.graph.specs.Passed.{Passed}
use Rattle.graph.proofs.Passed.{weight_hold}
use Rattle.layout.specs.Text.{bytes, decimal, signed, spaced, unlines}
use Rattle.layout.specs.AssignmentText.{problem_line, source_line, source_lines, arc_line, arc_lines, assignment_text}
use Rattle.readback.proofs.Accepted.{small}
use Rattle.readback.proofs.Digits.{decimal-few, signed-few}
use Rattle.readback.proofs.Pieces.{unlines-append, length-line, length-no_line}
use Rattle.readback.proofs.Fits.{length_two, length_three}
use Rattle.readback.proofs.Growing.{Growing, growing_le}

-- ---- the lines grow item by item

pub sources_growing : Growing (λ v. source_line v ∷ []) source_lines
unfolding source_lines
sources_growing = record { start = refl; step = λ n. refl }

pub arcs_growing : (g : Graph) → Growing (λ e. arc_line g e ∷ []) (arc_lines g)
unfolding arc_lines
arcs_growing g = record { start = refl; step = λ n. refl }

-- The whole text: the problem line, the source lines, the arc lines.
pub assignment_parts : (g : Graph)
    → assignment_text g ≡ unlines (problem_line g ∷ []) ++ (unlines (source_lines g.rows) ++ unlines (arc_lines g g.edges))
unfolding assignment_text
assignment_parts g =
    unlines-append (problem_line g ∷ []) (source_lines g.rows ++ arc_lines g g.edges)
    ∙ ap (λ (l : List ℕ). unlines (problem_line g ∷ []) ++ l) (unlines-append (source_lines g.rows) (arc_lines g g.edges))

-- ---- each line

length-four : (t u v w : List ℕ) → length (spaced (t ∷ u ∷ v ∷ w ∷ [])) ≡ length t + 1 + length u + 1 + length v + 1 + length w
unfolding spaced
length-four t u v w =
    let e : length (t ++ (32 ∷ spaced (u ∷ v ∷ w ∷ []))) ≡ length t + length (32 ∷ spaced (u ∷ v ∷ w ∷ [])) = length-append t (32 ∷ spaced (u ∷ v ∷ w ∷ [])) in
    omega (arith, length_three u v w)

-- A node has at most three digits.
node_few : (n : ℕ) → n ≤ 256 → length (decimal n) ≤ 3
node_few n h = decimal-few 2 n (omega arith)

-- The line of one of 128 source nodes, and with byte 10 after it.
pub source_few : (v : ℕ) → v < 128 → length (source_line v) ≤ 5
source_few v l = omega (arith, length_two (bytes "n") (decimal (v + 1)), node_few (v + 1) (omega arith))

pub source_text_few : (v : ℕ) → v < 128 → length (unlines (source_line v ∷ [])) ≤ 6
source_text_few v l = omega (arith, length-line (source_line v) [], length-no_line, source_few v l)

module _ {g : Graph} (P : Passed g) where
  pub problem_line-le : length (problem_line g) ≤ 14
  problem_line-le =
      let s = small g P.sound in
      omega (
        arith,
        length-four (bytes "p") (bytes "asn") (decimal (g.rows + g.columns)) (decimal g.edges),
        node_few (g.rows + g.columns) (omega (arith, s.rows_small, s.columns_small)),
        decimal-few 3 g.edges (omega (arith, s.edges_few)),
      )

  pub source_line-le : (v : ℕ) → v < g.rows → length (source_line v) ≤ 5
  source_line-le v l = source_few v (omega (arith, (small g P.sound).rows_small))

  -- The cost has seven digits and its sign.
  pub arc_line-le : (e : ℕ) → e < g.edges → length (arc_line g e) ≤ 18
  arc_line-le e l =
      let s = small g P.sound in
      let cost = within-neg (weight_at g e) (weight_hold (weight_at g e) (P.weights e l)) in
      omega (
        arith,
        length-four (bytes "a") (decimal (row_at g e)) (decimal (g.rows + column_at g e)) (signed (neg_ℤ (weight_at g e))),
        node_few (row_at g e) (omega (arith, s.row_small e l)),
        node_few (g.rows + column_at g e) (omega (arith, s.rows_small, s.column_small e l)),
        signed-few 6 greatest_weight (neg_ℤ (weight_at g e)) (lit≤ tt) cost,
      )

  -- ---- with byte 10 after each

  pub problem_text_le : length (unlines (problem_line g ∷ [])) ≤ 15
  problem_text_le = omega (arith, length-line (problem_line g) [], length-no_line, problem_line-le)

  pub source_text_le : (v : ℕ) → v < g.rows → length (unlines (source_line v ∷ [])) ≤ 6
  source_text_le v l = source_text_few v (omega (arith, (small g P.sound).rows_small))

  pub arc_text_le : (e : ℕ) → e < g.edges → length (unlines (arc_line g e ∷ [])) ≤ 19
  arc_text_le e l = omega (arith, length-line (arc_line g e) [], length-no_line, arc_line-le e l)

  pub sources_le : (n : ℕ) → n ≤ g.rows → length (unlines (source_lines n)) ≤ n * 6
  sources_le = growing_le sources_growing g.rows 6 source_text_le

  pub arcs_le : (n : ℕ) → n ≤ g.edges → length (unlines (arc_lines g n)) ≤ n * 19
  arcs_le = growing_le (arcs_growing g) g.edges 19 arc_text_le

  -- ---- the whole

  pub assignment_text-le : length (assignment_text g) ≤ 20239
  assignment_text-le =
      let s = small g P.sound in
      let front = unlines (problem_line g ∷ []) in
      let sources = unlines (source_lines g.rows) in
      let arcs = unlines (arc_lines g g.edges) in
      omega (
        arith,
        ap length (assignment_parts g),
        length-append front (sources ++ arcs),
        length-append sources arcs,
        problem_text_le,
        sources_le g.rows (omega arith),
        arcs_le g.edges (omega arith),
        s.rows_small,
        s.edges_few,
      )
