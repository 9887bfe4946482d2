-- What a graph is written as, the assignment reader reads back: the same graph, its edges in the same order.
use Rattle.std.specs.Prelude.{Some, Ok}
use mathlib.Core.Path.{◌≡◌, refl, sym, ap, ap₂, ◌∙◌}
use mathlib.Core.Bool.{Bool, true, false, not, cond}
use mathlib.Core.List.{List, [], ◌∷◌, ◌++◌}
use Prim.Native.Nat.{ℕ, zero, suc, ◌+◌, ◌-◌, ◌^◌, ◌<◌}
use native.Mathlib.Omega.{arith}
use native.Mathlib.Numerals.{add-one}
use lib.Dec.{eqb, lit≤}
use borrow.Author.Tests.{le-leb, lt-ltb, eq-eqb}
use lib.IntN.{ℤ, neg_ℤ, neg_ℤ-neg_ℤ}
use lib.ListN.{length}
use Rattle.integers.specs.Integer.{Within}
use Rattle.integers.proofs.Order.{within-neg}
use Rattle.graph.specs.declared.Kind.{Kind}
use Rattle.graph.specs.declared.Kind.TheVariants.{Bipartite}
use Rattle.graph.specs.declared.Shape.{Shape}
use Rattle.graph.specs.declared.Fault.TheVariants.{Sizes, AssignmentLine, Sources}
use Rattle.graph.specs.Limits.{most_vertices, most_edges, greatest_weight}
use Rattle.graph.specs.Refusal.{Outcome, refuses}
use Rattle.graph.specs.Graph.{Graph, shape_of, row_at, column_at, weight_at, shape_in_range}
use Rattle.graph.specs.Passed.{Passed}
use Rattle.graph.proofs.Passing.{pass}
use Rattle.graph.proofs.Passed.{weight_hold}
use Rattle.layout.specs.Text.{bytes, newline, blank, lines, words, one_word, two_words, three_words, same, begins, blank_line, no_words, line_fits, decimal, signed, spaced}
use Rattle.layout.specs.GraphText.{no_edges, shape_from, graph_edge}
use Rattle.layout.specs.AssignmentText.{problem_line, source_line, source_lines, arc_line, arc_lines, assignment_text, write_assignment}
use Rattle.layout.specs.AssignmentText.{assignment_comment, Entry, problem, source, arc, entry_words, entry_on, Stated, Progress, start, naming, joining}
use Rattle.layout.specs.AssignmentText.{assignment_shape, judged, placed, with_arc, on_arc, on_entry, on_assignment_line, complete, after_last, proceed}
use Rattle.layout.specs.AssignmentText.{read_entries, read_arcs, assignment_reader_tests, read_assignment, unit_bounds}
use Rattle.readback.proofs.Accepted.{Small, small}
use Rattle.readback.proofs.Digits.{decimal-some, signed-some, number_back, signed_back}
use Rattle.readback.proofs.Pieces.{Free, AllWords, all_free_append, lines-unlines, words-spaced, free_spaced, decimal-no_newline}
use Rattle.readback.proofs.Pieces.{decimal-no_blank, signed-no_newline, signed-no_blank}
use Rattle.readback.proofs.Reaches.{Reaches, reaches_append, reaches_all}
use Rattle.readback.proofs.Growing.{growing_free, growing_reaches}
use Rattle.readback.proofs.GraphBack.{first_edges, edges-all, edges-came, edges-to_come, edge_next}
use Rattle.assignments.proofs.Fits.{sources_growing, arcs_growing, problem_line-le, source_line-le, arc_line-le, assignment_text-le}
use Rattle.assignments.proofs.Written.{yields_written, written-unit}

-- ---- a line of an entry

-- A letter other than c, and words after it: the line is no comment, and is read by its words.
module _ (x : ℕ) (v : List ℕ) (ws : List (List ℕ)) (letter : blank x ≡ false) (no-c : eqb x 99 ≡ false) (others : AllWords (v ∷ ws)) where
  abbrev lettered : List ℕ
  lettered = spaced ((x ∷ []) ∷ v ∷ ws)

  lettered_words : words lettered ≡ (x ∷ []) ∷ v ∷ ws
  lettered_words = words-spaced ((x ∷ []) ∷ v ∷ ws) (lit≤ tt, (letter, tt), others)

  lettered_full : blank_line lettered ≡ false
  lettered_full = ap no_words lettered_words

  lettered_plain : assignment_comment lettered ≡ false
  unfolding spaced
  lettered_plain = no-c

  lettered_begins : begins lettered ≡ true
  unfolding spaced
  lettered_begins = ap not letter

  lettered_entry : entry_on lettered ≡ entry_words ((x ∷ []) ∷ v ∷ ws)
  unfolding entry_on
  lettered_entry = rw (lettered_begins, lettered_words)

  line_does : (e : Entry) → line_fits lettered ≡ true → entry_words ((x ∷ []) ∷ v ∷ ws) ≡ Some e → (k : ℕ) (s t : Progress) → on_entry k s (Some e) ≡ Ok t
      → on_assignment_line k s lettered ≡ Ok t
  unfolding on_assignment_line
  line_does e fits is k s t h = rw (fits, lettered_full, lettered_plain, lettered_entry, is) h

-- One such line leads from state to state.
reaches_entry : (s t : Progress) (l : List ℕ) → ((k : ℕ) → on_assignment_line k s l ≡ Ok t) → Reaches read_entries s (l ∷ []) t
unfolding read_entries
reaches_entry s t l h k rest = ap (λ (o : Outcome Progress). proceed o (λ u. read_entries (k + 1) u rest)) (h k)

-- ---- what the words are read as

problem_entry : (nodes arcs : ℕ) → nodes < 10 ^ 9 → arcs < 10 ^ 9
    → entry_words (bytes "p" ∷ bytes "asn" ∷ decimal nodes ∷ decimal arcs ∷ []) ≡ Some (problem nodes arcs)
unfolding same two_words
problem_entry nodes arcs h k = rw (number_back nodes h, number_back arcs k)

source_entry : (v : ℕ) → v < 10 ^ 9 → entry_words (bytes "n" ∷ decimal v ∷ []) ≡ Some (source v)
unfolding same one_word
source_entry v h = rw (number_back v h)

arc_entry : (a b : ℕ) (z : ℤ) → a < 10 ^ 9 → b < 10 ^ 9 → Within greatest_weight z
    → entry_words (bytes "a" ∷ decimal a ∷ decimal b ∷ signed z ∷ []) ≡ Some (arc a b z)
unfolding same three_words
arc_entry a b z h k w = rw (number_back a h, number_back b k, signed_back z w)

module _ {g : Graph} (P : Passed g) (kind : g.kind ≡ Bipartite) where
  S : Small g
  S = small g P.sound

  -- ---- the problem line and the source lines

  abbrev stated : Stated
  stated = record { line = 1; nodes = g.rows + g.columns; arcs = g.edges }

  problem_step : on_assignment_line 1 start (problem_line g) ≡ Ok (naming stated 0)
  problem_step =
      line_does 112 (bytes "asn") (decimal (g.rows + g.columns) ∷ decimal g.edges ∷ []) refl refl (
        lit≤ tt,
        (refl, (refl, (refl, tt))),
        (decimal-some (g.rows + g.columns), decimal-no_blank (g.rows + g.columns), (decimal-some g.edges, decimal-no_blank g.edges, tt)),
      )
      (problem (g.rows + g.columns) g.edges)
      (le-leb (length (problem_line g)) 1024 (omega (arith, problem_line-le P)))
      (problem_entry (g.rows + g.columns) g.edges (omega (arith, S.rows_small, S.columns_small)) (omega (arith, S.edges_few)))
      1 start (naming stated 0) refl

  source_step : (n : ℕ) → n < g.rows → (k : ℕ) → on_assignment_line k (naming stated n) (source_line n) ≡ Ok (naming stated (suc n))
  source_step n l k =
      line_does 110 (decimal (n + 1)) [] refl refl (decimal-some (n + 1), decimal-no_blank (n + 1), tt) (source (n + 1))
      (le-leb (length (source_line n)) 1024 (omega (arith, source_line-le P n l))) (source_entry (n + 1) (omega (arith, S.rows_small)))
      k (naming stated n) (naming stated (suc n))
      (ap (λ (t : Bool). cond t (Ok (naming stated (n + 1))) (refuses Sources k)) (eq-eqb (n + 1) (n + 1) refl)
      ∙ ap (λ (m : ℕ). Ok (naming stated m)) (add-one n))

  sources_read : Reaches read_entries (naming stated 0) (source_lines g.rows) (naming stated g.rows)
  sources_read =
      growing_reaches sources_growing read_entries g.rows (naming stated)
      (λ n l. reaches_entry (naming stated n) (naming stated (suc n)) (source_line n) (source_step n l)) g.rows (omega arith)

  -- ---- the sizes

  -- The columns are the nodes left over.
  shape_back : assignment_shape stated g.rows ≡ shape_of g
  shape_back =
      let c : g.rows + g.columns - g.rows ≡ g.columns = omega arith in
      ap₂ (λ (k : Kind) (n : ℕ). shape_from k (g.rows, n, g.edges)) (sym kind) c

  judged-back : {A : Type 0} (rest : Graph → Outcome A) → judged stated g.rows rest ≡ rest (first_edges g 0)
  judged-back rest =
      ap (λ (s : Shape). cond (shape_in_range s) (rest (no_edges s)) (refuses Sizes 1)) shape_back
      ∙ ap (λ (t : Bool). cond t (rest (no_edges (shape_of g))) (refuses Sizes 1)) P.sound.sizes.test

  -- ---- the arcs

  -- How far reading is after the first n arcs.
  abbrev arcs_read : ℕ → Progress
  arcs_read zero = naming stated g.rows
  arcs_read (suc n) = joining (first_edges g (suc n))

  arc_does : (k n a b : ℕ) (z : ℤ) → n < g.edges → on_arc k (arcs_read n) a b z ≡ with_arc k (first_edges g n) a b z
  arc_does k zero a b z l =
      ap (λ (t : Bool). cond t (judged stated g.rows (λ h. with_arc k h a b z)) (refuses AssignmentLine k)) (lt-ltb 0 g.edges l)
      ∙ judged-back (λ h. with_arc k h a b z)
  arc_does k (suc n) a b z l =
      ap (λ (t : Bool). cond t (with_arc k (first_edges g (suc n)) a b z) (refuses AssignmentLine k)) (edges-to_come P (suc n) l)

  module _ (n : ℕ) (l : n < g.edges) where
    -- Its target less the rows is the column, and its cost negated is the weight.
    arc_placed : (k : ℕ) → with_arc k (first_edges g n) (row_at g n) (g.rows + column_at g n) (neg_ℤ (weight_at g n)) ≡ Ok (arcs_read (suc n))
    arc_placed k =
        let c : g.rows + column_at g n - g.rows ≡ column_at g n = omega arith in
        ap₂ (λ (c : ℕ) (w : ℤ). placed k (graph_edge (first_edges g n) (Some (row_at g n, c, w)))) c (neg_ℤ-neg_ℤ (weight_at g n))
        ∙ ap (placed k) (edge_next P n l)

    arc_step : (k : ℕ) → on_assignment_line k (arcs_read n) (arc_line g n) ≡ Ok (arcs_read (suc n))
    arc_step k =
        let a = row_at g n in
        let b = g.rows + column_at g n in
        let z = neg_ℤ (weight_at g n) in
        line_does 97 (decimal a) (decimal b ∷ signed z ∷ []) refl refl
        (decimal-some a, decimal-no_blank a, (decimal-some b, decimal-no_blank b, (signed-some z, signed-no_blank z, tt)))
        (arc a b z)
        (le-leb (length (arc_line g n)) 1024 (omega (arith, arc_line-le P n l)))
        (arc_entry a b z (omega (arith, S.row_small n l)) (omega (arith, S.rows_small, S.column_small n l))
        (within-neg (weight_at g n) (weight_hold (weight_at g n) (P.weights n l))))
        k (arcs_read n) (arcs_read (suc n)) (arc_does k n a b z l ∙ arc_placed k)

  arcs-read : Reaches read_entries (naming stated g.rows) (arc_lines g g.edges) (arcs_read g.edges)
  arcs-read =
      growing_reaches (arcs_growing g) read_entries g.edges arcs_read
      (λ n l. reaches_entry (arcs_read n) (arcs_read (suc n)) (arc_line g n) (arc_step n l)) g.edges (omega arith)

  -- ---- the whole text

  at_last : (k n : ℕ) → after_last k (arcs_read n) ≡ complete k (first_edges g n)
  at_last k zero = judged-back (complete k)
  at_last k (suc n) = refl

  all_came : (k : ℕ) → read_entries k (arcs_read g.edges) [] ≡ Ok g
  unfolding read_entries
  all_came k =
      at_last k g.edges
      ∙ ap (λ (t : Bool). cond t (refuses AssignmentLine k) (Ok (first_edges g g.edges))) (edges-came P)
      ∙ ap Ok (edges-all P)

  abbrev later_lines : List (List ℕ)
  later_lines = source_lines g.rows ++ arc_lines g g.edges

  later_read : read_entries 2 (naming stated 0) later_lines ≡ Ok g
  later_read =
      reaches_all read_entries (naming stated 0) (arcs_read g.edges) later_lines
      (reaches_append read_entries (naming stated 0) (naming stated g.rows) (arcs_read g.edges) (source_lines g.rows) (arc_lines g g.edges)
      sources_read arcs-read) 2
      ∙ all_came (2 + length later_lines)

  all_read : read_entries 1 start (problem_line g ∷ later_lines) ≡ Ok g
  unfolding read_entries
  all_read = ap (λ (o : Outcome Progress). proceed o (λ t. read_entries 2 t later_lines)) problem_step ∙ later_read

  lines-of_text : lines (assignment_text g) ≡ problem_line g ∷ later_lines
  unfolding assignment_text
  lines-of_text =
      lines-unlines (problem_line g ∷ later_lines) (
        free_spaced newline (bytes "p" ∷ bytes "asn" ∷ decimal (g.rows + g.columns) ∷ decimal g.edges ∷ []) refl
            ((refl, tt), ((refl, (refl, (refl, tt))), (decimal-no_newline (g.rows + g.columns), (decimal-no_newline g.edges, tt)))),
        all_free_append newline (source_lines g.rows) (arc_lines g g.edges)
            (growing_free sources_growing (λ n. (source_free n, tt)) g.rows) (growing_free (arcs_growing g) (λ n. (arc_free n, tt)) g.edges),
      )
    where
      source_free : (n : ℕ) → Free newline (source_line n)
      source_free n = free_spaced newline (bytes "n" ∷ decimal (n + 1) ∷ []) refl ((refl, tt), (decimal-no_newline (n + 1), tt))

      arc_free : (n : ℕ) → Free newline (arc_line g n)
      arc_free n =
          free_spaced newline (bytes "a" ∷ decimal (row_at g n) ∷ decimal (g.rows + column_at g n) ∷ signed (neg_ℤ (weight_at g n)) ∷ []) refl (
            (refl, tt),
            (decimal-no_newline (row_at g n), (decimal-no_newline (g.rows + column_at g n), (signed-no_newline (neg_ℤ (weight_at g n)), tt))),
          )

  -- The text of a bipartite graph that has passed reads as that graph.
  pub assignment_back : read_assignment most_edges most_edges most_edges most_vertices (assignment_text g) ≡ Ok g
  unfolding read_assignment
  assignment_back =
      pass (assignment_reader_tests most_edges most_edges most_edges most_vertices (assignment_text g))
      (λ k l. refl, (λ k l. le-leb (length (assignment_text g)) 32768 (omega (arith, assignment_text-le P)), tt))
      (read_arcs (assignment_text g))
      ∙ ap (read_entries 1 start) lines-of_text
      ∙ all_read

-- ---- what the call yields

-- A graph that is written reads back as itself, and its bounds are those that reading gives.
pub written_back : (g : Graph) (bound : List ℤ) (n : ℕ) (text : List ℕ) → write_assignment g bound n ≡ Ok text
    → (read_assignment most_edges most_edges most_edges most_vertices text ≡ Ok g) × (bound ≡ unit_bounds g)
written_back g bound n text e =
    let W = yields_written g bound n text e in
    (ap (read_assignment most_edges most_edges most_edges most_vertices) (sym W.is) ∙ assignment_back W.passed W.kind, written-unit W)
