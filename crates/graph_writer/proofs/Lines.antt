-- What `put_weighted_edge` and `put_graph` write: the line of an edge part by part, and the lines of the edges after the header and the size line.
use mathlib.Core.Path.{◌≡◌, sym, ap, ◌∙◌}
use mathlib.Core.List.{List, [], ◌∷◌, ◌++◌}
use Prim.Native.Nat.{ℕ, ◌+◌, ◌≤◌, ◌<◌}
use native.Mathlib.Omega.{arith}
use lib.IntN.{ℤ, pos}
use lib.ListN.{length, get_or, length-append, length-map}
use Rattle.graph.specs.declared.Shape.{Shape}
use Rattle.graph.specs.Limits.{longest_text}
use Rattle.graph.specs.Graph.{Graph, graph_of, row_at, column_at, weight_at}
use Rattle.layout.specs.declared.Field.TheVariants as Field
use Rattle.layout.specs.Text.{decimal, signed, spaced, unlines}
use Rattle.layout.specs.GraphText.{edge_line, edge_lines, graph_text}
use Rattle.layout.specs.TidyText.{graph_in_order}
use Rattle.readback.proofs.Pieces.{unlines-append, length-line, length-no_line}
use Rattle.readback.proofs.Growing.{growing_none, growing_next}
use Rattle.readback.proofs.Fits.{lines-growing, graph_line_le, graph_text-le}
use Rattle.tidying.proofs.Tidied.{map_at}
use Rattle.digits.specs.declared.Writer.{Writer}
use Rattle.digits.specs.Appends.{Appends}
use Rattle.digits.proofs.Appending.{appends_next, appends_then, appends_same}
use Rattle.digits.proofs.Parts.{blanked}
use Rattle.writer.specs.Written.{head_lines}
use Rattle.writer.proofs.Lines.{head-le}
use Rattle.graph_writer.specs.Order.{Ordered}
use Rattle.writer.proofs.Writing.{Writing, writing_starts, writing_room, writing_more, writing_ends}

-- ---- the line of an edge

line_is : (r c : ℕ) (z : ℤ) → (((decimal r ++ (32 ∷ [])) ++ (decimal c ++ (32 ∷ []))) ++ signed z) ++ (10 ∷ [])
    ≡ unlines (spaced (decimal r ∷ decimal c ∷ signed z ∷ []) ∷ [])
unfolding unlines
line_is r c z = ap (λ (l : List ℕ). l ++ (10 ∷ [])) (blanked (decimal r) (decimal c) (signed z))

pub line_appends : {w v u t x : Writer} (r c : ℕ) (z : ℤ) {r' c' : ℕ} → w.at + 64 ≤ length w.out.now → r' ≡ r → c' ≡ c
    → Appends w (decimal r' ++ (32 ∷ [])) v → v.at ≤ w.at + 21 → Appends v (decimal c' ++ (32 ∷ [])) u → u.at ≤ v.at + 21
    → Appends u (signed z) t → t.at ≤ u.at + 21 → Appends t (10 ∷ []) x
    → Appends w (unlines (spaced (decimal r ∷ decimal c ∷ signed z ∷ []) ∷ [])) x
line_appends r c z room e f a i b j d k n =
    let ends = appends_next (rw e at a) (rw f at b) (omega arith) in
    appends_same (appends_next (appends_next ends d (omega arith)) n (omega (arith, n.puts.place))) (line_is r c z)

-- ---- the loop over the edges

-- The lines of the first n edges of the order. They do not depend on the shape.
abbrev pub text_for : List ℕ → List ℕ → List ℤ → List ℕ → Shape → ℕ → List ℕ
text_for row column weight order s n = unlines (edge_lines (graph_in_order (graph_of s row column weight) order) n)

-- They have been written by the writer w, which is now v.
abbrev pub EdgesWriting : List ℕ → List ℕ → List ℤ → List ℕ → Writer → Writer → ℕ → Type 0
EdgesWriting row column weight order = Writing (text_for row column weight order) (length order) 17 64

module _ {s : Shape} {row column : List ℕ} {weight : List ℤ} {order : List ℕ} (O : Ordered (graph_of s row column weight) order) where
  abbrev G : Graph
  G = graph_of s row column weight

  abbrev H : Graph
  H = graph_in_order G order

  order_long : length order ≡ s.edges
  order_long = sym (length-map order (row_at G)) ∙ O.ordered.sound.row_long

  order_few : length order ≤ 1024
  order_few = omega (arith, order_long, O.passed.sound.sizes.few)

  pub edges-start : (w : Writer) → w.at + 17472 ≤ length w.out.now → EdgesWriting row column weight order w w 0
  edges-start w h =
      writing_starts (text_for row column weight order) (length order) 17 64 w (λ t. growing_none (lines-growing (graph_in_order (graph_of t row column weight) order)))
      (omega (arith, order_few))

  -- The edge at place n of the order.
  module _ (n : ℕ) (lt : n < length order) where
    abbrev E : ℕ
    E = get_or order n 0

    pub edge_within : (E < length row) × (E < length column) × (E < length weight)
    edge_within =
        let l = O.places n lt in
        let P = O.passed in
        (omega (arith, P.sound.row_long), omega (arith, P.sound.column_long), omega (arith, P.weight_long))

    line_at : spaced (decimal (row_at G E) ∷ decimal (column_at G E) ∷ signed (weight_at G E) ∷ []) ≡ edge_line H n
    line_at =
        let r = map_at (row_at G) order n 0 0 lt in
        let c = map_at (column_at G) order n 0 0 lt in
        let w = map_at (weight_at G) order n 0 (pos 0) lt in
        sym (λ i. spaced (decimal (r i) ∷ decimal (c i) ∷ signed (w i) ∷ []))

    line_few : length (unlines (edge_line H n ∷ [])) ≤ 17
    line_few =
        let k : length (edge_line H n) ≤ 16 = graph_line_le O.ordered n (omega (arith, order_long)) in
        omega (arith, length-line (edge_line H n) [], length-no_line)

    module _ {w v : Writer} (W : EdgesWriting row column weight order w v n) where
      pub line-room : v.at + 64 ≤ length v.out.now
      line-room = omega (arith, writing_room (text_for row column weight order) (length order) 17 64 W lt)

      pub edges_more : {u : Writer} → Appends v (unlines (spaced (decimal (row_at G E) ∷ decimal (column_at G E) ∷ signed (weight_at G E) ∷ []) ∷ [])) u
          → EdgesWriting row column weight order w u (n + 1)
      edges_more a =
          writing_more (text_for row column weight order) (length order) 17 64 W lt line_few
          (λ t. growing_next (lines-growing (graph_in_order (graph_of t row column weight) order)) n)
          (appends_same a (ap (λ (x : List ℕ). unlines (x ∷ [])) line_at))

  pub edges-end : {w v : Writer} {n : ℕ} → EdgesWriting row column weight order w v n → n ≡ length order → Appends w (unlines (edge_lines H s.edges)) v
  edges-end W e =
      appends_same (writing_ends (text_for row column weight order) (length order) 17 64 W e s) (ap (λ (j : ℕ). unlines (edge_lines H j)) order_long)

  -- ---- the whole text

  module _ {w v : Writer} (start : w.at ≡ 0) (long : length w.out.now ≡ longest_text) (a : Appends w (unlines (head_lines Field.Integer s s.edges)) v) where
    pub head-room : v.at + 17472 ≤ length v.out.now
    head-room = let S = O.passed.sound.sizes in omega (arith, a.puts.place, a.long, head-le Field.Integer s s.edges S S.few)

    text_is : unlines (head_lines Field.Integer s s.edges) ++ unlines (edge_lines H s.edges) ≡ graph_text H
    unfolding graph_text
    text_is = sym (unlines-append (head_lines Field.Integer s s.edges) (edge_lines H s.edges))

    pub graph_appends : {u : Writer} → Appends v (unlines (edge_lines H s.edges)) u → Appends w (graph_text H) u
    graph_appends b =
        appends_same
        (appends_then a b
        (omega (
          arith,
          graph_text-le O.ordered,
          ap length text_is,
          length-append (unlines (head_lines Field.Integer s s.edges)) (unlines (edge_lines H s.edges)),
        )))
        text_is
