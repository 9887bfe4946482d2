-- What `put_subgraph` writes: the text of the chosen edges, and zeros after its end.
use mathlib.Core.Path.{◌≡◌, sym, ap, ◌∙◌}
use mathlib.Core.List.{List, [], ◌++◌}
use Prim.Native.Nat.{ℕ, ◌+◌, ◌≤◌, ◌<◌}
use native.Mathlib.Omega.{arith}
use lib.IntN.{ℤ}
use lib.ListN.{length, get_or, length-append}
use Rattle.integers.specs.Sum.{sum}
use Rattle.graph.specs.declared.Shape.{Shape}
use Rattle.graph.specs.Graph.{Graph, graph_of}
use Rattle.graph.specs.Subgraph.{mark_at}
use Rattle.graph.specs.Passed.{Sound, MarksHold}
use Rattle.layout.specs.Text.{unlines}
use Rattle.layout.specs.declared.Field.TheVariants as Field
use Rattle.layout.specs.SubgraphText.{chosen_lines, subgraph_text}
use Rattle.readback.proofs.Accepted.{small}
use Rattle.readback.proofs.Pieces.{unlines-append}
use Rattle.readback.proofs.Growing.{growing_none, growing_next}
use Rattle.readback.proofs.Fits.{count_le, chosen_growing, line_le, text_le}
use Rattle.digits.specs.declared.Writer.{Writer}
use Rattle.digits.specs.Appends.{Appends}
use Rattle.digits.proofs.Appending.{appends_then, appends_same}
use Rattle.writer.specs.Written.{head_lines, marked_lines}
use Rattle.writer.proofs.Lines.{head-le}
use Rattle.writer.proofs.Writing.{Writing, writing_starts, writing_room, writing_more, writing_ends}

-- ---- the loop over the edges

-- The text of the first n edges.
abbrev pub edge_text : Graph → List ℕ → ℕ → List ℕ
edge_text g x n = unlines (chosen_lines g x n)

-- They do not depend on the shape and the weights.
abbrev pub chosen_text : List ℕ → List ℕ → List ℕ → Shape × List ℤ → ℕ → List ℕ
chosen_text row column x i n = edge_text (graph_of i.0 row column i.1) x n

-- The lines of the first n edges have been written by the writer w, which is now v.
abbrev pub ChosenWriting : List ℕ → List ℕ → List ℕ → Writer → Writer → ℕ → Type 0
ChosenWriting row column x = Writing (chosen_text row column x) (length row) 8 32

module _ {s : Shape} {row column x : List ℕ} (S : Sound s row column) (M : MarksHold s.edges x) where
  pub few : length row ≤ 1024
  few = omega (arith, S.row_long, S.sizes.few)

  pub marks_few : length x ≤ 1024
  marks_few = omega (arith, M.long, S.sizes.few)

  pub edges-start : (w : Writer) → w.at + 8224 ≤ length w.out.now → ChosenWriting row column x w w 0
  edges-start w h =
      writing_starts (chosen_text row column x) (length row) 8 32 w (λ i. growing_none (chosen_growing (graph_of i.0 row column i.1) x)) (omega (arith, few))

  module _ {w v : Writer} {n : ℕ} (W : ChosenWriting row column x w v n) where
    pub line-room : n < length row → v.at + 32 ≤ length v.out.now
    line-room lt = omega (arith, writing_room (chosen_text row column x) (length row) 8 32 W lt)

    pub edges_more : n < length row → {u : Writer} → Appends v (unlines (marked_lines (get_or row n 0) (get_or column n 0) (get_or x n 0))) u
        → ChosenWriting row column x w u (n + 1)
    edges_more lt =
        writing_more (chosen_text row column x) (length row) 8 32 W lt (line_le x (small (graph_of s row column []) S) n (omega (arith, S.row_long)))
        (λ i. growing_next (chosen_growing (graph_of i.0 row column i.1) x) n)

    pub edges-end : n ≡ length row → (ws : List ℤ) → Appends w (edge_text (graph_of s row column ws) x s.edges) v
    edges-end e ws =
        appends_same (writing_ends (chosen_text row column x) (length row) 8 32 W e (s, ws)) (ap (edge_text (graph_of s row column ws) x) S.row_long)

  -- ---- the whole text

  module _ {count : ℕ} (counted : count ≡ sum (length x) (mark_at x)) {w v : Writer} (start : w.at ≡ 0) (p : Appends w (unlines (head_lines Field.Pattern s count)) v)
    where
      count_is : count ≡ sum s.edges (mark_at x)
      count_is = counted ∙ ap (λ (k : ℕ). sum k (mark_at x)) M.long

      pub head-room : length w.out.now ≡ 16384 → v.at + 8224 ≤ length v.out.now
      head-room long =
          let k : count ≤ 1024 = omega (arith, count_is, S.sizes.few, count_le M) in
          omega (arith, p.puts.place, p.long, head-le Field.Pattern s count S.sizes k)

      module _ (z : length w.out.now ≡ 16384) (ws : List ℤ) {u : Writer} (q : Appends v (edge_text (graph_of s row column ws) x s.edges) u) where
        abbrev G : Graph
        G = graph_of s row column ws

        text_is : unlines (head_lines Field.Pattern s count) ++ edge_text G x s.edges ≡ subgraph_text G x
        unfolding subgraph_text
        text_is =
            sym (unlines-append (head_lines Field.Pattern s count) (chosen_lines G x s.edges))
            ∙ ap (λ (n : ℕ). unlines (head_lines Field.Pattern s n ++ chosen_lines G x s.edges)) count_is

        pub subgraph_appends : Appends w (subgraph_text G x) u
        subgraph_appends =
            appends_same
            (appends_then p q
            (omega (
              arith,
              text_le G x S M,
              ap length text_is,
              length-append (unlines (head_lines Field.Pattern s count)) (edge_text G x s.edges),
            )))
            text_is
