-- What the subgraph writer writes, the subgraph reader reads back: the same marks, for every graph and all marks that the writer accepts.
use Rattle.std.specs.Prelude.{Some, Ok}
use mathlib.Core.Path.{◌≡◌, refl, sym, ap, ap₂, ◌∙◌}
use mathlib.Core.Logic.{◌≢◌}
use mathlib.Core.Bool.{Bool, true, false, not, cond, ◌&&◌}
use mathlib.Core.List.{List, [], ◌∷◌, ◌++◌, append-nil}
use Prim.Native.Nat.{ℕ, suc, ◌+◌, ◌-◌, ◌^◌, ◌≤◌, ◌<◌}
use native.Mathlib.Omega.{arith}
use lib.Dec.{ltb, leb, eqb}
use borrow.Author.Tests.{eqb-true, eqb-false, eq-eqb, le-leb, lt-ltb, le-ltb}
use lib.ListN.{length, take, get_or, set, replicate}
use lib.Seq.{take-suc, take_all, append_snoc, length-take-le, set_at, get_or_at}
use Rattle.integers.specs.Sum.{sum}
use Rattle.integers.proofs.Sum.{sum-split}
use Rattle.graph.specs.declared.Kind.{Kind}
use Rattle.graph.specs.declared.Kind.TheVariants.{Bipartite, General}
use Rattle.graph.specs.declared.Fault.TheVariants.{TextLength, LentLength, Ends, SameEnds, Sizes, Disagreement}
use Rattle.graph.specs.Refusal.{Outcome, once, passing}
use Rattle.graph.specs.Graph.{Graph, row_at, column_at, joins}
use Rattle.graph.specs.Subgraph.{mark_at}
use Rattle.graph.specs.Tests.{graph_lengths, graph_tests}
use Rattle.graph.specs.Passed.{Passed}
use Rattle.layout.specs.declared.Rules.TheVariants.{New}
use Rattle.layout.specs.declared.Field.{Field}
use Rattle.layout.specs.declared.Field.TheVariants as Field
use Rattle.layout.specs.Text.{newline, on_first, pieces, non_empty, words, same, same_folded, header_words, header, natural, two_words, three_words}
use Rattle.layout.specs.Text.{blank_line, comment_line, line_fits, no_words, text_fits, decimal, spaced, lines}
use Rattle.layout.specs.Lines.{Step, goes, stops, start, sizing, reading, on_line, read_lines, read_text}
use Rattle.layout.specs.SubgraphText.{subgraph_kind, kinds_agree, subgraph_header, Marked, subgraph_sizes, edge_with, subgraph_mark, subgraph_edge}
use Rattle.layout.specs.GraphText.{header_text}
use Rattle.layout.specs.SubgraphText.{subgraph_layout, read_subgraph_by, read_subgraph, chosen_lines, subgraph_text, write_subgraph}
use Rattle.graph.proofs.Passed.{passed_lengths, passed_tests}
use Rattle.graph.proofs.Passing.{some_lowest, some_none, pass}
use Rattle.graph.proofs.Ranges.{◌also◌}
use Rattle.readback.proofs.Accepted.{Accepted, Small, small, accepted, text_is, sizes_fewer}
use Rattle.readback.proofs.Digits.{decimal-some, number_back}
use Rattle.readback.proofs.Pieces.{Free, AllFree, lines-unlines, words-spaced, free_spaced, comment_free, decimal-no_newline}
use Rattle.readback.proofs.Pieces.{decimal-no_percent, decimal-no_blank, free_yes}
use Rattle.readback.proofs.Fits.{count_le, edge_line-le, size_line_le, header-le, lines_at, chosen_growing, text_le}
use Rattle.readback.proofs.Growing.{growing_free, growing_reaches}
use Rattle.readback.proofs.Reaches.{on_start, on_sizing, on_reading, Reaches, reaches_none, reaches_one, reaches_text}

-- ---- lines of numbers

pub two-words : (r c : ℕ) → words (spaced (decimal r ∷ decimal c ∷ [])) ≡ decimal r ∷ decimal c ∷ []
two-words r c = words-spaced (decimal r ∷ decimal c ∷ []) (decimal-some r, decimal-no_blank r, (decimal-some c, decimal-no_blank c, tt))

pub three-words : (r c n : ℕ) → words (spaced (decimal r ∷ decimal c ∷ decimal n ∷ [])) ≡ decimal r ∷ decimal c ∷ decimal n ∷ []
three-words r c n =
    words-spaced (decimal r ∷ decimal c ∷ decimal n ∷ [])
    (decimal-some r, decimal-no_blank r, (decimal-some c, decimal-no_blank c, (decimal-some n, decimal-no_blank n, tt)))

pub two_back : (r c : ℕ) → r < 10 ^ 9 → c < 10 ^ 9 → two_words (natural New) (natural New) (words (spaced (decimal r ∷ decimal c ∷ []))) ≡ Some (r, c)
unfolding two_words
two_back r c h k = rw (two-words r c, number_back r h, number_back c k)

pub three_back : (r c n : ℕ) → r < 10 ^ 9 → c < 10 ^ 9 → n < 10 ^ 9
    → three_words (natural New) (natural New) (natural New) (words (spaced (decimal r ∷ decimal c ∷ decimal n ∷ []))) ≡ Some (r, c, n)
unfolding three_words
three_back r c n h k l = rw (three-words r c n, number_back r h, number_back c k, number_back n l)

-- Such a line is no comment, and has no byte 10.
pub three_plain : (r c n : ℕ) → comment_line (spaced (decimal r ∷ decimal c ∷ decimal n ∷ [])) ≡ false
three_plain r c n =
    comment_free (spaced (decimal r ∷ decimal c ∷ decimal n ∷ []))
    (free_spaced (λ b. eqb b 37) (decimal r ∷ decimal c ∷ decimal n ∷ []) refl
    (decimal-no_percent r, (decimal-no_percent c, (decimal-no_percent n, tt))))

pub three_free : (r c n : ℕ) → Free newline (spaced (decimal r ∷ decimal c ∷ decimal n ∷ []))
three_free r c n =
    free_spaced newline (decimal r ∷ decimal c ∷ decimal n ∷ []) refl
    (decimal-no_newline r, (decimal-no_newline c, (decimal-no_newline n, tt)))

-- ---- the header

pub same_kind : (k : Kind) → kinds_agree k k ≡ true
same_kind Bipartite = refl
same_kind General = refl

pub header-back : (k : Kind) → subgraph_kind (header_text Field.Pattern k) ≡ Some k
unfolding header header_words same_folded same words non_empty pieces on_first
header-back Bipartite = refl
header-back General = refl

pub header-short : (f : Field) (k : Kind) → line_fits (header_text f k) ≡ true
header-short f k = le-leb (length (header_text f k)) 1024 (omega (arith, header-le f k))

pub header-free : (f : Field) (k : Kind) → Free newline (header_text f k)
header-free Field.Integer Bipartite = free_yes newline (header_text Field.Integer Bipartite) refl
header-free Field.Integer General = free_yes newline (header_text Field.Integer General) refl
header-free Field.Pattern Bipartite = free_yes newline (header_text Field.Pattern Bipartite) refl
header-free Field.Pattern General = free_yes newline (header_text Field.Pattern General) refl

-- ---- the marks so far

-- The marks of the first n edges, and 0 for the others.
abbrev pub marks_to : ℕ → List ℕ → ℕ → List ℕ
marks_to m x n = take n x ++ replicate (m - n) 0

module _ (m : ℕ) (x : List ℕ) (long : length x ≡ m) where
  pub marks_none : replicate m 0 ≡ marks_to m x 0
  marks_none = let e : m ≡ m - 0 = omega arith in ap (λ (k : ℕ). replicate k 0) e

  pub marks_all : marks_to m x m ≡ x
  marks_all =
      let e : m - m ≡ 0 = omega arith in
      let f : take m x ≡ x = take_all m x (omega arith) in
      ap₂ (λ (l : List ℕ) (k : ℕ). l ++ replicate k 0) f e ∙ append-nil x

  module _ (n : ℕ) (lt : n < m) where
    marks_here : marks_to m x n ≡ take n x ++ (0 ∷ replicate (m - suc n) 0)
    marks_here = let e : m - n ≡ suc (m - suc n) = omega arith in ap (λ (k : ℕ). take n x ++ replicate k 0) e

    marks_next : (v : ℕ) → mark_at x n ≡ v → marks_to m x (suc n) ≡ take n x ++ (v ∷ replicate (m - suc n) 0)
    marks_next v e =
        ap (λ (l : List ℕ). l ++ replicate (m - suc n) 0) (take-suc x n 0 (omega arith) ∙ ap (λ (w : ℕ). take n x ++ (w ∷ [])) e)
        ∙ append_snoc (take n x) v (replicate (m - suc n) 0)

    front : length (take n x) ≡ n
    front = length-take-le n x (omega arith)

    -- Not chosen: nothing changes. Chosen: the mark was 0 and is set.
    pub marks_kept : mark_at x n ≡ 0 → marks_to m x n ≡ marks_to m x (suc n)
    marks_kept e = marks_here ∙ sym (marks_next 0 e)

    pub marks_clear : get_or (marks_to m x n) n 0 ≡ 0
    marks_clear = ap (λ (l : List ℕ). get_or l n 0) marks_here ∙ get_or_at (take n x) 0 (replicate (m - suc n) 0) 0 n front

    pub marks_set : mark_at x n ≡ 1 → set (marks_to m x n) n 1 ≡ marks_to m x (suc n)
    marks_set e =
        ap (λ (l : List ℕ). set l n 1) marks_here ∙ set_at (take n x) 0 (replicate (m - suc n) 0) 1 n front ∙ sym (marks_next 1 e)

-- ---- the edge that a line names

-- No two edges have the same ends, so an edge is found by its own.
pub edge_found : {g : Graph} → Passed g → (n : ℕ) → n < g.edges → edge_with g (row_at g n) (column_at g n) ≡ Some n
edge_found {g} P n l =
    some_lowest g.edges (λ e. not (joins g (row_at g n) (column_at g n) e)) n (record {
      among = l;
      breaks = ap not (eq-eqb (row_at g n) (row_at g n) refl also eq-eqb (column_at g n) (column_at g n) refl);
      before = λ k m. ap not (some_none n (joins g (row_at g n) (column_at g n)) (P.apart n l) k m);
    })

-- ---- the lines of the chosen edges

-- The count of the chosen edges, and how far reading is after the first n edges.
abbrev count_of : Graph → List ℕ → ℕ
count_of g x = sum g.edges (mark_at x)

abbrev pub marks_so_far : ℕ → ℕ → List ℕ → Marked
marks_so_far count came marks = record { count = count; came = came; marks = marks }

abbrev state_at : Graph → List ℕ → ℕ → Marked
state_at g x n = marks_so_far (count_of g x) (sum n (mark_at x)) (marks_to g.edges x n)

-- The marks of fewer edges add up to no more.
sum-prefix : (f : ℕ → ℕ) (n m : ℕ) → n ≤ m → sum n f ≤ sum m f
sum-prefix f n m h = let e : m ≡ n + (m - n) = omega arith in omega (arith, ap (λ (k : ℕ). sum k f) e, sum-split n (m - n) f)

module _ {g : Graph} {x : List ℕ} (a : Accepted g x) where
  S : Small g
  S = small g a.passed.sound

  count_few : count_of g x ≤ 1024
  count_few = omega (arith, S.edges_few, count_le a.marks)

  module _ (n : ℕ) (l : n < g.edges) where
    abbrev line_at : List ℕ
    line_at = spaced (decimal (row_at g n) ∷ decimal (column_at g n) ∷ [])

    line-fits : line_fits line_at ≡ true
    line-fits =
        le-leb (length line_at) 1024
        (omega (arith, edge_line-le (row_at g n) (column_at g n) (S.row_small n l) (S.column_small n l)))

    line_full : blank_line line_at ≡ false
    line_full = ap no_words (two-words (row_at g n) (column_at g n))

    module _ (chosen : mark_at x n ≡ 1) where
      more_to_come : ltb (sum n (mark_at x)) (count_of g x) ≡ true
      more_to_come = lt-ltb (sum n (mark_at x)) (count_of g x) (omega (arith, sum-prefix (mark_at x) (suc n) g.edges l))

      line_read : subgraph_edge g (state_at g x n) (two_words (natural New) (natural New) (words line_at)) ≡ goes (state_at g x (suc n))
      line_read =
          ap (subgraph_edge g (state_at g x n))
          (two_back (row_at g n) (column_at g n) (omega (arith, S.row_small n l)) (omega (arith, S.column_small n l)))
          ∙ ap (λ (t : Bool). cond t (subgraph_mark (state_at g x n) (edge_with g (row_at g n) (column_at g n))) (stops Ends)) (a.passed.sound.ends n l).test
          ∙ ap (subgraph_mark (state_at g x n)) (edge_found a.passed n l)
          ∙ ap (λ (t : Bool). cond t (goes (marks_so_far (count_of g x) (sum n (mark_at x) + 1) (set (marks_to g.edges x n) n 1))) (stops SameEnds))
          (eq-eqb (get_or (marks_to g.edges x n) n 0) 0 (marks_clear g.edges x a.marks.long n l))
          ∙ ap₂ (λ (k : ℕ) (ms : List ℕ). goes (marks_so_far (count_of g x) (sum n (mark_at x) + k) ms)) (sym chosen)
          (marks_set g.edges x a.marks.long n l chosen)

      chosen_step : on_line (subgraph_layout New g) (reading (state_at g x n)) line_at ≡ goes (reading (state_at g x (suc n)))
      chosen_step = on_reading (subgraph_layout New g) (state_at g x n) line_at (state_at g x (suc n)) line-fits line_full more_to_come line_read

    unchosen_step : mark_at x n ≡ 0 → state_at g x n ≡ state_at g x (suc n)
    unchosen_step e =
        let s : sum n (mark_at x) ≡ sum n (mark_at x) + mark_at x n = omega arith in
        ap₂ (λ (k : ℕ) (ms : List ℕ). marks_so_far (count_of g x) k ms) s (marks_kept g.edges x a.marks.long n l e)

    step_at : Reaches (read_lines (subgraph_layout New g)) (reading (state_at g x n)) (lines_at g x n) (reading (state_at g x (suc n)))
    step_at = go (eqb (mark_at x n) 1) refl
      where
        go : (b : Bool) → eqb (mark_at x n) 1 ≡ b
            → Reaches (read_lines (subgraph_layout New g)) (reading (state_at g x n)) (cond b (spaced (decimal (row_at g n) ∷ decimal (column_at g n) ∷ []) ∷ []) [])
            (reading (state_at g x (suc n)))
        go true is =
            reaches_one (subgraph_layout New g) (reading (state_at g x n)) (reading (state_at g x (suc n))) line_at
            (chosen_step (eqb-true (mark_at x n) 1 is))
        go false is =
            let ne : mark_at x n ≢ 1 = eqb-false (mark_at x n) 1 is in
            let z : mark_at x n ≡ 0 = omega (arith, a.marks.each n l) in
            rw (unchosen_step z) (reaches_none (read_lines (subgraph_layout New g)) (reading (state_at g x (suc n))))

  lines-read : (n : ℕ) → n ≤ g.edges → Reaches (read_lines (subgraph_layout New g)) (reading (state_at g x 0)) (chosen_lines g x n) (reading (state_at g x n))
  lines-read = growing_reaches (chosen_growing g x) (read_lines (subgraph_layout New g)) g.edges (λ n. reading (state_at g x n)) step_at

  -- ---- the header line and the size line

  abbrev size_line : List ℕ
  size_line = spaced (decimal g.rows ∷ decimal g.columns ∷ decimal (count_of g x) ∷ [])

  header-step : on_line (subgraph_layout New g) start (header_text Field.Pattern g.kind) ≡ goes (sizing tt)
  header-step =
      on_start (subgraph_layout New g) (header_text Field.Pattern g.kind) tt (header-short Field.Pattern g.kind)
      (ap (subgraph_header g) (header-back g.kind) ∙ ap (λ (t : Bool). cond t (goes tt) (stops Disagreement)) (same_kind g.kind))

  abbrev sizes_read : Step Marked
  sizes_read = goes (marks_so_far (count_of g x) 0 (replicate g.edges 0))

  abbrev agrees : Bool
  agrees = eqb g.rows g.rows && eqb g.columns g.columns && leb (count_of g x) g.edges

  size_read : subgraph_sizes g (three_words (natural New) (natural New) (natural New) (words size_line)) ≡ goes (state_at g x 0)
  size_read =
      ap (subgraph_sizes g)
      (three_back g.rows g.columns (count_of g x) (omega (arith, S.rows_small)) (omega (arith, S.columns_small)) (omega (arith, count_few)))
      ∙ ap (λ (t : Bool). cond t (cond agrees sizes_read (stops Disagreement)) (stops Sizes))
      (sizes_fewer g.kind g.rows g.columns g.edges (count_of g x) a.passed.sound.sizes.test (count_le a.marks))
      ∙ ap (λ (t : Bool). cond t sizes_read (stops Disagreement))
      (eq-eqb g.rows g.rows refl
      also eq-eqb g.columns g.columns refl
      also le-leb (count_of g x) g.edges (count_le a.marks))
      ∙ ap (λ (ms : List ℕ). goes (marks_so_far (count_of g x) 0 ms)) (marks_none g.edges x a.marks.long)

  size_step : on_line (subgraph_layout New g) (sizing tt) size_line ≡ goes (reading (state_at g x 0))
  size_step =
      on_sizing (subgraph_layout New g) tt size_line (state_at g x 0)
      (le-leb (length size_line) 1024
      (omega (arith, size_line_le g.rows g.columns (count_of g x) S.rows_small S.columns_small count_few)))
      (ap no_words (three-words g.rows g.columns (count_of g x)))
      (three_plain g.rows g.columns (count_of g x))
      size_read

  -- ---- the whole text

  abbrev text_lines : List (List ℕ)
  text_lines = header_text Field.Pattern g.kind ∷ size_line ∷ chosen_lines g x g.edges

  all_read : read_lines (subgraph_layout New g) 1 start text_lines ≡ Ok x
  all_read =
      reaches_text (subgraph_layout New g) tt (state_at g x 0) (state_at g x g.edges) 1 (header_text Field.Pattern g.kind) size_line (chosen_lines g x g.edges)
      header-step size_step (lines-read g.edges (omega arith)) (le-ltb (count_of g x) (count_of g x) (omega arith))
      ∙ ap Ok (marks_all g.edges x a.marks.long)

  chosen_free : (n : ℕ) → AllFree newline (chosen_lines g x n)
  chosen_free = growing_free (chosen_growing g x) (λ n. go n (eqb (mark_at x n) 1))
    where
      go : (n : ℕ) (b : Bool) → AllFree newline (cond b (spaced (decimal (row_at g n) ∷ decimal (column_at g n) ∷ []) ∷ []) [])
      go n true = (
        free_spaced newline (decimal (row_at g n) ∷ decimal (column_at g n) ∷ []) refl
            (decimal-no_newline (row_at g n), (decimal-no_newline (column_at g n), tt)),
        tt,
      )
      go n false = tt

  lines-of_text : lines (subgraph_text g x) ≡ text_lines
  unfolding subgraph_text
  lines-of_text =
      lines-unlines text_lines (
        header-free Field.Pattern g.kind,
        (three_free g.rows g.columns (count_of g x), chosen_free g.edges),
      )

  -- The text of marks reads as those marks.
  pub text_back : read_subgraph g (length x) (subgraph_text g x) ≡ Ok x
  unfolding read_subgraph_by
  text_back =
      pass (once LentLength (graph_lengths g && eqb (length x) g.edges) ∷ graph_tests g) (
        λ k l. passed_lengths a.passed also eq-eqb (length x) g.edges a.marks.long,
        passed_tests a.passed,
      )
      (passing (once TextLength (text_fits (subgraph_text g x)) ∷ []) (read_text (subgraph_layout New g) (subgraph_text g x)))
      ∙ pass (once TextLength (text_fits (subgraph_text g x)) ∷ [])
      (λ k l. le-leb (length (subgraph_text g x)) 32768 (omega (arith, text_le g x a.passed.sound a.marks)), tt)
      (read_text (subgraph_layout New g) (subgraph_text g x))
      ∙ ap (read_lines (subgraph_layout New g) 1 start) lines-of_text ∙ all_read

-- ---- the two promises

-- Reading a text that the writer yields, as a subgraph of the same graph, gives exactly the marks that were written.
pub read_back : (g : Graph) (x : List ℕ) (n : ℕ) (text : List ℕ) → write_subgraph g x n ≡ Ok text → read_subgraph g (length x) text ≡ Ok x
read_back g x n text h = ap (read_subgraph g (length x)) (sym (text_is g x n text h)) ∙ text_back (accepted g x n text h)

-- Two different subgraphs of a graph are never written alike.
pub written_apart : (g : Graph) (x y : List ℕ) (n k : ℕ) (text : List ℕ) → write_subgraph g x n ≡ Ok text → write_subgraph g y k ≡ Ok text → x ≡ y
written_apart g x y n k text h j =
    let e : length x ≡ length y = omega (arith, (accepted g x n text h).marks.long, (accepted g y k text j).marks.long) in
    let q : ◌≡◌ {A = Outcome (List ℕ)} (Ok x) (Ok y) =
    sym (read_back g x n text h) ∙ ap (λ (m : ℕ). read_subgraph g m text) e ∙ read_back g y k text j in
    cc
