-- The text of a subgraph (plan) of some graph is the text of a graph without weights.
use Rattle.std.specs.Prelude.{Option, Some, option_map, Ok}
use mathlib.Core.Path.{◌≡◌, refl, sym, ap, ap₂, ◌∙◌}
use mathlib.Core.Bool.{Bool, true, false, not, cond, ◌&&◌}
use mathlib.Core.List.{List, [], ◌∷◌, ◌++◌}
use Prim.Native.Nat.{ℕ, suc, ◌+◌, ◌<◌}
use native.Mathlib.Omega.{arith}
use native.Mathlib.Decide.{ℕ_discrete}
use lib.Dec.{ltb, eqb}
use borrow.Author.Tests.{eqb-true}
use lib.IntN.{ℤ, pos}
use lib.ListN.{length, get_or, set, replicate, length-set, length-replicate, get_or-append}
use lib.Seq.{get_or_at, get_or-set_same, get_or-set_other}
use Rattle.graph.specs.declared.Kind.{Kind}
use Rattle.graph.specs.declared.Fault.TheVariants.{Sizes}
use Rattle.graph.specs.Graph.{Graph, graph_of, joins, joined}
use Rattle.graph.proofs.Passing.{zero_one, up_to, lowest-some, none_some}
use Rattle.graph.proofs.Ranges.{both}
use Rattle.layout.specs.declared.Rules.{Rules}
use Rattle.layout.specs.declared.Field.TheVariants as Field
use Rattle.layout.specs.Text.{lines, words, natural, two_words, three_words}
use Rattle.layout.specs.Lines.{goes, stops, State, start, sizing, reading, read_text}
use Rattle.layout.specs.GraphText.{graph_sizes, graph_edge, graph_layout}
use Rattle.layout.specs.SubgraphText.{subgraph_kind, Marked, edge_with, subgraph_layout}
use Rattle.readback.proofs.ReadBack.{marks_so_far}
use Rattle.readback.proofs.Trace.{Reads, done, by_header, skipped, by_size, blank-line, by_line, reads_yield, yield_reads}
use Rattle.patterns.proofs.Edges.{edge_added, length-snoc}
use Rattle.patterns.proofs.Marks.{kind_header, kind_read, MarksCounted, count_read, Named, mark_read}

module _ (g : Graph) where
  -- The graph of these edges with the sizes of g, of n edges.
  abbrev chosen_of : ℕ → List ℕ → List ℕ → List ℤ → Graph
  chosen_of n rs cs ws = graph_of (record { kind = g.kind; rows = g.rows; columns = g.columns; edges = n }) rs cs ws

  -- The edge of g with row r and column c is marked.
  record MarkedAt (marks : List ℕ) (r c : ℕ) : Type 0 where
    edge : ℕ
    found : edge_with g r c ≡ Some edge
    one : get_or marks edge 0 ≡ 1

  -- The rows and columns read so far are of as many edges as came, and each is marked.
  record Alike (b : Marked) (rs cs : List ℕ) : Type 0 where
    came : length rs ≡ b.came
    columns : length cs ≡ length rs
    long : length b.marks ≡ g.edges
    marked : (j : ℕ) → j < length rs → MarkedAt b.marks (get_or rs j 0) (get_or cs j 0)

  module _ {b : Marked} {rs cs : List ℕ} (A : Alike b rs cs) (r c e : ℕ) (found : edge_with g r c ≡ Some e) where
    -- An edge whose mark is 0 has the ends of no earlier one.
    none_earlier : (n : ℕ) (ws : List ℤ) → get_or b.marks e 0 ≡ 0 → joined (chosen_of n rs cs ws) (length rs) r c ≡ false
    none_earlier n ws clear = none_some (length rs) (joins (chosen_of n rs cs ws) r c) (λ j l. go j l (joins (chosen_of n rs cs ws) r c j) refl)
      where
        go : (j : ℕ) → j < length rs → (t : Bool) → eqb (get_or rs j 0) r && eqb (get_or cs j 0) c ≡ t → t ≡ false
        go j l true is =
            let w = both (eqb (get_or rs j 0) r) (eqb (get_or cs j 0) c) is in
            let i : get_or rs j 0 ≡ r = eqb-true (get_or rs j 0) r w.0 in
            let k : get_or cs j 0 ≡ c = eqb-true (get_or cs j 0) c w.1 in
            let m = A.marked j l in
            let f : ◌≡◌ {A = Option ℕ} (Some m.edge) (Some e) = sym m.found ∙ ap₂ (edge_with g) i k ∙ found in
            let s : m.edge ≡ e = cc in
            zero_one (sym clear ∙ ap (λ (x : ℕ). get_or b.marks x 0) (sym s) ∙ m.one)
        go j l false is = refl

    among : e < length b.marks
    among = omega (arith, A.long, (lowest-some g.edges (λ k. not (joins g r c k)) e found).among)

    -- A mark that is 1 stays 1.
    still_marked : (x y : ℕ) → MarkedAt b.marks x y → MarkedAt (set b.marks e 1) x y
    still_marked x y m = record { edge = m.edge; found = m.found; one = go }
      where
        go : get_or (set b.marks e 1) m.edge 0 ≡ 1
        go = elim (ℕ_discrete m.edge e) [
          | yes i ↦ ap (λ (k : ℕ). get_or (set b.marks e 1) k 0) i ∙ get_or-set_same b.marks e 1 0 among
          | no n ↦ get_or-set_other b.marks e m.edge 1 0 n ∙ m.one
        ]

    -- One edge more.
    abbrev rs' : List ℕ
    rs' = rs ++ (r ∷ [])

    abbrev cs' : List ℕ
    cs' = cs ++ (c ∷ [])

    next-marked : (j : ℕ) → j < suc (length rs) → MarkedAt (set b.marks e 1) (get_or rs' j 0) (get_or cs' j 0)
    next-marked =
        up_to {P = λ j. MarkedAt (set b.marks e 1) (get_or rs' j 0) (get_or cs' j 0)}
        (λ j l.
        let k : j < length cs = omega (arith, A.columns) in
        rw (get_or-append rs (r ∷ []) 0 j l, get_or-append cs (c ∷ []) 0 j k) (still_marked (get_or rs j 0) (get_or cs j 0) (A.marked j l)))
        (rw (get_or_at rs r [] 0 (length rs) refl, get_or_at cs c [] 0 (length rs) A.columns)
        (record { edge = e; found = found; one = get_or-set_same b.marks e 1 0 among }))

    next-alike : Alike (marks_so_far b.count (b.came + 1) (set b.marks e 1)) rs' cs'
    next-alike = record {
      came = omega (arith, A.came, length-snoc rs r);
      columns = omega (arith, A.columns, length-snoc rs r, length-snoc cs c);
      long = length-set b.marks e 1 ∙ A.long;
      marked = λ j l. next-marked j (omega (arith, length-snoc rs r));
    }

-- ---- the lines

module _ (rules : Rules) (g : Graph) where
  -- The graph that is read of the lines, from state s on.
  abbrev Unmarked : State Kind Graph → List (List ℕ) → Type 0
  Unmarked s ls = (p : Graph) × Reads (graph_layout rules Field.Pattern) s ls p

  -- The same graph is read where one line leads from s to t.
  onward : {s t : State Kind Graph} {l : List ℕ} {ls : List (List ℕ)}
      → ((p : Graph) → Reads (graph_layout rules Field.Pattern) t ls p → Reads (graph_layout rules Field.Pattern) s (l ∷ ls) p) → Unmarked t ls
      → Unmarked s (l ∷ ls)
  onward f r = (r.0, f r.0 r.1)

  -- A line that marks an edge adds it.
  line_adds : {b d : Marked} {rs cs : List ℕ} (ws : List ℤ) (o : Option (ℕ × ℕ)) → Alike g b rs cs → (m : Named g b o d)
      → graph_edge (chosen_of g b.count rs cs ws) (option_map (λ e. (e.0, e.1, pos 0)) o)
      ≡ goes (chosen_of g d.count (rs ++ (m.row ∷ [])) (cs ++ (m.column ∷ [])) (ws ++ (pos 0 ∷ [])))
  line_adds {b} {d} {rs} {cs} ws o A m =
      ap (λ (x : Option (ℕ × ℕ)). graph_edge (chosen_of g b.count rs cs ws) (option_map (λ e. (e.0, e.1, pos 0)) x)) m.read
      ∙ edge_added (chosen_of g b.count rs cs ws) m.row m.column (pos 0)
      (chosen_of g d.count (rs ++ (m.row ∷ [])) (cs ++ (m.column ∷ [])) (ws ++ (pos 0 ∷ []))) (record {
        ends = m.ends;
        weight = refl;
        apart = none_earlier g A m.row m.column m.edge m.found b.count ws m.clear;
        is = ap (λ (x : Marked). chosen_of g x.count (rs ++ (m.row ∷ [])) (cs ++ (m.column ∷ [])) (ws ++ (pos 0 ∷ []))) m.is;
      })

  lines-unmarked : {b x : Marked} {ls : List (List ℕ)} → Reads (subgraph_layout rules g) (reading b) ls x → (rs cs : List ℕ) (ws : List ℤ) → Alike g b rs cs
      → Unmarked (reading (chosen_of g b.count rs cs ws)) ls
  lines-unmarked (done {b = b} last) rs cs ws A =
      (chosen_of g b.count rs cs ws, done (ap (λ (n : ℕ). ltb n b.count) A.came ∙ last))
  lines-unmarked (blank-line fits empty rest) rs cs ws A = onward (λ p r. blank-line fits empty r) (lines-unmarked rest rs cs ws A)
  lines-unmarked (by_line {l = l} {c = b} {d = d} fits full more is rest) rs cs ws A =
      let o = two_words (natural rules) (natural rules) (words l) in
      let m = mark_read g b o d is in
      let A' : Alike g d (rs ++ (m.row ∷ [])) (cs ++ (m.column ∷ [])) = rw m.is at (next-alike g A m.row m.column m.edge m.found) in
      onward (λ p r. by_line fits full (ap (λ (n : ℕ). ltb n b.count) A.came ∙ more) (line_adds ws o A m) r)
      (lines-unmarked rest (rs ++ (m.row ∷ [])) (cs ++ (m.column ∷ [])) (ws ++ (pos 0 ∷ [])) A')

  -- ---- the size line and the header

  sizes_agree : {d : Marked} (o : Option (ℕ × ℕ × ℕ)) → MarksCounted g o d → graph_sizes g.kind o ≡ goes (chosen_of g d.count [] [] [])
  sizes_agree o s =
      ap (graph_sizes g.kind) s.read
      ∙ ap (λ (t : Bool). cond t (goes (chosen_of g s.count [] [] [])) (stops Sizes)) s.range
      ∙ ap (λ (x : Marked). goes (chosen_of g x.count [] [] [])) s.is

  none_alike : {d : Marked} (o : Option (ℕ × ℕ × ℕ)) → MarksCounted g o d → Alike g d [] []
  none_alike o s =
      let A : Alike g (marks_so_far s.count 0 (replicate g.edges 0)) [] [] =
      record { came = refl; columns = refl; long = length-replicate g.edges 0; marked = λ j l. absurd (omega arith) } in
      rw s.is at A

  sizes_unmarked : {u : Unit {0}} {x : Marked} {ls : List (List ℕ)} → Reads (subgraph_layout rules g) (sizing u) ls x → Unmarked (sizing g.kind) ls
  sizes_unmarked (skipped fits over rest) = onward (λ p r. skipped fits over r) (sizes_unmarked rest)
  sizes_unmarked (by_size {l = l} {c = d} fits full is rest) =
      let o = three_words (natural rules) (natural rules) (natural rules) (words l) in
      let s = count_read g o d is in
      onward (λ p r. by_size fits full (sizes_agree o s) r) (lines-unmarked rest [] [] [] (none_alike o s))

  reads_unmarked : {x : Marked} {ls : List (List ℕ)} → Reads (subgraph_layout rules g) start ls x → Unmarked start ls
  reads_unmarked (by_header {l = l} {h = u} fits is rest) =
      onward (λ p r. by_header fits (kind_header l g.kind (kind_read g (subgraph_kind l) u is)) r) (sizes_unmarked rest)

  -- A text that is read as a subgraph of g is one of a graph without weights.
  pub subgraph_unmarked : (text : List ℕ) (x : List ℕ) → read_text (subgraph_layout rules g) text ≡ Ok x
      → (p : Graph) × (read_text (graph_layout rules Field.Pattern) text ≡ Ok p)
  subgraph_unmarked text x h =
      let r = reads_unmarked (yield_reads (subgraph_layout rules g) 1 start (lines text) x h).reads in
      (r.0, reads_yield (graph_layout rules Field.Pattern) r.1 1)
