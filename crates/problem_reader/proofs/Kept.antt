-- What every line keeps holds of the result of a text: a graph's three lists are as long as its number of edges and its sizes are in range,
-- numbers are as many as are asked for, and a subgraph has one mark for each edge. And what is yielded or refused where an answer says so.
use Rattle.std.specs.Prelude.{Option, None, Some, Ok, Err}
use Prim.Native.Nat.{ℕ, ◌+◌, ◌≤◌}
use mathlib.Core.Path.{◌≡◌, refl, sym, ap, ◌∙◌, subst}
use mathlib.Core.Bool.{Bool, true, false, cond, ◌&&◌, ◌||◌}
use mathlib.Core.List.{List, [], ◌∷◌, ◌++◌}
use native.Mathlib.Omega.{arith}
use lib.Dec.{ltb, leb, eqb}
use lib.IntN.{ℤ}
use lib.ListN.{length, get_or, set, length-append, length-set, replicate, length-replicate}
use borrow.Author.Tests.{ltb-true, ltb-false, eqb-true, eq-eqb}
use Rattle.graph.specs.declared.Kind.{Kind}
use Rattle.graph.specs.declared.Fault.{Fault}
use Rattle.graph.specs.declared.Fault.TheVariants.{TextLength, Header, SizeLine, Sizes, LaterLine, Ends, Weight, SameEnds, LentLength, Disagreement}
use Rattle.graph.specs.declared.Refusal.{Refusal}
use Rattle.graph.specs.declared.Shape.{Shape}
use Rattle.graph.specs.Refusal.{Outcome, refuses, once, passing, reported}
use Rattle.graph.specs.Limits.{most_edges}
use Rattle.graph.specs.Graph.{Graph, shape_of, up_to, shape_in_range, sizes_in_range, ends_in_range, weight_in_range, joined}
use Rattle.graph.specs.Tests.{graph_lengths, graph_tests}
use Rattle.graph.proofs.Ranges.{◌also◌}
use Rattle.graph.proofs.Passing.{zero_one, once-yields, passes}
use Rattle.layout.specs.declared.Rules.{Rules}
use Rattle.layout.specs.declared.Field.{Field}
use Rattle.layout.specs.declared.Numbers.{Numbers}
use Rattle.layout.specs.Text.{words, natural, integer, one_word, two_words, three_words, text_fits, lines, line_fits, blank_line, comment_line}
use Rattle.layout.specs.Lines.{Step, goes, stops, State, start, sizing, reading, Layout, sized, begun, on_line, at_end, on_step, read_lines, read_text}
use Rattle.layout.specs.GraphText.{no_edges, shape_from, graph_sizes, graph_edge, with_edge, edge_on, graph_layout, read_graph_by}
use Rattle.layout.specs.NumberText.{most_numbers_by, in_range, outside, number_sizes, number_value, number_layout, read_numbers_by}
use Rattle.layout.specs.SubgraphText.{Marked, subgraph_sizes, edge_with, subgraph_mark, subgraph_edge, subgraph_layout, read_subgraph_by}

module _ {H B R : Type 0} (L : Layout H B R) (P : B → Type 0) where
  -- A property that holds after any size line that goes on, and that any later line keeps that goes on.
  pub record Preserved : Type 0 where
    pub sizes : (h : H) (l : List ℕ) (b : B) → L.size_line h l ≡ goes b → P b
    pub later : (b : B) (l : List ℕ) (d : B) → L.more b ≡ true → P b → L.later_line b l ≡ goes d → P d

  -- The result is that of a state with the property, after which no line is to come.
  pub record Final (r : R) : Type 0 where
    pub state : B
    pub keeps : P state
    pub full : L.more state ≡ false
    pub same : r ≡ L.result state

  abbrev KeptIn : State H B → Type 0
  KeptIn start = Unit {0}
  KeptIn (sizing h) = Unit {0}
  KeptIn (reading b) = P b

  module _ (K : Preserved) where
    on_sizing : (h : H) (l : List ℕ) (t : State H B) (fits skipped : Bool) (o : Step B) → L.size_line h l ≡ o →
        cond fits (cond skipped (goes (sizing h)) (begun o)) (stops SizeLine) ≡ goes t → KeptIn t
    on_sizing h l t true true o is e = let s : ◌≡◌ {A = State H B} (sizing h) t = cc in subst KeptIn s tt
    on_sizing h l t true false (goes b) is e = let s : ◌≡◌ {A = State H B} (reading b) t = cc in subst KeptIn s (K.sizes h l b is)
    on_sizing h l t true false (stops f) is e = zero_one (cc)
    on_sizing h l t false skipped o is e = zero_one (cc)

    on_reading : (b : B) (l : List ℕ) (t : State H B) (fits skipped more : Bool) (o : Step B) → P b → L.more b ≡ more → L.later_line b l ≡ o →
        cond fits (cond skipped (goes (reading b)) (cond more (begun o) (stops LaterLine))) (stops LaterLine) ≡ goes t → KeptIn t
    on_reading b l t true true more o p m is e = let s : ◌≡◌ {A = State H B} (reading b) t = cc in subst KeptIn s p
    on_reading b l t true false true (goes d) p m is e = let s : ◌≡◌ {A = State H B} (reading d) t = cc in subst KeptIn s (K.later b l d m p is)
    on_reading b l t true false true (stops f) p m is e = zero_one (cc)
    on_reading b l t true false false o p m is e = zero_one (cc)
    on_reading b l t false skipped more o p m is e = zero_one (cc)

    on_start : (l : List ℕ) (t : State H B) (fits : Bool) (o : Step H) → cond fits (sized o) (stops Header) ≡ goes t → KeptIn t
    on_start l t true (goes h) e = let s : ◌≡◌ {A = State H B} (sizing h) t = cc in subst KeptIn s tt
    on_start l t true (stops f) e = zero_one (cc)
    on_start l t false o e = zero_one (cc)

    -- A line that goes on keeps the property.
    line_keeps : (s : State H B) (l : List ℕ) (t : State H B) → KeptIn s → on_line L s l ≡ goes t → KeptIn t
    unfolding on_line
    line_keeps start l t p e = on_start l t (line_fits l) (L.header_line l) e
    line_keeps (sizing h) l t p e = on_sizing h l t (line_fits l) (blank_line l || comment_line l) (L.size_line h l) refl e
    line_keeps (reading b) l t p e = on_reading b l t (line_fits l) (blank_line l) (L.more b) (L.later_line b l) p refl refl e

    end_keeps : (k : ℕ) (s : State H B) (r : R) → KeptIn s → at_end L k s ≡ Ok r → Final r
    unfolding at_end
    end_keeps k start r p e = zero_one (cc)
    end_keeps k (sizing h) r p e = zero_one (cc)
    end_keeps k (reading b) r p e = go (L.more b) refl e
      where
        go : (m : Bool) → L.more b ≡ m → cond m (refuses LaterLine k) (Ok (L.result b)) ≡ Ok r → Final r
        go true q h = zero_one (cc)
        go false q h = let s : r ≡ L.result b = cc in record { state = b; keeps = p; full = q; same = s }

    lines_keep : (k : ℕ) (s : State H B) (ls : List (List ℕ)) (r : R) → KeptIn s → read_lines L k s ls ≡ Ok r → Final r
    unfolding read_lines
    lines_keep k s [] r p e = end_keeps k s r p e
    lines_keep k s (l ∷ ls) r p e = go (on_line L s l) refl e (λ t. lines_keep (k + 1) t ls r)
      where
        go : (o : Step (State H B)) → on_line L s l ≡ o → on_step k o (λ t. read_lines L (k + 1) t ls) ≡ Ok r →
            ((t : State H B) → KeptIn t → read_lines L (k + 1) t ls ≡ Ok r → Final r) → Final r
        go (goes t) is h ih = ih t (line_keeps s l t p is) h
        go (stops f) is h ih = zero_one (cc)

    pub text_keeps : (text : List ℕ) (r : R) → read_text L text ≡ Ok r → Final r
    text_keeps text r e = lines_keep 1 start (lines text) r tt e

-- A graph of which some edges are read: its three lists are equally long, and no longer than its number of edges.
pub record Partial (g : Graph) : Type 0 where
  pub few : length g.row ≤ g.edges
  pub columns : length g.column ≡ length g.row
  pub weights : length g.weight ≡ length g.row
  pub sizes : shape_in_range (shape_of g) ≡ true

sizes_partial : (kind : Kind) (o : Option (ℕ × ℕ × ℕ)) (g : Graph) → graph_sizes kind o ≡ goes g → Partial g
sizes_partial kind None g e = zero_one (cc)
sizes_partial kind (Some s) g e = go (shape_in_range (shape_from kind s)) refl e
  where
    go : (b : Bool) → shape_in_range (shape_from kind s) ≡ b → cond b (goes (no_edges (shape_from kind s))) (stops Sizes) ≡ goes g → Partial g
    go true q h =
        let i : no_edges (shape_from kind s) ≡ g = cc in
        subst Partial i (record { few = omega arith; columns = refl; weights = refl; sizes = q })
    go false q h = zero_one (cc)

-- One number more.
one_more : {N : Type 0} (xs : List N) (x : N) → length (xs ++ (x ∷ [])) ≡ length xs + 1
one_more xs x = length-append xs (x ∷ [])

with-edge : (g : Graph) (r c : ℕ) (w : ℤ) → ltb (length g.row) g.edges ≡ true → Partial g → Partial (with_edge g r c w)
with-edge g r c w m p =
    let l = ltb-true (length g.row) g.edges m in
    let i = one_more g.row r in
    record {
      few = omega arith;
      columns = one_more g.column c ∙ ap (λ n. n + 1) p.columns ∙ sym i;
      weights = one_more g.weight w ∙ ap (λ n. n + 1) p.weights ∙ sym i;
      sizes = p.sizes;
    }

edge_partial : (g : Graph) (o : Option (ℕ × ℕ × ℤ)) (d : Graph) → ltb (length g.row) g.edges ≡ true → Partial g → graph_edge g o ≡ goes d → Partial d
edge_partial g None d m p e = zero_one (cc)
edge_partial g (Some s) d m p e =
    go (ends_in_range g.kind g.rows g.columns s.0 s.1) (weight_in_range s.2) (joined g (length g.row) s.0 s.1) e
  where
    go : (a b c : Bool) → cond a (cond b (cond c (stops SameEnds) (goes (with_edge g s.0 s.1 s.2))) (stops Weight)) (stops Ends) ≡ goes d → Partial d
    go true true false h = let i : with_edge g s.0 s.1 s.2 ≡ d = cc in subst Partial i (with-edge g s.0 s.1 s.2 m p)
    go true true true h = zero_one (cc)
    go true false c h = zero_one (cc)
    go false b c h = zero_one (cc)

graph_kept : (rules : Rules) (field : Field) → Preserved (graph_layout rules field) Partial
graph_kept rules field = record {
  sizes = λ kind l g e. sizes_partial kind (three_words (natural rules) (natural rules) (natural rules) (words l)) g e;
  later = λ g l d m p e. edge_partial g (edge_on rules field (words l)) d m p e;
}

-- A graph that is read has as many rows, columns and weights as edges, and sizes in range.
pub graph_whole : (rules : Rules) (field : Field) (r c w : ℕ) (text : List ℕ) (g : Graph) → read_graph_by rules field r c w text ≡ Ok g →
    (graph_lengths g ≡ true) × (shape_in_range (shape_of g) ≡ true)
unfolding read_graph_by
graph_whole rules field r c w text g e =
    let tests = once LentLength (eqb r most_edges && eqb c most_edges && eqb w most_edges) ∷ once TextLength (text_fits text) ∷ [] in
    let t = text_keeps (graph_layout rules field) Partial (graph_kept rules field) text g (passes tests (read_text (graph_layout rules field) text) g e).1 in
    let p : Partial g = subst Partial (sym t.same) t.keeps in
    let m : g.edges ≤ length g.row = ltb-false (length g.row) g.edges (ap (λ (d : Graph). ltb (length d.row) d.edges) t.same ∙ t.full) in
    let long : length g.row ≡ g.edges = omega (arith, p.few) in (
      eq-eqb (length g.row) g.edges long
          also eq-eqb (length g.column) g.edges (p.columns ∙ long)
          also eq-eqb (length g.weight) g.edges (p.weights ∙ long),
      p.sizes,
    )

-- Numbers of which some are read are no more than are asked for.
abbrev Few : ℕ → List ℤ → Type 0
Few count zs = length zs ≤ count

sizes_few : (count : ℕ) (o : Option (ℕ × ℕ)) (zs : List ℤ) → number_sizes count o ≡ goes zs → Few count zs
sizes_few count None zs e = zero_one (cc)
sizes_few count (Some s) zs e = go (eqb s.0 count && eqb s.1 1) e
  where
    go : (b : Bool) → cond b (goes []) (stops Sizes) ≡ goes zs → Few count zs
    go true h = let i : [] ≡ zs = cc in subst (Few count) i (omega arith)
    go false h = zero_one (cc)

value-few : (rules : Rules) (what : Numbers) (count : ℕ) (zs : List ℤ) (o : Option ℤ) (xs : List ℤ) → ltb (length zs) count ≡ true → number_value rules what zs o ≡ goes xs →
    Few count xs
value-few rules what count zs None xs m e = zero_one (cc)
value-few rules what count zs (Some z) xs m e = go (in_range rules what z) e
  where
    go : (b : Bool) → cond b (goes (zs ++ (z ∷ []))) (stops (outside what)) ≡ goes xs → Few count xs
    go true h =
        let i : zs ++ (z ∷ []) ≡ xs = cc in
        let l = ltb-true (length zs) count m in
        let n = one_more zs z in
        let f : length (zs ++ (z ∷ [])) ≤ count = omega arith in
        subst (Few count) i f
    go false h = zero_one (cc)

numbers_kept : (rules : Rules) (what : Numbers) (count : ℕ) → Preserved (number_layout rules what count) (Few count)
numbers_kept rules what count = record {
  sizes = λ h l zs e. sizes_few count (two_words (natural rules) (natural rules) (words l)) zs e;
  later = λ zs l xs m p e. value-few rules what count zs (one_word (integer rules) (words l)) xs m e;
}

-- Numbers that are read are as many as are asked for, and fill the output.
pub record AllRead (count n : ℕ) (zs : List ℤ) : Type 0 where
  pub read : length zs ≡ count
  pub lent : n ≡ count

pub numbers_filled : (rules : Rules) (what : Numbers) (count n : ℕ) (text : List ℕ) (zs : List ℤ) → read_numbers_by rules what count n text ≡ Ok zs →
    AllRead count n zs
unfolding read_numbers_by
numbers_filled rules what count n text zs e =
    let s = once-yields LentLength (eqb n count) (once Sizes (up_to (most_numbers_by rules) count) ∷ once TextLength (text_fits text) ∷ [])
    (read_text (number_layout rules what count) text) zs e in
    let t = text_keeps (number_layout rules what count) (Few count) (numbers_kept rules what count) text zs
    (passes (once Sizes (up_to (most_numbers_by rules) count) ∷ once TextLength (text_fits text) ∷ []) (read_text (number_layout rules what count) text) zs
    s.1).1 in
    let p : Few count zs = subst (Few count) (sym t.same) t.keeps in
    let m : count ≤ length zs = ltb-false (length zs) count (ap (λ (xs : List ℤ). ltb (length xs) count) t.same ∙ t.full) in
    record { read = omega arith; lent = eqb-true n count s.0 }

-- A subgraph of which some edges are read has a mark for each edge of its graph.
abbrev Whole : Graph → Marked → Type 0
Whole g b = length b.marks ≡ g.edges

sizes_whole : (g : Graph) (o : Option (ℕ × ℕ × ℕ)) (b : Marked) → subgraph_sizes g o ≡ goes b → Whole g b
sizes_whole g None b e = zero_one (cc)
sizes_whole g (Some s) b e =
    go (sizes_in_range g.kind s.0 s.1 s.2) (eqb s.0 g.rows && eqb s.1 g.columns && leb s.2 g.edges) e
  where
    go : (p q : Bool) →
        cond p (cond q (goes (record { count = s.2; came = 0; marks = replicate g.edges 0 })) (stops Disagreement)) (stops Sizes) ≡ goes b →
        Whole g b
    go true true h = let i : record { count = s.2; came = 0; marks = replicate g.edges 0 } ≡ b = cc in subst (Whole g) i (length-replicate g.edges 0)
    go true false h = zero_one (cc)
    go false q h = zero_one (cc)

mark_whole : (g : Graph) (b : Marked) (o : Option ℕ) (d : Marked) → Whole g b → subgraph_mark b o ≡ goes d → Whole g d
mark_whole g b None d p e = zero_one (cc)
mark_whole g b (Some k) d p e = go (eqb (get_or b.marks k 0) 0) e
  where
    go : (q : Bool) → cond q (goes (record { count = b.count; came = b.came + 1; marks = set b.marks k 1 })) (stops SameEnds) ≡ goes d → Whole g d
    go true h =
        let i : record { count = b.count; came = b.came + 1; marks = set b.marks k 1 } ≡ d = cc in
        subst (Whole g) i (length-set b.marks k 1 ∙ p)
    go false h = zero_one (cc)

edge_whole : (g : Graph) (b : Marked) (o : Option (ℕ × ℕ)) (d : Marked) → Whole g b → subgraph_edge g b o ≡ goes d → Whole g d
edge_whole g b None d p e = zero_one (cc)
edge_whole g b (Some s) d p e = go (ends_in_range g.kind g.rows g.columns s.0 s.1) e
  where
    go : (q : Bool) → cond q (subgraph_mark b (edge_with g s.0 s.1)) (stops Ends) ≡ goes d → Whole g d
    go true h = mark_whole g b (edge_with g s.0 s.1) d p h
    go false h = zero_one (cc)

subgraph_kept : (rules : Rules) (g : Graph) → Preserved (subgraph_layout rules g) (Whole g)
subgraph_kept rules g = record {
  sizes = λ h l b e. sizes_whole g (three_words (natural rules) (natural rules) (natural rules) (words l)) b e;
  later = λ b l d m p e. edge_whole g b (two_words (natural rules) (natural rules) (words l)) d p e;
}

-- A subgraph that is read has a mark for each edge.
pub subgraph_whole : (rules : Rules) (g : Graph) (n : ℕ) (text : List ℕ) (x : List ℕ) → read_subgraph_by rules g n text ≡ Ok x → length x ≡ g.edges
unfolding read_subgraph_by
subgraph_whole rules g n text x e =
    let rest = read_text (subgraph_layout rules g) text in
    let s = (passes (once LentLength (graph_lengths g && eqb n g.edges) ∷ graph_tests g) (passing (once TextLength (text_fits text) ∷ []) rest) x e).1 in
    let t = text_keeps (subgraph_layout rules g) (Whole g) (subgraph_kept rules g) text x (passes (once TextLength (text_fits text) ∷ []) rest x s).1 in
    ap length t.same ∙ t.keeps

-- What is yielded, where b is reported of it.
pub record Yielded {A B : Type 0} (f : A → B) (o : Outcome A) (b : B) : Type 0 where
  pub value : A
  pub yielded : o ≡ Ok value
  pub told : f value ≡ b

module _ {A B : Type 0} (f : A → B) where
  pub reported-yields : (o : Outcome A) (b : B) → Ok b ≡ reported f o → Yielded f o b
  reported-yields (Ok a) b e = let s : f a ≡ b = cc in record { value = a; yielded = refl; told = s }
  reported-yields (Err refusal) b e = zero_one (cc)

  pub reported-refuses : (o : Outcome A) (fault : Fault) (place : ℕ) → refuses fault place ≡ reported f o → o ≡ refuses fault place
  reported-refuses (Ok a) fault place e = zero_one (cc)
  reported-refuses (Err refusal) fault place e = cc

-- What the readers' answers say of the outcomes that they report.
module _ {a : (Outcome Shape)} {o : Outcome Graph} (says : a ≡ reported shape_of o) where
  pub graph_yielded : {s : Shape} → a ≡ Ok s → Yielded shape_of o s
  graph_yielded {s} is = reported-yields shape_of o s ((sym (is) ∙ says))

  pub graph_refused : {r : Refusal} → a ≡ Err r → o ≡ refuses r.fault r.place
  graph_refused {r} is = reported-refuses shape_of o r.fault r.place ((sym (is) ∙ says))

module _ {a : (Outcome (Unit {0}))} {o : Outcome (List ℤ)} (says : a ≡ reported (λ zs. tt {0}) o) where
  pub numbers_yielded : a ≡ (Ok tt) → Yielded (λ zs. tt {0}) o tt
  numbers_yielded is = reported-yields (λ zs. tt {0}) o tt ((sym (is) ∙ says))

  pub numbers_refused : {r : Refusal} → a ≡ Err r → o ≡ refuses r.fault r.place
  numbers_refused {r} is = reported-refuses (λ zs. tt {0}) o r.fault r.place
      ((sym (is) ∙ says))

module _ {a : (Outcome (Unit {0}))} {o : Outcome (List ℕ)} (says : a ≡ reported (λ x. tt {0}) o) where
  pub subgraph_yielded : a ≡ (Ok tt) → Yielded (λ x. tt {0}) o tt
  subgraph_yielded is = reported-yields (λ x. tt {0}) o tt ((sym (is) ∙ says))

  pub subgraph_refused : {r : Refusal} → a ≡ Err r → o ≡ refuses r.fault r.place
  subgraph_refused {r} is = reported-refuses (λ x. tt {0}) o r.fault r.place
      ((sym (is) ∙ says))
