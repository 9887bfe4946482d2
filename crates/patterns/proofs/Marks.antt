-- What the lines of a subgraph's text do, of which none is refused: the header, the sizes that are read, and one mark more.
use Rattle.std.specs.Prelude.{Option, None, Some}
use mathlib.Core.Path.{◌≡◌, refl, sym, ap, ap₂, ◌∙◌}
use mathlib.Core.Bool.{Bool, true, false, cond, ◌&&◌}
use mathlib.Core.List.{List, [], ◌∷◌}
use Prim.Native.Nat.{ℕ, ◌+◌, ◌≤◌}
use lib.Dec.{leb, eqb}
use borrow.Author.Tests.{eqb-true, leb-true}
use lib.ListN.{get_or, set, replicate}
use Rattle.graph.specs.declared.Kind.{Kind}
use Rattle.graph.specs.declared.Kind.TheVariants.{Bipartite, General}
use Rattle.graph.specs.declared.Fault.TheVariants.{Header, Sizes, Ends, SameEnds, Disagreement}
use Rattle.graph.specs.Graph.{Graph, sizes_in_range, ends_in_range}
use Rattle.graph.proofs.Passing.{zero_one}
use Rattle.graph.proofs.Ranges.{both}
use Rattle.layout.specs.declared.Field.TheVariants as Field
use Rattle.layout.specs.Text.{bytes, header}
use Rattle.layout.specs.Lines.{goes, stops}
use Rattle.layout.specs.GraphText.{graph_header}
use Rattle.layout.specs.SubgraphText.{subgraph_kind, kinds_agree, subgraph_header, Marked, subgraph_sizes, edge_with, subgraph_mark, subgraph_edge}
use Rattle.readback.proofs.ReadBack.{marks_so_far}

-- ---- the header line

-- The header of a subgraph is that of a graph without weights.
module _ (l : List ℕ) (kind : Kind) where
  abbrev general : Bool
  general = header (bytes "matrix" ∷ bytes "coordinate" ∷ bytes "pattern" ∷ bytes "general" ∷ []) l

  abbrev symmetric : Bool
  symmetric = header (bytes "matrix" ∷ bytes "coordinate" ∷ bytes "pattern" ∷ bytes "symmetric" ∷ []) l

  pub kind_header : subgraph_kind l ≡ Some kind → graph_header Field.Pattern l ≡ goes kind
  kind_header e = go general symmetric e
    where
      go : (a b : Bool) → cond a (Some Bipartite) (cond b (Some General) None) ≡ Some kind
          → cond a (goes Bipartite) (cond b (goes General) (stops Header)) ≡ goes kind
      go true b e = cc
      go false true e = cc
      go false false e = zero_one (cc)

  pub header-kind : graph_header Field.Pattern l ≡ goes kind → subgraph_kind l ≡ Some kind
  header-kind e = go general symmetric e
    where
      go : (a b : Bool) → cond a (goes Bipartite) (cond b (goes General) (stops Header)) ≡ goes kind
          → cond a (Some Bipartite) (cond b (Some General) None) ≡ Some kind
      go true b e = cc
      go false true e = cc
      go false false e = zero_one (cc)

same_kind-is : (a b : Kind) → kinds_agree a b ≡ true → a ≡ b
same_kind-is Bipartite Bipartite e = refl
same_kind-is Bipartite General e = zero_one (cc)
same_kind-is General Bipartite e = zero_one (cc)
same_kind-is General General e = refl

-- The kind that is read is the graph's.
pub kind_read : (g : Graph) (o : Option Kind) (u : Unit {0}) → subgraph_header g o ≡ goes u → o ≡ Some g.kind
kind_read g None u e = zero_one (cc)
kind_read g (Some kind) u e = go (kinds_agree kind g.kind) refl e
  where
    go : (b : Bool) → kinds_agree kind g.kind ≡ b → cond b (goes tt) (stops Disagreement) ≡ goes u → ◌≡◌ {A = Option Kind} (Some kind) (Some g.kind)
    go true is e = ap Some (same_kind-is kind g.kind is)
    go false is e = zero_one (cc)

-- ---- the size line

-- The sizes are the graph's, and the number of edges is at most the graph's.
pub record MarksCounted (g : Graph) (o : Option (ℕ × ℕ × ℕ)) (d : Marked) : Type 0 where
  pub count : ℕ
  pub read : o ≡ Some (g.rows, g.columns, count)
  pub range : sizes_in_range g.kind g.rows g.columns count ≡ true
  pub few : count ≤ g.edges
  pub is : marks_so_far count 0 (replicate g.edges 0) ≡ d

pub count_read : (g : Graph) (o : Option (ℕ × ℕ × ℕ)) (d : Marked) → subgraph_sizes g o ≡ goes d → MarksCounted g o d
count_read g None d e = zero_one (cc)
count_read g (Some (r, c, n)) d e =
    go (sizes_in_range g.kind r c n) (eqb r g.rows && eqb c g.columns && leb n g.edges) refl refl e
  where
    go : (a b : Bool) → sizes_in_range g.kind r c n ≡ a → eqb r g.rows && eqb c g.columns && leb n g.edges ≡ b
        → cond a (cond b (goes (marks_so_far n 0 (replicate g.edges 0))) (stops Disagreement)) (stops Sizes) ≡ goes d → MarksCounted g (Some (r, c, n)) d
    go true true p q e =
        let w = both (eqb r g.rows && eqb c g.columns) (leb n g.edges) q in
        let v = both (eqb r g.rows) (eqb c g.columns) w.0 in
        let i : r ≡ g.rows = eqb-true r g.rows v.0 in
        let j : c ≡ g.columns = eqb-true c g.columns v.1 in
        record {
          count = n;
          read = ap₂ (λ (x y : ℕ). Some (x, y, n)) i j;
          range = sym (ap₂ (λ (x y : ℕ). sizes_in_range g.kind x y n) i j) ∙ p;
          few = leb-true n g.edges w.1;
          is = cc;
        }
    go true false p q e = zero_one (cc)
    go false b p q e = zero_one (cc)

-- ---- the line of an edge

-- A line names an edge of the graph, whose mark was 0 and is set.
pub record Named (g : Graph) (b : Marked) (o : Option (ℕ × ℕ)) (d : Marked) : Type 0 where
  pub row : ℕ
  pub column : ℕ
  pub edge : ℕ
  pub read : o ≡ Some (row, column)
  pub ends : ends_in_range g.kind g.rows g.columns row column ≡ true
  pub found : edge_with g row column ≡ Some edge
  pub clear : get_or b.marks edge 0 ≡ 0
  pub is : marks_so_far b.count (b.came + 1) (set b.marks edge 1) ≡ d

pub mark_read : (g : Graph) (b : Marked) (o : Option (ℕ × ℕ)) (d : Marked) → subgraph_edge g b o ≡ goes d → Named g b o d
mark_read g b None d e = zero_one (cc)
mark_read g b (Some (r, c)) d e = in-range (ends_in_range g.kind g.rows g.columns r c) (edge_with g r c) refl refl e
  where
    clear_then : (n : ℕ) (t : Bool) → ends_in_range g.kind g.rows g.columns r c ≡ true → edge_with g r c ≡ Some n → eqb (get_or b.marks n 0) 0 ≡ t
        → cond t (goes (marks_so_far b.count (b.came + 1) (set b.marks n 1))) (stops SameEnds) ≡ goes d → Named g b (Some (r, c)) d
    clear_then n true p q s e =
        record { row = r; column = c; edge = n; read = refl; ends = p; found = q; clear = eqb-true (get_or b.marks n 0) 0 s; is = cc }
    clear_then n false p q s e = zero_one (cc)

    in-range : (t : Bool) (o : Option ℕ) → ends_in_range g.kind g.rows g.columns r c ≡ t → edge_with g r c ≡ o
        → cond t (subgraph_mark b o) (stops Ends) ≡ goes d → Named g b (Some (r, c)) d
    in-range true (Some n) p q e = clear_then n (eqb (get_or b.marks n 0) 0) p q refl e
    in-range true None p q e = zero_one (cc)
    in-range false o p q e = zero_one (cc)
