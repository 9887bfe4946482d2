-- What the lines of a graph's text do, of which none is refused: the sizes that are read, and one edge more.
use Rattle.std.specs.Prelude.{Option, None, Some}
use mathlib.Core.Path.{◌≡◌, refl, ap}
use mathlib.Core.Bool.{Bool, true, false, cond}
use mathlib.Core.List.{List, [], ◌∷◌, ◌++◌}
use Prim.Native.Nat.{ℕ, suc, ◌≤◌, ◌<◌}
use native.Mathlib.Omega.{arith}
use lib.IntN.{ℤ, pos}
use lib.ListN.{length, length-append, get_or-append}
use lib.Seq.{get_or_at}
use Rattle.graph.specs.declared.Kind.{Kind}
use Rattle.graph.specs.declared.Fault.TheVariants.{Sizes, Ends, Weight, SameEnds}
use Rattle.graph.specs.Graph.{Graph, shape_in_range, ends_in_range, weight_in_range, row_at, column_at, weight_at, joins, joined}
use Rattle.graph.proofs.Passing.{zero_one, some_cong}
use Rattle.layout.specs.Lines.{goes, stops}
use Rattle.layout.specs.GraphText.{no_edges, shape_from, graph_sizes, with_edge, graph_edge}

-- ---- the size line

pub record Sized (kind : Kind) (o : Option (ℕ × ℕ × ℕ)) (d : Graph) : Type 0 where
  pub sizes : ℕ × ℕ × ℕ
  pub read : o ≡ Some sizes
  pub range : shape_in_range (shape_from kind sizes) ≡ true
  pub is : no_edges (shape_from kind sizes) ≡ d

pub sizes-read : (kind : Kind) (o : Option (ℕ × ℕ × ℕ)) (d : Graph) → graph_sizes kind o ≡ goes d → Sized kind o d
sizes-read kind None d e = zero_one (cc)
sizes-read kind (Some s) d e = go (shape_in_range (shape_from kind s)) refl e
  where
    go : (b : Bool) → shape_in_range (shape_from kind s) ≡ b → cond b (goes (no_edges (shape_from kind s))) (stops Sizes) ≡ goes d → Sized kind (Some s) d
    go true is e = record { sizes = s; read = refl; range = is; is = cc }
    go false is e = zero_one (cc)

-- ---- the line of an edge

-- An edge in range, with the ends of no earlier one, is added to g, which gives d.
pub record Added (g : Graph) (r c : ℕ) (w : ℤ) (d : Graph) : Type 0 where
  pub ends : ends_in_range g.kind g.rows g.columns r c ≡ true
  pub weight : weight_in_range w ≡ true
  pub apart : joined g (length g.row) r c ≡ false
  pub is : with_edge g r c w ≡ d

pub record AddedFrom (g : Graph) (o : Option (ℕ × ℕ × ℤ)) (d : Graph) : Type 0 where
  pub edge : ℕ × ℕ × ℤ
  pub read : o ≡ Some edge
  pub added : Added g edge.0 edge.1 edge.2 d

pub edge_read : (g : Graph) (o : Option (ℕ × ℕ × ℤ)) (d : Graph) → graph_edge g o ≡ goes d → AddedFrom g o d
edge_read g None d e = zero_one (cc)
edge_read g (Some (r, c, w)) d e =
    go (ends_in_range g.kind g.rows g.columns r c) (weight_in_range w) (joined g (length g.row) r c) refl refl refl e
  where
    go : (x y z : Bool) → ends_in_range g.kind g.rows g.columns r c ≡ x → weight_in_range w ≡ y → joined g (length g.row) r c ≡ z
        → cond x (cond y (cond z (stops SameEnds) (goes (with_edge g r c w))) (stops Weight)) (stops Ends) ≡ goes d → AddedFrom g (Some (r, c, w)) d
    go true true false p q s e = record { edge = (r, c, w); read = refl; added = record { ends = p; weight = q; apart = s; is = cc } }
    go true true true p q s e = zero_one (cc)
    go true false z p q s e = zero_one (cc)
    go false y z p q s e = zero_one (cc)

-- And back: such an edge is not refused.
pub edge_added : (g : Graph) (r c : ℕ) (w : ℤ) (d : Graph) → Added g r c w d → graph_edge g (Some (r, c, w)) ≡ goes d
edge_added g r c w d a = rw (a.ends, a.weight, a.apart) (ap goes a.is)

-- ---- the edges of a graph with one more

pub length-snoc : {A : Type 0} (xs : List A) (x : A) → length (xs ++ (x ∷ [])) ≡ suc (length xs)
length-snoc xs x = let e : length (x ∷ []) ≡ 1 = refl in omega (arith, length-append xs (x ∷ []))

module _ (g : Graph) (r c : ℕ) (w : ℤ) (columns : length g.column ≡ length g.row) where
  pub new_row : row_at (with_edge g r c w) (length g.row) ≡ r
  new_row = get_or_at g.row r [] 0 (length g.row) refl

  pub new_column : column_at (with_edge g r c w) (length g.row) ≡ c
  new_column = get_or_at g.column c [] 0 (length g.row) columns

  pub new_weight : length g.weight ≡ length g.row → weight_at (with_edge g r c w) (length g.row) ≡ w
  new_weight weights = get_or_at g.weight w [] (pos 0) (length g.row) weights

  module _ (e : ℕ) (l : e < length g.row) where
    pub old_row : row_at (with_edge g r c w) e ≡ row_at g e
    old_row = get_or-append g.row (r ∷ []) 0 e l

    pub old_column : column_at (with_edge g r c w) e ≡ column_at g e
    old_column = get_or-append g.column (c ∷ []) 0 e (omega (arith, columns))

    pub old_weight : length g.weight ≡ length g.row → weight_at (with_edge g r c w) e ≡ weight_at g e
    old_weight weights = get_or-append g.weight (w ∷ []) (pos 0) e (omega (arith, weights))

  -- The edges before the new one join what they joined.
  pub old_joined : (n x y : ℕ) → n ≤ length g.row → joined (with_edge g r c w) n x y ≡ joined g n x y
  old_joined n x y h =
      some_cong n (joins (with_edge g r c w) x y) (joins g x y)
      (λ k l. let m : k < length g.row = omega arith in rw (old_row k m, old_column k m))
