-- The arrays that a problem is read into.
use Rattle.std.specs.Prelude.{Ok, Err, Result}
use Prim.Native.Nat.{ℕ, ◌-◌}
use mathlib.Core.Path.{◌≡◌, refl, sym, ap, ap₂, ◌∙◌, subst}
use mathlib.Core.Bool.{true}
use mathlib.Core.List.{List, [], ◌∷◌}
use lib.Dec.{eqb}
use lib.IntN.{ℤ, pos}
use lib.ListN.{length, take, replicate, length-replicate}
use lib.Seq.{take_at}
use Rattle.graph.specs.declared.Fault.{Fault}
use Rattle.graph.specs.declared.Fault.TheVariants.{LentLength}
use Rattle.graph.specs.declared.Refusal.{Refusal}
use Rattle.graph.specs.declared.Shape.{Shape}
use Rattle.graph.specs.Limits.{most_vertices}
use Rattle.graph.specs.Refusal.{Outcome, once, filled}
use Rattle.graph.specs.Graph.{Graph, graph_of, shape_of, shape_in_range, vertices, vertices_in}
use Rattle.graph.specs.Tests.{graph_lengths}
use Rattle.graph.specs.Passed.{SizesHold}
use Rattle.graph.proofs.Ranges.{sizes_hold}
use Rattle.graph.proofs.Passing.{zero_one, passes}
use Rattle.layout.specs.declared.Rules.TheVariants.{New}
use Rattle.layout.specs.declared.Field.TheVariants as Field
use Rattle.layout.specs.declared.Numbers.TheVariants.{Bounds}
use Rattle.layout.specs.GraphText.{read_graph}
use Rattle.layout.specs.NumberText.{read_numbers}
use Rattle.lent.proofs.Lengths.{lengths_hold}
use Rattle.report.specs.declared.Source.{Source}
use Rattle.report.specs.Programs.{Run, has, ends, run_reported, run_output, came_from, and_then, Problem, read_bounds, read_problem, problem_in}
use Rattle.problem_reader.specs.declared.SourceRefusal.{SourceRefusal}
use Rattle.problem_reader.specs.Problem.{problem_shape, problem_says, ProblemLeft}
use Rattle.problem_reader.proofs.Kept.{graph_whole, numbers_filled}
use Rattle.problem_reader.proofs.Answered.{with_bounds}

-- ---- the four arrays, of 1,024 and 128 numbers

-- The graph of a shape whose edges stand in the first numbers of three arrays.
abbrev pub stored_graph : Shape → List ℕ → List ℕ → List ℤ → Graph
stored_graph s row column weight = graph_of s (take s.edges row) (take s.edges column) (take s.edges weight)

-- The first m numbers of an output that is filled with m.
first_of : {N : Type 0} (n m : ℕ) (z : N) (xs : List N) {out : List N} → out ≡ filled n z xs → length xs ≡ m → take m out ≡ xs
first_of n m z xs e long = ap (take m) e ∙ take_at xs (replicate (n - length xs) z) m long

-- A graph, of which s is told, stands in the first numbers of three arrays that are filled with it.
pub stored_is : (g : Graph) (s : Shape) (n k : ℕ) {row column : List ℕ} {weight : List ℤ} → graph_lengths g ≡ true → shape_of g ≡ s
    → row ≡ filled n 0 g.row → column ≡ filled n 0 g.column → weight ≡ filled k (pos 0) g.weight → stored_graph s row column weight ≡ g
stored_is g s n k {row} {column} {weight} lengths told rows columns weights =
    let m = g.edges in
    let long = lengths_hold g lengths in
    ap (λ (t : Shape). stored_graph t row column weight) (sym told)
    ∙ ap (λ (xs : List ℕ). graph_of (shape_of g) xs (take m column) (take m weight)) (first_of n m 0 g.row rows long.0)
    ∙ ap (λ (xs : List ℕ). graph_of (shape_of g) g.row xs (take m weight)) (first_of n m 0 g.column columns long.1)
    ∙ ap (λ (xs : List ℤ). graph_of (shape_of g) g.row g.column xs) (first_of k m (pos 0) g.weight weights long.2)

-- A problem that is read is a graph and bounds that are read.
pub record ReadParts (r c w b : ℕ) (sheet limits : List ℕ) (P : Problem) : Type 0 where
  pub graph_read : read_graph r c w sheet ≡ Ok P.graph
  pub bounds_read : read_bounds b (vertices P.graph) limits ≡ Ok P.bound

module _ (r c w b : ℕ) (sheet limits : List ℕ) where
  read_parts : (P : Problem) → read_problem r c w b sheet limits ≡ has P → ReadParts r c w b sheet limits P
  unfolding read_problem
  read_parts P = go (read_graph r c w sheet) refl
    where
      bounds : (g : Graph) (o : Outcome (List ℤ)) → read_graph r c w sheet ≡ Ok g → read_bounds b (vertices g) limits ≡ o → with_bounds g o ≡ has P
          → ReadParts r c w b sheet limits P
      bounds g (Ok zs) is e h =
          let p : ◌≡◌ {A = Problem} (record { graph = g; bound = zs }) P = cc in
          subst (ReadParts r c w b sheet limits) p (record { graph_read = is; bounds_read = e })
      bounds g (Err refusal) is e h = zero_one (cc)

      go : (o : Outcome Graph) → read_graph r c w sheet ≡ o
          → and_then (came_from Source.Sheet o) (λ g. with_bounds g (read_bounds b (vertices g) limits)) ≡ has P → ReadParts r c w b sheet limits P
      go (Ok g) is h = bounds g (read_bounds b (vertices g) limits) is refl h
      go (Err refusal) is h = zero_one (cc)

-- The arrays have room for the problem, and hold it.
pub record Stored (sheet limits : List ℕ) (s : Shape) (row column : List ℕ) (weight bound : List ℤ) : Type 0 where
  pub sizes : SizesHold s.kind s.rows s.columns s.edges
  pub row_long : length row ≡ 1024
  pub column_long : length column ≡ 1024
  pub weight_long : length weight ≡ 1024
  pub bound_long : length bound ≡ 128
  pub same : has (record { graph = stored_graph s row column weight; bound = take (vertices_in s) bound }) ≡ problem_in sheet limits

-- It is the problem of the arrays' parts that are lent of them, where there are n vertices.
pub stored_problem : {sheet limits : List ℕ} {s : Shape} {row column : List ℕ} {weight bound : List ℤ} {n : ℕ} → Stored sheet limits s row column weight bound
    → n ≡ vertices_in s → has (record { graph = stored_graph s row column weight; bound = take n bound }) ≡ problem_in sheet limits
stored_problem {s = s} {row} {column} {weight} {bound} S all =
    ap (λ k. has (record { graph = stored_graph s row column weight; bound = take k bound })) all ∙ S.same

-- What was read, where s is told of it.
record ShapeTold (W : Run Problem) (s : Shape) : Type 0 where
  pub problem : Problem
  pub is : W ≡ has problem
  pub shape : problem_shape problem ≡ s

told-has : (W : Run Problem) (s : Shape) → has s ≡ run_reported problem_shape W → ShapeTold W s
told-has (has P) s e = let h : problem_shape P ≡ s = cc in record { problem = P; is = refl; shape = h }
told-has (ends source fault place) s e = zero_one (cc)

told-ends : (W : Run Problem) (source : Source) (fault : Fault) (place : ℕ) → ends source fault place ≡ run_reported problem_shape W → ends source fault place ≡ W
told-ends (has P) source fault place e = zero_one (cc)
told-ends (ends s f p) source fault place e = cc

-- What the programs lend: arrays that hold 0.
abbrev pub lent_edges : ℕ
lent_edges = length {A = ℕ} (replicate 1024 0)

abbrev pub weights_lent : ℕ
weights_lent = length (replicate 1024 (pos 0))

abbrev pub bounds_lent : ℕ
bounds_lent = length (replicate 128 (pos 0))

pub edges_lent : lent_edges ≡ 1024
edges_lent = length-replicate {A = ℕ} 1024 0

pub weights-lent : weights_lent ≡ 1024
weights-lent = length-replicate 1024 (pos 0)

bounds-lent : bounds_lent ≡ 128
bounds-lent = length-replicate 128 (pos 0)

-- A reader takes them as arrays of those lengths.
pub lengths_lent : {A : Type 0} (reader : ℕ → ℕ → ℕ → ℕ → A) → reader lent_edges lent_edges weights_lent bounds_lent ≡ reader 1024 1024 1024 128
lengths_lent reader =
    ap (λ k. reader k lent_edges weights_lent bounds_lent) edges_lent
    ∙ ap (λ k. reader 1024 k weights_lent bounds_lent) edges_lent
    ∙ ap (λ k. reader 1024 1024 k bounds_lent) weights-lent
    ∙ ap (reader 1024 1024 1024) bounds-lent

abbrev lent_problem : List ℕ → List ℕ → Run Problem
lent_problem sheet limits = read_problem lent_edges lent_edges weights_lent bounds_lent sheet limits

module _ (sheet limits : List ℕ) where
  lent_is : lent_problem sheet limits ≡ problem_in sheet limits
  lent_is = lengths_lent (λ r c w b. read_problem r c w b sheet limits)

  -- The reader of a problem has answered a.
  module _ {a : Result Shape SourceRefusal} (says : problem_says a ≡ run_reported problem_shape (lent_problem sheet limits)) where
    pub problem_ended : {source : Source} {f : Refusal} → a ≡ Err (record { source = source; refusal = f }) → ends source f.fault f.place ≡ problem_in sheet limits
    problem_ended {source} {f} is =
        told-ends (lent_problem sheet limits) source f.fault f.place (sym (ap problem_says is) ∙ says) ∙ lent_is

    module _ {s : Shape} (is : a ≡ Ok s) where
      told-problem : ShapeTold (lent_problem sheet limits) s
      told-problem = told-has (lent_problem sheet limits) s (sym (ap problem_says is) ∙ says)

      abbrev P : Problem
      P = told-problem.problem

      parts : ReadParts lent_edges lent_edges weights_lent bounds_lent sheet limits P
      parts = read_parts lent_edges lent_edges weights_lent bounds_lent sheet limits P told-problem.is

      whole : (graph_lengths P.graph ≡ true) × (shape_in_range (shape_of P.graph) ≡ true)
      whole = graph_whole New Field.Integer lent_edges lent_edges weights_lent sheet P.graph parts.graph_read

      pub told-sizes : SizesHold s.kind s.rows s.columns s.edges
      told-sizes =
          subst (λ (t : Shape). SizesHold t.kind t.rows t.columns t.edges) told-problem.shape
          (sizes_hold P.graph.kind P.graph.rows P.graph.columns P.graph.edges whole.1)

      module _ {row column : List ℕ} {weight bound : List ℤ}
          (L : ProblemLeft (lent_problem sheet limits) lent_edges lent_edges weights_lent bounds_lent row column weight bound) where
        graph_stored : stored_graph s row column weight ≡ P.graph
        graph_stored =
            let e = told-problem.is in
            stored_is P.graph s lent_edges weights_lent whole.0 told-problem.shape
            (L.rows ∙ ap (run_output lent_edges 0 (λ (Q : Problem). Q.graph.row)) e)
            (L.columns ∙ ap (run_output lent_edges 0 (λ (Q : Problem). Q.graph.column)) e)
            (L.weights ∙ ap (run_output weights_lent (pos 0) (λ (Q : Problem). Q.graph.weight)) e)

        bounds_stored : take (vertices_in s) bound ≡ P.bound
        bounds_stored =
            let n = vertices P.graph in
            let rest = read_numbers Bounds n n limits in
            let e = (passes (once LentLength (eqb bounds_lent most_vertices) ∷ []) rest P.bound parts.bounds_read).1 in
            let long = (numbers_filled New Bounds n n limits P.bound e).read in
            ap (λ (t : Shape). take (vertices_in t) bound) (sym told-problem.shape)
            ∙ first_of bounds_lent n (pos 0) P.bound (L.bounds ∙ ap (run_output bounds_lent (pos 0) (λ (Q : Problem). Q.bound)) told-problem.is) long

        pub stored_in : length row ≡ lent_edges → length column ≡ lent_edges → length weight ≡ weights_lent → length bound ≡ bounds_lent →
            Stored sheet limits s row column weight bound
        stored_in row-long column-long weight-long bound-long = record {
          sizes = told-sizes;
          row_long = row-long ∙ edges_lent;
          column_long = column-long ∙ edges_lent;
          weight_long = weight-long ∙ weights-lent;
          bound_long = bound-long ∙ bounds-lent;
          same =
              ap₂ (λ (g : Graph) (zs : List ℤ). has (record { graph = g; bound = zs })) graph_stored bounds_stored
              ∙ sym told-problem.is ∙ lent_is;
        }
