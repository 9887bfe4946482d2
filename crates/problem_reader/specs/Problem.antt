-- What the reader of a problem answers, and what it leaves in the four arrays that it is lent.
use Rattle.std.specs.Prelude.{◌≡◌, List, ℕ, ℤ, pos, Result, Ok, Err}
use Rattle.graph.specs.declared.Shape.{Shape}
use Rattle.graph.specs.Graph.{shape_of}
use Rattle.report.specs.Programs.{Run, has, ends, run_output, Problem}
use Rattle.problem_reader.specs.declared.SourceRefusal.{SourceRefusal}

-- It tells the shape of the graph, or the first refusal and its source.
abbrev pub problem_shape : Problem → Shape
problem_shape P = shape_of P.graph

abbrev pub problem_says : Result Shape SourceRefusal → Run Shape
problem_says (Ok s) = has s
problem_says (Err r) = ends r.source r.refusal.fault r.refusal.place

-- After W, arrays of r, c, w and b numbers hold the graph's edges and the bounds, and then 0; after a refusal of either text they hold only 0.
pub record ProblemLeft (W : Run Problem) (r c w b : ℕ) (row column : List ℕ) (weight bound : List ℤ) : Type 0 where
  pub rows : row ≡ run_output r 0 (λ P. P.graph.row) W
  pub columns : column ≡ run_output c 0 (λ P. P.graph.column) W
  pub weights : weight ≡ run_output w (pos 0) (λ P. P.graph.weight) W
  pub bounds : bound ≡ run_output b (pos 0) (λ P. P.bound) W
