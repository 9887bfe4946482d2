-- What is accepted can be given to the method.
use Rattle.std.proofs.Common.{◌∙◌, sym, ap, length, replicate, arith}
use Rattle.graph.specs.Graph.{graph_of}
use Rattle.graph.proofs.Index.{index_given}
use Rattle.dual.specs.Solve.{lent_of}
use Rattle.duality.proofs.Passed.{SolvePassed, solve-passed}
use Rattle.solver.proofs.solve.Goals.{In_ok-check}
use Rattle.solver.proofs.solve.Goals as goal

-- What the tests have passed.
passed : (c : In_ok-check) → let a = c.args in
    SolvePassed (graph_of a.s a.row.now a.column.now a.weight.now) a.bound.now a.index.now
    (lent_of (length a.chosen.now) (length a.vertex_price.now) (length a.edge_price.now) (length a.workspace.now))
passed c =
    let a = c.args in
    solve-passed (graph_of a.s a.row.now a.column.now a.weight.now) a.bound.now a.index.now
    (lent_of (length a.chosen.now) (length a.vertex_price.now) (length a.edge_price.now) (length a.workspace.now)) (sym c.tested-check.ensures ∙ c.in_ok-check.was)

pub optimise-requires-clause-solvable : goal.optimise-requires-clause-solvable
optimise-requires-clause-solvable c =
    let P = passed (goal.at.optimise-requires-clause-solvable c).In_ok-check in
    record { bipartite = P.bipartite; passed = P.passed }

pub optimise-requires-clause-index_value : goal.optimise-requires-clause-index_value
optimise-requires-clause-index_value c =
    let P = passed (goal.at.optimise-requires-clause-index_value c).In_ok-check in
    let a = c.args in
    index_given (graph_of a.s a.row.now a.column.now a.weight.now) a.index.now P.passed.sound P.index_long P.index_passes

pub optimise-requires-clause-bounded : goal.optimise-requires-clause-bounded
optimise-requires-clause-bounded c = (passed (goal.at.optimise-requires-clause-bounded c).In_ok-check).bounded

pub optimise-requires-clause-vertex_price_len : goal.optimise-requires-clause-vertex_price_len
optimise-requires-clause-vertex_price_len c =
    let P = passed (goal.at.optimise-requires-clause-vertex_price_len c).In_ok-check in
    (c.fill-2.auto.out ∙ P.vertex_long, c.fill-3.auto.out ∙ P.edge_long, omega (arith, c.fill-4.auto.out, P.workspace_long, P.passed.sound.sizes.few))

pub optimise-requires-clause-chosen_value : goal.optimise-requires-clause-chosen_value
optimise-requires-clause-chosen_value c =
    let P = passed (goal.at.optimise-requires-clause-chosen_value c).In_ok-check in
    c.fill.ensures ∙ ap (λ n. replicate n 0) P.chosen_long
