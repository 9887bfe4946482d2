-- The test of the cover, and then the numbers from the tables.
use Rattle.std.proofs.Common.{[], ◌∷◌, ap, ◌∙◌}
use Rattle.std.proofs.lemmas.Result.{err_from_is_err_and}
use Rattle.std.specs.Prelude.{Ok}
use Rattle.graph.specs.Graph.{graph_of}
use Rattle.dual.specs.Measure.{measures, cover_test}
use Rattle.sums.specs.Lent.{prices_in}
use Rattle.checks.proofs.Tests.{part-refuses, part-passes}
use Rattle.measure.proofs.FromTables.{edge_among, cover_tested, measures-by}
use Rattle.measure.proofs.measure_tabled.Goals as goal

pub check_each-requires : goal.check_each-requires
check_each-requires c =
    let a = c.args in
    let g = graph_of a.s a.row.now a.column.now a.weight.now in
    let P = prices_in a.prices in
    let t = c.cover_table in
    edge_among g a.bound.now a.chosen.now P t.new.table t.ensures c.lowest_uncovered.ensures c.requires.subgraph_shown.passed.sound.sizes.few

pub returns-in_err-check_each : goal.returns-in_err-check_each
returns-in_err-check_each c =
    let a = c.args in
    let g = graph_of a.s a.row.now a.column.now a.weight.now in
    let P = prices_in a.prices in
    let t = c.cover_table in
    let tested = cover_tested g a.bound.now a.chosen.now P t.new.table t.ensures c.lowest_uncovered.ensures c.check_each.ensures in
    let p = err_from_is_err_and c.from_residual.result c.from_residual.ensures.1 in
    rw (p.1, p.2)
    (part-refuses (cover_test g P ∷ []) [] (Ok (measures g a.bound.now a.chosen.now P)) tested c.in_err-check_each.was)

pub returns : goal.returns
returns c =
    let a = c.args in
    let g = graph_of a.s a.row.now a.column.now a.weight.now in
    let P = prices_in a.prices in
    let t = c.cover_table in
    let tested = cover_tested g a.bound.now a.chosen.now P t.new.table t.ensures c.lowest_uncovered.ensures c.check_each.ensures in
    part-passes (cover_test g P ∷ []) [] (Ok (measures g a.bound.now a.chosen.now P)) tested c.in_ok-check_each.was
    (ap Ok (c.numbers.ensures ∙ measures-by g a.bound.now a.chosen.now P t.new.table c.requires.tabled t.ensures))
