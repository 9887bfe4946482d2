-- The tests of the degrees, the prices and the odd sets in their order, and then what follows from the tables.
use Rattle.std.proofs.Common.{[], ◌∷◌, arith}
use Rattle.std.proofs.lemmas.Result.{err_from_is_err_and}
use Rattle.std.specs.Prelude.{Ok}
use Rattle.graph.specs.Graph.{graph_of}
use Rattle.dual.specs.Measure.{measures, set_test, cover_test}
use Rattle.sums.specs.Lent.{prices_in}
use Rattle.checks.proofs.Tests.{part-refuses, part-passes}
use Rattle.measure.proofs.Shown.{prices_refused, last_decide}
use Rattle.measure.proofs.FromTables.{degrees_say, degrees_small, set_among, sets_tested, few_sets}
use Rattle.measure.proofs.measure_passed.Goals as goal

pub returns-in_err-check_prices : goal.returns-in_err-check_prices
returns-in_err-check_prices c =
    let a = c.args in
    let g = graph_of a.s a.row.now a.column.now a.weight.now in
    let P = prices_in a.prices in
    let q = c.check_prices in
    let say = degrees_say g a.bound.now a.chosen.now P c.degrees-degree.result q.result c.degrees-degree.ensures
    c.requires.passed.sound.sizes.order c.requires.bounded q.ensures in
    let p = err_from_is_err_and c.from_residual.result c.from_residual.ensures.1 in
    rw (p.1, p.2) (prices_refused g a.bound.now a.chosen.now P q.result say c.in_err-check_prices.was)

pub check_each-requires : goal.check_each-requires
check_each-requires c =
    let a = c.args in
    let g = graph_of a.s a.row.now a.column.now a.weight.now in
    let P = prices_in a.prices in
    set_among g a.bound.now a.chosen.now P c.load_table-load.result c.load_table-load.ensures c.lowest_set-broken.ensures

pub returns-in_err-check_each : goal.returns-in_err-check_each
returns-in_err-check_each c =
    let a = c.args in
    let g = graph_of a.s a.row.now a.column.now a.weight.now in
    let P = prices_in a.prices in
    let q = c.check_prices in
    let say = degrees_say g a.bound.now a.chosen.now P c.degrees-degree.result q.result c.degrees-degree.ensures
    c.requires.passed.sound.sizes.order c.requires.bounded q.ensures in
    let tested = sets_tested g a.bound.now a.chosen.now P c.load_table-load.result c.load_table-load.ensures c.lowest_set-broken.ensures c.check_each.ensures in
    let p = err_from_is_err_and c.from_residual-in_err-check_each.result c.from_residual-in_err-check_each.ensures.1 in
    rw (p.1, p.2)
    (last_decide g a.bound.now a.chosen.now P q.result say c.in_ok-check_prices.was
    (part-refuses (set_test g a.bound.now P ∷ []) (cover_test g P ∷ []) (Ok (measures g a.bound.now a.chosen.now P)) tested c.in_err-check_each.was))

pub covered_table-covered-requires-clause-sets_le_most_sets : goal.covered_table-covered-requires-clause-sets_le_most_sets
covered_table-covered-requires-clause-sets_le_most_sets c =
    let a = c.args in
    let g = graph_of a.s a.row.now a.column.now a.weight.now in
    let P = prices_in a.prices in
    let few = few_sets g a.bound.now a.chosen.now P c.load_table-load.result c.load_table-load.ensures c.lowest_set-broken.ensures c.check_each.ensures c.in_ok-check_each.was in
    (few, c.requires.lengths.set_vertices, c.requires.lengths.set_edges)

pub measure_tabled-requires-clause-tabled : goal.measure_tabled-requires-clause-tabled
measure_tabled-requires-clause-tabled c =
    let a = c.args in
    let g = graph_of a.s a.row.now a.column.now a.weight.now in
    let P = prices_in a.prices in
    let h = c.requires in
    let few = few_sets g a.bound.now a.chosen.now P c.load_table-load.result c.load_table-load.ensures c.lowest_set-broken.ensures c.check_each.ensures c.in_ok-check_each.was in
    let d = c.degrees-degree in
    let q = c.check_prices in
    let order = h.passed.sound.sizes.order in
    let load = c.load_table-load.ensures in
    let covered = c.covered_table-covered.ensures in
    record {
      few = few;
      addable = record {
        degrees = degrees_small g a.bound.now a.chosen.now P d.result q.result d.ensures order h.bounded q.ensures c.in_ok-check_prices.was;
        sets = λ k b. (omega (arith, (load k (omega (arith, few))).1), omega (arith, (covered k b).1));
      };
      degrees = λ v b. d.ensures v (omega (arith, order));
      loads = λ k b. (load k (omega (arith, few))).0;
      covered = λ k b. (covered k b).0;
    }

pub returns : goal.returns
returns c =
    let a = c.args in
    let g = graph_of a.s a.row.now a.column.now a.weight.now in
    let P = prices_in a.prices in
    let q = c.check_prices in
    let say = degrees_say g a.bound.now a.chosen.now P c.degrees-degree.result q.result c.degrees-degree.ensures
    c.requires.passed.sound.sizes.order c.requires.bounded q.ensures in
    let tested = sets_tested g a.bound.now a.chosen.now P c.load_table-load.result c.load_table-load.ensures c.lowest_set-broken.ensures c.check_each.ensures in
    last_decide g a.bound.now a.chosen.now P q.result say c.in_ok-check_prices.was
    (part-passes (set_test g a.bound.now P ∷ []) (cover_test g P ∷ []) (Ok (measures g a.bound.now a.chosen.now P)) tested c.in_ok-check_each.was
    c.measure_tabled.ensures)
