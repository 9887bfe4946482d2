-- The graph's tests first, and then those of the bounds and the marks, each over as many items as the graph says.
use Rattle.std.proofs.Common.{◌&&◌, [], ◌∷◌, length, sym, ap, ◌∙◌, arith}
use Rattle.std.proofs.lemmas.Result.{err_from_is_err_and}
use Rattle.std.specs.Prelude.{Ok}
use Rattle.graph.specs.declared.Fault.TheVariants.{LentLength}
use Rattle.graph.specs.Refusal.{once, lowest}
use Rattle.graph.specs.Graph.{graph_of}
use Rattle.graph.specs.Tests.{graph_lengths, graph_tests, bound_test, mark_test}
use Rattle.lent.proofs.Lengths.{lent_passed}
use Rattle.checks.proofs.Tests.{part-refuses, part-passes, place_fits}
use Rattle.measure.proofs.check_subgraph.Goals as goal

pub returns-in_err-check_lent : goal.returns-in_err-check_lent
returns-in_err-check_lent c =
    let g = graph_of c.args.s c.args.row.now c.args.column.now c.args.weight.now in
    let graphs = once LentLength (graph_lengths g && c.args.others) ∷ graph_tests g in
    let p = err_from_is_err_and c.from_residual.result c.from_residual.ensures.1 in
    rw (p.1, p.2)
    (part-refuses graphs (bound_test g c.args.bound.now ∷ mark_test g c.args.chosen.now ∷ []) (Ok tt) c.check_lent.ensures c.in_err-check_lent.was)

pub check_each-requires : goal.check_each-requires
check_each-requires c = λ v e.
    let g = graph_of c.args.s c.args.row.now c.args.column.now c.args.weight.now in
    let h = lent_passed g c.args.others (Ok tt) tt (sym c.check_lent.ensures ∙ c.in_ok-check_lent.was) in
    place_fits (length c.args.bound.now) _ (sym c.lowest_bound.ensures ∙ e) (omega (arith, (c.requires h.1).0, h.0.sound.sizes.order))

pub returns-in_err-check_each : goal.returns-in_err-check_each
returns-in_err-check_each c =
    let g = graph_of c.args.s c.args.row.now c.args.column.now c.args.weight.now in
    let h = lent_passed g c.args.others (Ok tt) tt (sym c.check_lent.ensures ∙ c.in_ok-check_lent.was) in
    let graphs = once LentLength (graph_lengths g && c.args.others) ∷ graph_tests g in
    let bounds = bound_test g c.args.bound.now in
    let marks = mark_test g c.args.chosen.now in
    let p = err_from_is_err_and c.from_residual-in_err-check_each.result c.from_residual-in_err-check_each.ensures.1 in
    rw (p.1, p.2)
    (part-passes graphs (bounds ∷ marks ∷ []) (Ok tt) c.check_lent.ensures c.in_ok-check_lent.was
    (part-refuses (bounds ∷ []) (marks ∷ []) (Ok tt)
    (c.check_each.ensures bounds.items bounds.keeps (c.lowest_bound.ensures ∙ ap (λ n. lowest n bounds.keeps) (c.requires h.1).0)) c.in_err-check_each.was))

pub check_each-requires-2 : goal.check_each-requires-2
check_each-requires-2 c = λ v e.
    let g = graph_of c.args.s c.args.row.now c.args.column.now c.args.weight.now in
    let h = lent_passed g c.args.others (Ok tt) tt (sym c.check_lent.ensures ∙ c.in_ok-check_lent.was) in
    place_fits (length c.args.chosen.now) _ (sym c.lowest_mark.ensures ∙ e) (omega (arith, (c.requires h.1).1, h.0.sound.sizes.few))

pub returns : goal.returns
returns c =
    let g = graph_of c.args.s c.args.row.now c.args.column.now c.args.weight.now in
    let h = lent_passed g c.args.others (Ok tt) tt (sym c.check_lent.ensures ∙ c.in_ok-check_lent.was) in
    let l = c.requires h.1 in
    let graphs = once LentLength (graph_lengths g && c.args.others) ∷ graph_tests g in
    let bounds = bound_test g c.args.bound.now in
    let marks = mark_test g c.args.chosen.now in
    part-passes graphs (bounds ∷ marks ∷ []) (Ok tt) c.check_lent.ensures c.in_ok-check_lent.was
    (part-passes (bounds ∷ []) (marks ∷ []) (Ok tt)
    (c.check_each.ensures bounds.items bounds.keeps (c.lowest_bound.ensures ∙ ap (λ n. lowest n bounds.keeps) l.0)) c.in_ok-check_each.was
    (c.check_each-2.ensures marks.items marks.keeps (c.lowest_mark.ensures ∙ ap (λ n. lowest n marks.keeps) l.1)))
