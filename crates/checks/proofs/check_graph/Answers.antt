use Rattle.checks.proofs.Shown.{among, flagged}
use Rattle.checks.proofs.check_graph.Goals as goal

pub check_each-requires : goal.check_each-requires
check_each-requires c = among c.args.s c.sizes_in_range.ensures c.check_once.ensures c.in_ok-check_once.was _ _ c.requires.0 c.lowest_ends.ensures

pub check_each-requires-2 : goal.check_each-requires-2
check_each-requires-2 c = among c.args.s c.sizes_in_range.ensures c.check_once.ensures c.in_ok-check_once.was _ _ c.requires.2 c.lowest_weight.ensures

pub lowest_repeat-requires-clause-by_index : goal.lowest_repeat-requires-clause-by_index
lowest_repeat-requires-clause-by_index c =
    flagged c.args.s c.sizes_in_range.ensures c.check_once.ensures c.in_ok-check_once.was c.args.row.now c.args.column.now
    c.lowest_ends.ensures c.check_each.ensures c.in_ok-check_each.was

pub check_each-requires-3 : goal.check_each-requires-3
check_each-requires-3 c = among c.args.s c.sizes_in_range.ensures c.check_once.ensures c.in_ok-check_once.was _ _ c.requires.0 c.lowest_repeat.ensures
