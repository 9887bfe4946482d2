use Rattle.std.proofs.Common.{◌∙◌, length}
use Rattle.std.proofs.lemmas.Result.{err_from_is_err_and}
use Rattle.graph.specs.Graph.{graph_of}
use Rattle.index_builder.proofs.Built.{sound}
use Rattle.index.proofs.Tested.{test_refused, index_left}
use Rattle.index.proofs.test_index.Goals as goal

pub returns-in_err-check_numbers : goal.returns-in_err-check_numbers
returns-in_err-check_numbers c =
    let g = graph_of c.args.s c.args.row.now c.args.column.now c.args.weight.now in
    let p = err_from_is_err_and c.from_residual.result c.from_residual.ensures.1 in
    rw (p.1, p.2) (test_refused g c.args.index.now c.check_numbers.ensures c.in_err-check_numbers.was)

pub check_places-requires-clause-sound : goal.check_places-requires-clause-sound
check_places-requires-clause-sound c =
    let g = graph_of c.args.s c.args.row.now c.args.column.now c.args.weight.now in
    sound g (length c.args.index.now) c.check_numbers.ensures c.in_ok-check_numbers.was

pub returns : goal.returns
returns c =
    let g = graph_of c.args.s c.args.row.now c.args.column.now c.args.weight.now in
    c.check_places.ensures ∙ index_left g c.args.index.now c.check_numbers.ensures c.in_ok-check_numbers.was
