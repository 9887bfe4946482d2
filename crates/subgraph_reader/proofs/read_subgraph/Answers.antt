-- The output is cleared, and again after a refusal.
use Rattle.std.proofs.Common.{sym, ◌∙◌, rules, length}
use Rattle.graph.specs.Graph.{graph_of}
use Rattle.cells.proofs.Cells.{distinct}
use Rattle.subgraph_reader.proofs.Tested.{passed, lent_cleared, whole_lent, whole_read, whole_refused, any_weights}
use Rattle.subgraph_reader.proofs.read_subgraph.Goals as goal

pub read_subgraph_lines-read-requires-clause-sound : goal.read_subgraph_lines-read-requires-clause-sound
read_subgraph_lines-read-requires-clause-sound c =
    let g = graph_of c.args.s c.args.row.now c.args.column.now c.args.weight.now in
    let P = passed g (length c.args.chosen.now) c.args.text.now c.fill.ensures c.check_inputs.result c.check_inputs.ensures c.in_ok-check_inputs.was in
    (P.sound, distinct P)

pub read_subgraph_lines-read-requires-clause-chosen_value : goal.read_subgraph_lines-read-requires-clause-chosen_value
read_subgraph_lines-read-requires-clause-chosen_value c =
    let g = graph_of c.args.s c.args.row.now c.args.column.now c.args.weight.now in
    lent_cleared g (length c.args.chosen.now) c.args.text.now c.fill.ensures c.check_inputs.result c.check_inputs.ensures c.in_ok-check_inputs.was

pub returns-in_err-check_inputs-clause-answer : goal.returns-in_err-check_inputs-clause-answer
returns-in_err-check_inputs-clause-answer c =
    let g = graph_of c.args.s c.args.row.now c.args.column.now c.args.weight.now in
    (whole_lent g (length c.args.chosen.now) c.args.text.now c.fill.ensures c.check_inputs.result c.check_inputs.ensures c.in_err-check_inputs.was
    {y = c.from_residual.result} (search rules)).0

pub returns-in_err-check_inputs-clause-marks : goal.returns-in_err-check_inputs-clause-marks
returns-in_err-check_inputs-clause-marks c =
    let g = graph_of c.args.s c.args.row.now c.args.column.now c.args.weight.now in
    (whole_lent g (length c.args.chosen.now) c.args.text.now c.fill.ensures c.check_inputs.result c.check_inputs.ensures c.in_err-check_inputs.was
    {y = c.from_residual.result} (search rules)).1

pub returns-then-is_err-clause-answer : goal.returns-then-is_err-clause-answer
returns-then-is_err-clause-answer c =
    let g = graph_of c.args.s c.args.row.now c.args.column.now c.args.weight.now in
    (whole_refused g (length c.args.chosen.now) c.args.text.now c.fill.ensures c.check_inputs.result c.check_inputs.ensures c.in_ok-check_inputs.was _
    (any_weights c.read_subgraph_lines-read.ensures c.args.weight.now) (sym c.is_err.ensures.value ∙ c.if-is_err.true) {new = c.fill-then-is_err.new.out} (search rules)).0

pub returns-then-is_err-clause-marks : goal.returns-then-is_err-clause-marks
returns-then-is_err-clause-marks c =
    let g = graph_of c.args.s c.args.row.now c.args.column.now c.args.weight.now in
    (whole_refused g (length c.args.chosen.now) c.args.text.now c.fill.ensures c.check_inputs.result c.check_inputs.ensures c.in_ok-check_inputs.was _
    (any_weights c.read_subgraph_lines-read.ensures c.args.weight.now) (sym c.is_err.ensures.value ∙ c.if-is_err.true) {new = c.fill-then-is_err.new.out} (search rules)).1

pub returns-else-is_err-clause-answer : goal.returns-else-is_err-clause-answer
returns-else-is_err-clause-answer c =
    let g = graph_of c.args.s c.args.row.now c.args.column.now c.args.weight.now in
    (whole_read g (length c.args.chosen.now) c.args.text.now c.fill.ensures c.check_inputs.result c.check_inputs.ensures c.in_ok-check_inputs.was _
    (any_weights c.read_subgraph_lines-read.ensures c.args.weight.now) (sym c.is_err.ensures.value ∙ c.if-is_err.false)).0

pub returns-else-is_err-clause-marks : goal.returns-else-is_err-clause-marks
returns-else-is_err-clause-marks c =
    let g = graph_of c.args.s c.args.row.now c.args.column.now c.args.weight.now in
    (whole_read g (length c.args.chosen.now) c.args.text.now c.fill.ensures c.check_inputs.result c.check_inputs.ensures c.in_ok-check_inputs.was _
    (any_weights c.read_subgraph_lines-read.ensures c.args.weight.now) (sym c.is_err.ensures.value ∙ c.if-is_err.false)).1
