-- The outputs are cleared, and again after a refusal.
use Rattle.std.proofs.Common.{sym, ◌∙◌, rules, length}
use Rattle.edge_reader.proofs.Whole.{cleared_again}
use Rattle.graph_reader.proofs.Whole.{Tested, tested, whole_lent, lent_cleared, lines_read, lines_refused}
use Rattle.graph_reader.proofs.read_graph_by.Goals as goal

pub read_graph_lines-read-requires : goal.read_graph_lines-read-requires
read_graph_lines-read-requires c =
    let T : Tested (length c.args.row.now) (length c.args.column.now) (length c.args.weight.now) c.args.text.now c.check_text.result =
    tested c.clear.ensures c.have_room.ensures c.check_text.ensures in
    lent_cleared c.args.rules c.args.field T c.in_ok-check_text.was c.clear.ensures

pub returns-in_err-check_text-clause-answer : goal.returns-in_err-check_text-clause-answer
returns-in_err-check_text-clause-answer c =
    let T : Tested (length c.args.row.now) (length c.args.column.now) (length c.args.weight.now) c.args.text.now c.check_text.result =
    tested c.clear.ensures c.have_room.ensures c.check_text.ensures in
    (whole_lent c.args.rules c.args.field T c.in_err-check_text.was {y = c.from_residual.result} (search rules) c.clear.ensures).0

pub returns-in_err-check_text-clause-rows : goal.returns-in_err-check_text-clause-rows
returns-in_err-check_text-clause-rows c =
    let T : Tested (length c.args.row.now) (length c.args.column.now) (length c.args.weight.now) c.args.text.now c.check_text.result =
    tested c.clear.ensures c.have_room.ensures c.check_text.ensures in
    (whole_lent c.args.rules c.args.field T c.in_err-check_text.was {y = c.from_residual.result} (search rules) c.clear.ensures).1.0

pub returns-in_err-check_text-clause-columns : goal.returns-in_err-check_text-clause-columns
returns-in_err-check_text-clause-columns c =
    let T : Tested (length c.args.row.now) (length c.args.column.now) (length c.args.weight.now) c.args.text.now c.check_text.result =
    tested c.clear.ensures c.have_room.ensures c.check_text.ensures in
    (whole_lent c.args.rules c.args.field T c.in_err-check_text.was {y = c.from_residual.result} (search rules) c.clear.ensures).1.1.0

pub returns-in_err-check_text-clause-weights : goal.returns-in_err-check_text-clause-weights
returns-in_err-check_text-clause-weights c =
    let T : Tested (length c.args.row.now) (length c.args.column.now) (length c.args.weight.now) c.args.text.now c.check_text.result =
    tested c.clear.ensures c.have_room.ensures c.check_text.ensures in
    (whole_lent c.args.rules c.args.field T c.in_err-check_text.was {y = c.from_residual.result} (search rules) c.clear.ensures).1.1.1

pub returns-then-is_err-clause-answer : goal.returns-then-is_err-clause-answer
returns-then-is_err-clause-answer c =
    let T : Tested (length c.args.row.now) (length c.args.column.now) (length c.args.weight.now) c.args.text.now c.check_text.result =
    tested c.clear.ensures c.have_room.ensures c.check_text.ensures in
    (lines_refused c.args.rules c.args.field T c.in_ok-check_text.was _ c.read_graph_lines-read.ensures (sym c.is_err.ensures.value ∙ c.if-is_err.true)
    (cleared_again c.clear-then-is_err.ensures (search rules) (search rules) (search rules))).0

pub returns-then-is_err-clause-rows : goal.returns-then-is_err-clause-rows
returns-then-is_err-clause-rows c =
    let T : Tested (length c.args.row.now) (length c.args.column.now) (length c.args.weight.now) c.args.text.now c.check_text.result =
    tested c.clear.ensures c.have_room.ensures c.check_text.ensures in
    (lines_refused c.args.rules c.args.field T c.in_ok-check_text.was _ c.read_graph_lines-read.ensures (sym c.is_err.ensures.value ∙ c.if-is_err.true)
    (cleared_again c.clear-then-is_err.ensures (search rules) (search rules) (search rules))).1.0

pub returns-then-is_err-clause-columns : goal.returns-then-is_err-clause-columns
returns-then-is_err-clause-columns c =
    let T : Tested (length c.args.row.now) (length c.args.column.now) (length c.args.weight.now) c.args.text.now c.check_text.result =
    tested c.clear.ensures c.have_room.ensures c.check_text.ensures in
    (lines_refused c.args.rules c.args.field T c.in_ok-check_text.was _ c.read_graph_lines-read.ensures (sym c.is_err.ensures.value ∙ c.if-is_err.true)
    (cleared_again c.clear-then-is_err.ensures (search rules) (search rules) (search rules))).1.1.0

pub returns-then-is_err-clause-weights : goal.returns-then-is_err-clause-weights
returns-then-is_err-clause-weights c =
    let T : Tested (length c.args.row.now) (length c.args.column.now) (length c.args.weight.now) c.args.text.now c.check_text.result =
    tested c.clear.ensures c.have_room.ensures c.check_text.ensures in
    (lines_refused c.args.rules c.args.field T c.in_ok-check_text.was _ c.read_graph_lines-read.ensures (sym c.is_err.ensures.value ∙ c.if-is_err.true)
    (cleared_again c.clear-then-is_err.ensures (search rules) (search rules) (search rules))).1.1.1

pub returns-else-is_err-clause-answer : goal.returns-else-is_err-clause-answer
returns-else-is_err-clause-answer c =
    let T : Tested (length c.args.row.now) (length c.args.column.now) (length c.args.weight.now) c.args.text.now c.check_text.result =
    tested c.clear.ensures c.have_room.ensures c.check_text.ensures in
    (lines_read c.args.rules c.args.field T c.in_ok-check_text.was _ c.read_graph_lines-read.ensures (sym c.is_err.ensures.value ∙ c.if-is_err.false)).0

pub returns-else-is_err-clause-rows : goal.returns-else-is_err-clause-rows
returns-else-is_err-clause-rows c =
    let T : Tested (length c.args.row.now) (length c.args.column.now) (length c.args.weight.now) c.args.text.now c.check_text.result =
    tested c.clear.ensures c.have_room.ensures c.check_text.ensures in
    (lines_read c.args.rules c.args.field T c.in_ok-check_text.was _ c.read_graph_lines-read.ensures (sym c.is_err.ensures.value ∙ c.if-is_err.false)).1.0

pub returns-else-is_err-clause-columns : goal.returns-else-is_err-clause-columns
returns-else-is_err-clause-columns c =
    let T : Tested (length c.args.row.now) (length c.args.column.now) (length c.args.weight.now) c.args.text.now c.check_text.result =
    tested c.clear.ensures c.have_room.ensures c.check_text.ensures in
    (lines_read c.args.rules c.args.field T c.in_ok-check_text.was _ c.read_graph_lines-read.ensures (sym c.is_err.ensures.value ∙ c.if-is_err.false)).1.1.0

pub returns-else-is_err-clause-weights : goal.returns-else-is_err-clause-weights
returns-else-is_err-clause-weights c =
    let T : Tested (length c.args.row.now) (length c.args.column.now) (length c.args.weight.now) c.args.text.now c.check_text.result =
    tested c.clear.ensures c.have_room.ensures c.check_text.ensures in
    (lines_read c.args.rules c.args.field T c.in_ok-check_text.was _ c.read_graph_lines-read.ensures (sym c.is_err.ensures.value ∙ c.if-is_err.false)).1.1.1
