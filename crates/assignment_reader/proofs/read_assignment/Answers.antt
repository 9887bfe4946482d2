-- The outputs are cleared, and those of the edges again after a refusal; then the bounds are set.
use Rattle.std.proofs.Common.{◌∙◌, rules}
use Rattle.edge_reader.proofs.Whole.{cleared_again}
use Rattle.assignment_reader.proofs.Whole.{tested, lent_refused, lent_cleared, bounds_cleared, read_few, answered_read, answered_refused}
use Rattle.assignment_reader.proofs.read_assignment.Goals as goal

pub read_assignment_lines-read-requires : goal.read_assignment_lines-read-requires
read_assignment_lines-read-requires c =
    lent_cleared (tested c.clear.ensures c.fill.ensures c.have_room.ensures c.check_text.ensures) c.in_ok-check_text.was c.clear.ensures

pub set_bounds-requires-clause-bound_value : goal.set_bounds-requires-clause-bound_value
set_bounds-requires-clause-bound_value c =
    bounds_cleared (tested c.clear.ensures c.fill.ensures c.have_room.ensures c.check_text.ensures) c.in_ok-check_text.was c.fill.ensures

pub set_bounds-requires-clause-n_le_most_vertices : goal.set_bounds-requires-clause-n_le_most_vertices
set_bounds-requires-clause-n_le_most_vertices c =
    let few = read_few (tested c.clear.ensures c.fill.ensures c.have_room.ensures c.check_text.ensures)
    c.in_ok-check_text.was c.in-Ok.ensures in search rules

pub returns-in_err-check_text-clause-answer : goal.returns-in_err-check_text-clause-answer
returns-in_err-check_text-clause-answer c =
    (lent_refused (tested c.clear.ensures c.fill.ensures c.have_room.ensures c.check_text.ensures)
    c.in_err-check_text.was {y = c.from_residual.result} (search rules) c.clear.ensures c.fill.ensures).0

pub returns-in_err-check_text-clause-rows : goal.returns-in_err-check_text-clause-rows
returns-in_err-check_text-clause-rows c =
    (lent_refused (tested c.clear.ensures c.fill.ensures c.have_room.ensures c.check_text.ensures)
    c.in_err-check_text.was {y = c.from_residual.result} (search rules) c.clear.ensures c.fill.ensures).1.0

pub returns-in_err-check_text-clause-columns : goal.returns-in_err-check_text-clause-columns
returns-in_err-check_text-clause-columns c =
    (lent_refused (tested c.clear.ensures c.fill.ensures c.have_room.ensures c.check_text.ensures)
    c.in_err-check_text.was {y = c.from_residual.result} (search rules) c.clear.ensures c.fill.ensures).1.1.0

pub returns-in_err-check_text-clause-weights : goal.returns-in_err-check_text-clause-weights
returns-in_err-check_text-clause-weights c =
    (lent_refused (tested c.clear.ensures c.fill.ensures c.have_room.ensures c.check_text.ensures)
    c.in_err-check_text.was {y = c.from_residual.result} (search rules) c.clear.ensures c.fill.ensures).1.1.1.0

pub returns-in_err-check_text-clause-bounds : goal.returns-in_err-check_text-clause-bounds
returns-in_err-check_text-clause-bounds c =
    (lent_refused (tested c.clear.ensures c.fill.ensures c.have_room.ensures c.check_text.ensures)
    c.in_err-check_text.was {y = c.from_residual.result} (search rules) c.clear.ensures c.fill.ensures).1.1.1.1

pub returns-in-Ok-clause-answer : goal.returns-in-Ok-clause-answer
returns-in-Ok-clause-answer c =
    (answered_read (tested c.clear.ensures c.fill.ensures c.have_room.ensures c.check_text.ensures)
    c.in_ok-check_text.was c.in-Ok.ensures {bound = c.set_bounds.new.bound} (search rules)).0

pub returns-in-Ok-clause-rows : goal.returns-in-Ok-clause-rows
returns-in-Ok-clause-rows c =
    (answered_read (tested c.clear.ensures c.fill.ensures c.have_room.ensures c.check_text.ensures)
    c.in_ok-check_text.was c.in-Ok.ensures {bound = c.set_bounds.new.bound} (search rules)).1.0

pub returns-in-Ok-clause-columns : goal.returns-in-Ok-clause-columns
returns-in-Ok-clause-columns c =
    (answered_read (tested c.clear.ensures c.fill.ensures c.have_room.ensures c.check_text.ensures)
    c.in_ok-check_text.was c.in-Ok.ensures {bound = c.set_bounds.new.bound} (search rules)).1.1.0

pub returns-in-Ok-clause-weights : goal.returns-in-Ok-clause-weights
returns-in-Ok-clause-weights c =
    (answered_read (tested c.clear.ensures c.fill.ensures c.have_room.ensures c.check_text.ensures)
    c.in_ok-check_text.was c.in-Ok.ensures {bound = c.set_bounds.new.bound} (search rules)).1.1.1.0

pub returns-in-Ok-clause-bounds : goal.returns-in-Ok-clause-bounds
returns-in-Ok-clause-bounds c =
    (answered_read (tested c.clear.ensures c.fill.ensures c.have_room.ensures c.check_text.ensures)
    c.in_ok-check_text.was c.in-Ok.ensures {bound = c.set_bounds.new.bound} (search rules)).1.1.1.1

pub returns-in-Err-clause-answer : goal.returns-in-Err-clause-answer
returns-in-Err-clause-answer c =
    c.in-Err.is ∙ (answered_refused (tested c.clear.ensures c.fill.ensures c.have_room.ensures c.check_text.ensures)
    c.in_ok-check_text.was c.in-Err.ensures
    (cleared_again c.clear-in-Err.ensures (search rules) (search rules) (search rules)) c.fill.ensures).0

pub returns-in-Err-clause-rows : goal.returns-in-Err-clause-rows
returns-in-Err-clause-rows c =
    (answered_refused (tested c.clear.ensures c.fill.ensures c.have_room.ensures c.check_text.ensures) c.in_ok-check_text.was c.in-Err.ensures
    (cleared_again c.clear-in-Err.ensures (search rules) (search rules) (search rules)) c.fill.ensures).1.0

pub returns-in-Err-clause-columns : goal.returns-in-Err-clause-columns
returns-in-Err-clause-columns c =
    (answered_refused (tested c.clear.ensures c.fill.ensures c.have_room.ensures c.check_text.ensures) c.in_ok-check_text.was c.in-Err.ensures
    (cleared_again c.clear-in-Err.ensures (search rules) (search rules) (search rules)) c.fill.ensures).1.1.0

pub returns-in-Err-clause-weights : goal.returns-in-Err-clause-weights
returns-in-Err-clause-weights c =
    (answered_refused (tested c.clear.ensures c.fill.ensures c.have_room.ensures c.check_text.ensures) c.in_ok-check_text.was c.in-Err.ensures
    (cleared_again c.clear-in-Err.ensures (search rules) (search rules) (search rules)) c.fill.ensures).1.1.1.0

pub returns-in-Err-clause-bounds : goal.returns-in-Err-clause-bounds
returns-in-Err-clause-bounds c =
    (answered_refused (tested c.clear.ensures c.fill.ensures c.have_room.ensures c.check_text.ensures) c.in_ok-check_text.was c.in-Err.ensures
    (cleared_again c.clear-in-Err.ensures (search rules) (search rules) (search rules)) c.fill.ensures).1.1.1.1
