-- After a refusal `out` is cleared; otherwise the text is written.
use Rattle.std.proofs.Common.{◌∙◌, sym, ap, Err, length}
use Rattle.std.proofs.lemmas.Result.{err_from_is_err_and}
use Rattle.graph.specs.Graph.{graph_of}
use Rattle.assignment_writer.proofs.Tested.{refused, passed, size, yielded}
use Rattle.writer.proofs.Answered.{answered, filled_in, refused_answer, refused_output, left_passed}
use Rattle.assignment_writer.proofs.write_assignment.Goals as goal

pub returns-in_err-or_clear : goal.returns-in_err-or_clear
returns-in_err-or_clear c =
    let a = c.args in
    let is = sym c.or_clear.ensures.answer ∙ c.in_err-or_clear.was in
    let p = err_from_is_err_and c.from_residual.result c.from_residual.ensures.1 in
    let w = refused (graph_of a.s a.row.now a.column.now a.weight.now) a.bound.now (length a.out.now) c.check_assignment.ensures is in
    record { answer = p.1 ∙ ap Err p.2 ∙ refused_answer w; text = refused_output w a.out.now is c.or_clear.ensures.left }

pub put_assignment-requires : goal.put_assignment-requires
put_assignment-requires c =
    let a = c.args in
    let is = sym c.or_clear.ensures.answer ∙ c.in_ok-or_clear.was in
    let g = graph_of a.s a.row.now a.column.now a.weight.now in
    record {
      out_len = ap length (left_passed c.or_clear.ensures.left is) ∙ size g a.bound.now (length a.out.now) c.check_assignment.ensures is;
      passed = passed g a.bound.now (length a.out.now) c.check_assignment.ensures is;
    }

pub returns : goal.returns
returns c =
    let a = c.args in
    let is = sym c.or_clear.ensures.answer ∙ c.in_ok-or_clear.was in
    let g = graph_of a.s a.row.now a.column.now a.weight.now in
    let text = yielded g a.bound.now (length a.out.now) c.check_assignment.ensures is in
    let long = size g a.bound.now (length a.out.now) c.check_assignment.ensures is in
    record { answer = answered text long c.put_assignment.ensures; text = filled_in text long c.put_assignment.ensures }
