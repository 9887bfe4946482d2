-- After a refusal `out` is cleared; otherwise the text is written.
use Rattle.std.proofs.Common.{◌∙◌, sym, ap, Err, length}
use Rattle.std.proofs.lemmas.Result.{err_from_is_err_and}
use Rattle.graph.specs.Graph.{graph_of}
use Rattle.subgraph_writer.proofs.Tested.{refused, yielded, size, fits}
use Rattle.writer.proofs.Answered.{answered, filled_in, refused_answer, refused_output, left_passed}
use Rattle.subgraph_writer.proofs.write_subgraph.Goals as goal

pub returns-in_err-or_clear : goal.returns-in_err-or_clear
returns-in_err-or_clear c =
    let a = c.args in
    let was = c.or_clear.ensures.answer in
    let p = err_from_is_err_and c.from_residual.result c.from_residual.ensures.1 in
    let w = refused (graph_of a.s a.row.now a.column.now a.weight.now) a.chosen.now (length a.out.now) c.check_marks.ensures (sym was ∙ c.in_err-or_clear.was) in
    record {
      answer = p.1 ∙ ap Err p.2 ∙ refused_answer w;
      text = refused_output w a.out.now (sym was ∙ c.in_err-or_clear.was) c.or_clear.ensures.left;
    }

pub put_subgraph-requires : goal.put_subgraph-requires
put_subgraph-requires c =
    let a = c.args in
    let p = sym c.or_clear.ensures.answer ∙ c.in_ok-or_clear.was in
    let f = fits (graph_of a.s a.row.now a.column.now a.weight.now) a.chosen.now (length a.out.now) c.check_marks.ensures p in
    record {
      out_len = ap length (left_passed c.or_clear.ensures.left p) ∙ size (graph_of a.s a.row.now a.column.now a.weight.now) a.chosen.now (length a.out.now) c.check_marks.ensures p;
      sound = (f.passed.sound, f.marks);
    }

pub returns : goal.returns
returns c =
    let a = c.args in
    let p = sym c.or_clear.ensures.answer ∙ c.in_ok-or_clear.was in
    let is = yielded (graph_of a.s a.row.now a.column.now a.weight.now) a.chosen.now (length a.out.now) c.check_marks.ensures p in
    let long = size (graph_of a.s a.row.now a.column.now a.weight.now) a.chosen.now (length a.out.now) c.check_marks.ensures p in
    record {
      answer = answered is long (c.put_subgraph.ensures a.weight.now);
      text = filled_in is long (c.put_subgraph.ensures a.weight.now);
    }
