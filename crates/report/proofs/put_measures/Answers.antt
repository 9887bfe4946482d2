use Rattle.std.proofs.Common.{rules}
use Rattle.report.specs.Report.{measured_line}
use Rattle.report.proofs.Parts.{text_composed}
use Rattle.report.proofs.put_measures.Goals as goal

pub returns : goal.returns
returns c =
    text_composed 256 (measured_line c.args.m) c.args.out.now c.cleared-w.ensures.zeros c.cleared-w.ensures.start c.if-w-lt-LINE_BYTES.false
    c.put_measured_line.ensures (search rules)
