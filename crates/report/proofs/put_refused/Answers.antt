use Rattle.std.proofs.Common.{rules}
use Rattle.report.specs.Report.{refused_line}
use Rattle.report.proofs.Parts.{text_composed}
use Rattle.report.proofs.put_refused.Goals as goal

pub returns : goal.returns
returns c =
    let r = c.args.refusal in
    text_composed 256 (refused_line c.args.source r.fault r.place) c.args.out.now c.cleared-w.ensures.zeros c.cleared-w.ensures.start c.if-w-lt-LINE_BYTES.false
    c.put_refusal.ensures (search rules)
