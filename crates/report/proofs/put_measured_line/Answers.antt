use Rattle.std.proofs.Common.{arith}
use Rattle.layout.specs.Text.{bytes}
use Rattle.report.specs.Report.{measured_line}
use Rattle.report.proofs.Parts.{first_number, next-number, line_appends}
use Rattle.report.proofs.put_measured_line.Goals as goal

pub returns : goal.returns
unfolding measured_line
returns c =
    let m = c.args.m in
    let a = first_number (bytes "merit") m.weight (omega arith) c.put_named.ensures.written in
    let b = next-number (bytes "total") m.total (omega arith) a c.put_named-2.ensures.written (omega arith) in
    let d = next-number (bytes "fish") m.vertices (omega arith) b c.put_named-3.ensures.written (omega arith) in
    let e = next-number (bytes "groups") m.sets (omega arith) d c.put_named-4.ensures.written (omega arith) in
    let f = next-number (bytes "pairs") m.edges (omega arith) e c.put_named-5.ensures.written (omega arith) in
    let g = next-number (bytes "cover") m.cover (omega arith) f c.put_named-6.ensures.written (omega arith) in
    let h = next-number (bytes "gap") m.gap (omega arith) g c.put_named-7.ensures.written (omega arith) in
    line_appends h c.byte.ensures (omega (arith, c.byte.ensures.puts.place))
