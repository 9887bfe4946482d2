use Rattle.std.proofs.Common.{arith, ◌∙◌, ◌≤◌, ◌+◌}
use Rattle.layout.specs.Text.{bytes, decimal}
use Rattle.digits.proofs.Appending.{appends_next}
use Rattle.graph.specs.Refusal.{number_of}
use Rattle.report.specs.Report.{refused_line, name_of}
use Rattle.report.proofs.Parts.{first_pair, next-pair, line_appends, name_le}
use Rattle.report.proofs.put_refusal.Goals as goal

pub returns : goal.returns
unfolding refused_line
returns c =
    let r = c.args.refusal in
    let n = rw (c.from-2.ensures ∙ c.from.ensures) at c.decimal.ensures.written in
    let name = rw c.name.ensures at c.bytes-4.ensures in
    let end : c.bytes-4.new.self.at ≤ c.bytes-3.new.self.at + 11 = omega (arith, name.puts.place, name_le c.args.source) in
    let a = first_pair (bytes "refused") (decimal (number_of r.fault)) (appends_next c.bytes.ensures n (omega arith)) in
    let b = next-pair (bytes "at") (decimal r.place) a (appends_next c.bytes-2.ensures c.decimal-2.ensures.written (omega arith)) (omega arith) in
    let d = next-pair (bytes "in") (name_of c.args.source) b (appends_next c.bytes-3.ensures name (omega arith)) (omega arith) in
    line_appends d c.byte.ensures (omega (arith, c.byte.ensures.puts.place))
