-- The header line and the size line are read, or the first that is wrong is refused.
use Rattle.std.proofs.Common.{arith, rules, refl}
use Rattle.std.proofs.lemmas.Grind.{common_steps}
use Rattle.graph.specs.declared.Fault.TheVariants.{Header}
use Rattle.layout.specs.Lines.{sizing}
use Rattle.layout.specs.NumberText.{number_layout}
use Rattle.lines.specs.Walk.{Walk}
use Rattle.lines.proofs.Walk.{header_refused, header-goes, header-stops, size_refused}
use Rattle.number_reader.proofs.Values.{read_refused, header_does, size_read, size_wrong}
use Rattle.number_reader.proofs.read_number_lines.Goals as goal

pub returns-in_err-header : goal.returns-in_err-header
returns-in_err-header c = read_refused _ (header_refused (number_layout c.args.rules c.args.what c.args.count) c.in_err-header.ensures) (search rules)

pub returns-then-not-is_header : goal.returns-then-not-is_header
returns-then-not-is_header c =
    read_refused _
    (header-stops (number_layout c.args.rules c.args.what c.args.count) c.in_ok-header.ensures Header (header_does _ c.is_header.ensures c.if-not-is_header.true) c.refused_at.ensures) refl

pub returns-in_err-size : goal.returns-in_err-size
returns-in_err-size c =
    let L = number_layout c.args.rules c.args.what c.args.count in
    let w : Walk L c.args.text.now c.in_ok-header.header.next (sizing tt) = header-goes L c.in_ok-header.ensures tt (header_does _ c.is_header.ensures c.if-not-is_header.false) in
    read_refused _ (size_refused L w c.in_err-size.ensures) (search rules)

pub returns-in_err-map_err : goal.returns-in_err-map_err
returns-in_err-map_err c =
    let L = number_layout c.args.rules c.args.what c.args.count in
    let w : Walk L c.args.text.now c.in_ok-header.header.next (sizing tt) = header-goes L c.in_ok-header.ensures tt (header_does _ c.is_header.ensures c.if-not-is_header.false) in
    size_wrong c.args.rules c.args.what c.args.count w c.in_ok-size.ensures c.count_on.result c.count_on.ensures {x = c.in_err-map_err.field-0.0}
    (grind (arith, common_steps)) (search rules)

pub read_values-requires-clause-walk : goal.read_values-requires-clause-walk
read_values-requires-clause-walk c =
    let L = number_layout c.args.rules c.args.what c.args.count in
    let w : Walk L c.args.text.now c.in_ok-header.header.next (sizing tt) = header-goes L c.in_ok-header.ensures tt (header_does _ c.is_header.ensures c.if-not-is_header.false) in
    size_read c.args.rules c.args.what c.args.count w c.in_ok-size.ensures c.count_on.result c.count_on.ensures {u = tt} (grind (arith, common_steps))
