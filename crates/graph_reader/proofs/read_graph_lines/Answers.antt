-- The header line, the size line and the edges are read, or the first line that is wrong is refused.
use Rattle.std.proofs.Common.{arith, rules, refl}
use Rattle.std.proofs.lemmas.Grind.{common_steps}
use Rattle.graph.specs.declared.Fault.TheVariants.{Header}
use Rattle.layout.specs.Lines.{sizing}
use Rattle.layout.specs.GraphText.{graph_layout}
use Rattle.lines.specs.Walk.{Walk}
use Rattle.lines.proofs.Walk.{header_refused, header-goes, header-stops, size_refused}
use Rattle.edge_reader.proofs.Edges.{read_refused, read_as}
use Rattle.graph_reader.proofs.OnLine.{header_is, header-not, size_read, size_wrong}
use Rattle.graph_reader.proofs.read_graph_lines.Goals as goal

pub returns-in_err-header : goal.returns-in_err-header
returns-in_err-header c = read_refused _ (header_refused (graph_layout c.args.rules c.args.field) c.in_err-header.ensures) (search rules)

pub returns-in_default : goal.returns-in_default
returns-in_default c =
    read_refused _
    (header-stops (graph_layout c.args.rules c.args.field) c.in_ok-header.ensures Header (header-not c.args.field _ c.header_on.ensures c.in_default.is)
    c.refused_at.ensures) refl

pub returns-in_err-size : goal.returns-in_err-size
returns-in_err-size c =
    let L = graph_layout c.args.rules c.args.field in
    let w : Walk L c.args.text.now c.in_ok-header.header.next (sizing c.in-Some.kind) =
    header-goes L c.in_ok-header.ensures c.in-Some.kind (header_is c.args.field _ c.header_on.ensures c.in-Some.is) in
    read_refused _ (size_refused L w c.in_err-size.ensures) (search rules)

pub returns-in_err-s : goal.returns-in_err-s
returns-in_err-s c =
    let L = graph_layout c.args.rules c.args.field in
    let w : Walk L c.args.text.now c.in_ok-header.header.next (sizing c.in-Some.kind) =
    header-goes L c.in_ok-header.ensures c.in-Some.kind (header_is c.args.field _ c.header_on.ensures c.in-Some.is) in
    size_wrong c.args.rules c.args.field w c.in_ok-size.ensures c.shape_on.result c.shape_on.ensures.says {x = c.in_err-s.field-0.0}
    (grind (arith, common_steps)) (search rules)

pub read_edges-requires-clause-s_value : goal.read_edges-requires-clause-s_value
read_edges-requires-clause-s_value c =
    let L = graph_layout c.args.rules c.args.field in
    let w : Walk L c.args.text.now c.in_ok-header.header.next (sizing c.in-Some.kind) =
    header-goes L c.in_ok-header.ensures c.in-Some.kind (header_is c.args.field _ c.header_on.ensures c.in-Some.is) in
    (size_read c.args.rules c.args.field w c.in_ok-size.ensures c.shape_on.result c.shape_on.ensures.says c.shape_on.ensures.ranged {t = c.in_ok-s.s}
    (grind (arith, common_steps))).1

pub returns : goal.returns
returns c =
    let L = graph_layout c.args.rules c.args.field in
    let w : Walk L c.args.text.now c.in_ok-header.header.next (sizing c.in-Some.kind) =
    header-goes L c.in_ok-header.ensures c.in-Some.kind (header_is c.args.field _ c.header_on.ensures c.in-Some.is) in
    read_as c.read_edges.ensures
    (size_read c.args.rules c.args.field w c.in_ok-size.ensures c.shape_on.result c.shape_on.ensures.says c.shape_on.ensures.ranged {t = c.in_ok-s.s}
    (grind (arith, common_steps))).0
