-- The header line, the size line and the marks are read, or the first line that is wrong is refused.
use Rattle.std.proofs.Common.{[], true, false, arith, rules, refl}
use Rattle.std.proofs.lemmas.Grind.{common_steps}
use Rattle.graph.specs.declared.Fault.TheVariants.{Header, Disagreement}
use Rattle.graph.specs.Graph.{graph_of}
use Rattle.layout.specs.declared.Rules.TheVariants.{New}
use Rattle.layout.specs.Lines.{sizing}
use Rattle.layout.specs.SubgraphText.{subgraph_layout}
use Rattle.lines.specs.Walk.{Walk}
use Rattle.lines.proofs.Walk.{header_refused, header-goes, header-stops, size_refused}
use Rattle.subgraph_reader.proofs.OnLine.{read_refused, header_is, header-not, size_read, size_wrong}
use Rattle.subgraph_reader.proofs.read_subgraph_lines.Goals as goal

pub returns-in_err-header : goal.returns-in_err-header
returns-in_err-header c =
    let g = graph_of c.args.s c.args.row.now c.args.column.now [] in
    read_refused g _ (header_refused (subgraph_layout New g) c.in_err-header.ensures) (search rules)

pub returns-in_default : goal.returns-in_default
returns-in_default c =
    let g = graph_of c.args.s c.args.row.now c.args.column.now [] in
    read_refused g _
    (header-stops (subgraph_layout New g) c.in_ok-header.ensures Header (header-not g c.header_kind.ensures c.in_default.is) c.refused_at.ensures) refl

pub returns-then-ne : goal.returns-then-ne
returns-then-ne c =
    let g = graph_of c.args.s c.args.row.now c.args.column.now [] in
    read_refused g _
    (header-stops (subgraph_layout New g) c.in_ok-header.ensures Disagreement
    (header_is g c.header_kind.ensures c.in-Some.is {t = false} (grind (arith, common_steps))) c.refused_at-then-ne.ensures) refl

pub returns-in_err-size : goal.returns-in_err-size
returns-in_err-size c =
    let g = graph_of c.args.s c.args.row.now c.args.column.now [] in
    let w : Walk (subgraph_layout New g) c.args.text.now c.in_ok-header.header.next (sizing tt) =
    header-goes (subgraph_layout New g) c.in_ok-header.ensures tt (header_is g c.header_kind.ensures c.in-Some.is {t = true} (grind (arith, common_steps))) in
    read_refused g _ (size_refused (subgraph_layout New g) w c.in_err-size.ensures) (search rules)

pub returns-in_err-count : goal.returns-in_err-count
returns-in_err-count c =
    let g = graph_of c.args.s c.args.row.now c.args.column.now [] in
    let w : Walk (subgraph_layout New g) c.args.text.now c.in_ok-header.header.next (sizing tt) =
    header-goes (subgraph_layout New g) c.in_ok-header.ensures tt (header_is g c.header_kind.ensures c.in-Some.is {t = true} (grind (arith, common_steps))) in
    size_wrong c.args.s c.args.row.now c.args.column.now w c.in_ok-size.ensures c.plan_size_on.result c.plan_size_on.ensures {x = c.in_err-count.field-0.0}
    (grind (arith, common_steps)) (search rules)

pub read_marks-requires-clause-walk : goal.read_marks-requires-clause-walk
read_marks-requires-clause-walk c =
    let g = graph_of c.args.s c.args.row.now c.args.column.now [] in
    let w : Walk (subgraph_layout New g) c.args.text.now c.in_ok-header.header.next (sizing tt) =
    header-goes (subgraph_layout New g) c.in_ok-header.ensures tt (header_is g c.header_kind.ensures c.in-Some.is {t = true} (grind (arith, common_steps))) in
    size_read c.args.s c.args.row.now c.args.column.now w c.in_ok-size.ensures c.plan_size_on.result c.plan_size_on.ensures {k = c.in_ok-count.count}
    (grind (arith, common_steps)) c.requires.chosen_value
