-- The tests on the graph come before the one on the text.
use Rattle.std.proofs.Common.{◌∙◌, rules}
use Rattle.graph.specs.Graph.{graph_of}
use Rattle.subgraph_reader.proofs.Tested.{numbers_refused, text_left}
use Rattle.subgraph_reader.proofs.check_inputs.Goals as goal

pub returns-in_err-check_lent : goal.returns-in_err-check_lent
returns-in_err-check_lent c =
    let g = graph_of c.args.s c.args.row.now c.args.column.now c.args.weight.now in
    let e = numbers_refused g c.args.n c.args.text.now c.check_lent.ensures c.in_err-check_lent.was in
    search rules

pub returns : goal.returns
returns c =
    c.check_text.ensures ∙ text_left (graph_of c.args.s c.args.row.now c.args.column.now c.args.weight.now) c.args.n c.args.text.now c.check_lent.ensures c.in_ok-check_lent.was
