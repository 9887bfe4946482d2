-- The edge that is found is the graph's.
use Rattle.std.proofs.Common.{◌≡◌, ◌<◌, arith, sym, ◌∙◌, get_or}
use Rattle.std.proofs.lemmas.Grind.{common_steps}
use Rattle.subgraph_reader.proofs.OnLine.{edge_found, edge-among}
use Rattle.subgraph_reader.proofs.edge_on.Goals as goal

pub returns-in_err-e-clause-says : goal.returns-in_err-e-clause-says
returns-in_err-e-clause-says c = λ t k i.
    let e = edge_found t c.in_ok-r.r c.in_ok-r.c (sym c.ends_in_range.ensures ∙ c.if-not-ends_in_range.false) c.find_edge.ensures in grind (arith, common_steps)

pub bounds-chosen-e : goal.bounds-chosen-e
bounds-chosen-e c =
    let e : c.in_ok-e.e < c.args.s.edges =
    edge-among c.requires.celled c.in_ok-r.r c.in_ok-r.c (sym c.ends_in_range.ensures ∙ c.if-not-ends_in_range.false) c.find_edge.ensures (grind arith) in
    omega arith

pub returns-then-free-clause-says : goal.returns-then-free-clause-says
returns-then-free-clause-says c = λ t k i.
    let e = edge_found t c.in_ok-r.r c.in_ok-r.c (sym c.ends_in_range.ensures ∙ c.if-not-ends_in_range.false) c.find_edge.ensures in
    let f : get_or c.args.chosen.now c.in_ok-e.e 0 ≡ 0 = c.if-free.true in grind (arith, common_steps)

pub returns-then-free-clause-inside : goal.returns-then-free-clause-inside
returns-then-free-clause-inside c =
    edge-among c.requires.celled c.in_ok-r.r c.in_ok-r.c (sym c.ends_in_range.ensures ∙ c.if-not-ends_in_range.false) c.find_edge.ensures (grind arith)

pub returns-else-free-clause-says : goal.returns-else-free-clause-says
returns-else-free-clause-says c = λ t k i.
    let e = edge_found t c.in_ok-r.r c.in_ok-r.c (sym c.ends_in_range.ensures ∙ c.if-not-ends_in_range.false) c.find_edge.ensures in grind (arith, common_steps)
