-- By the first row in which a price is out of range.
use Rattle.std.proofs.Common.{arith, length, sym, ◌∙◌}
use Rattle.graph.specs.Graph.{price_in_range}
use Rattle.graph.proofs.Passing.{lowest-some}
use Rattle.lowest.proofs.Rows.{in_first, in_second, in_third, in_none}
use Rattle.lowest.proofs.lowest_price.Goals as goal

pub returns-in-Some : goal.returns-in-Some
returns-in-Some c =
    let a = c.args in
    in_first price_in_range a.vertex_price.now a.edge_price.now a.set_price.now (sym c.lowest_outside.ensures ∙ c.in-Some.is)

pub overflow_add-result : goal.overflow_add-result
overflow_add-result c =
    let edges = c.args.edge_price.now in
    let found = lowest-some (length edges) _ c.in-Some-lowest_outside.k (sym c.lowest_outside-2.ensures ∙ c.in-Some-lowest_outside.is) in
    omega (arith, found.among, c.well_formed.0, c.well_formed.1.0, c.well_formed.1.1.0)

pub returns-in-Some-lowest_outside : goal.returns-in-Some-lowest_outside
returns-in-Some-lowest_outside c =
    let a = c.args in
    in_second price_in_range a.vertex_price.now a.edge_price.now a.set_price.now (sym c.lowest_outside.ensures ∙ c.in_default.is)
    (sym c.lowest_outside-2.ensures ∙ c.in-Some-lowest_outside.is)

pub returns-in_err-k : goal.returns-in_err-k
returns-in_err-k c =
    let a = c.args in
    c.from_residual.ensures
    ∙ in_none price_in_range a.vertex_price.now a.edge_price.now a.set_price.now (sym c.lowest_outside.ensures ∙ c.in_default.is)
    (sym c.lowest_outside-2.ensures ∙ c.in_default-lowest_outside.is) (sym c.lowest_outside-3.ensures ∙ c.in_err-k.was)

pub overflow_add-result-3 : goal.overflow_add-result-3
overflow_add-result-3 c =
    let sets = c.args.set_price.now in
    let found = lowest-some (length sets) _ c.in_ok-k.k (sym c.lowest_outside-3.ensures ∙ c.in_ok-k.was) in
    omega (arith, found.among, c.well_formed.0, c.well_formed.1.0, c.well_formed.1.1.0)

pub returns : goal.returns
returns c =
    let a = c.args in
    in_third price_in_range a.vertex_price.now a.edge_price.now a.set_price.now (sym c.lowest_outside.ensures ∙ c.in_default.is)
    (sym c.lowest_outside-2.ensures ∙ c.in_default-lowest_outside.is) (sym c.lowest_outside-3.ensures ∙ c.in_ok-k.was)
