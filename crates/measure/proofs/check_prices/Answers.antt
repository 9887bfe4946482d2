-- An item that is refused is one of those tested.
use Rattle.std.proofs.Common.{◌++◌, pos, length, length-append, get_or, sym, ◌∙◌, arith}
use Rattle.graph.specs.Graph.{price_in_range}
use Rattle.dual.specs.Prices.{all_prices}
use Rattle.sums.specs.Lent.{prices_in}
use Rattle.checks.proofs.Tests.{place_fits}
use Rattle.measure.proofs.check_prices.Goals as goal

pub check_each-requires : goal.check_each-requires
check_each-requires c = λ v e. place_fits (length c.args.bound.now) _ (sym c.lowest_over.ensures ∙ e) (omega (arith, c.requires.0))

pub check_each-requires-2 : goal.check_each-requires-2
check_each-requires-2 c = λ k e.
    let P = c.args.prices in
    let row = all_prices (prices_in P) in
    place_fits (length row) (λ i. price_in_range (get_or row i (pos 0))) (sym c.lowest_price-broken.ensures ∙ e)
    (omega (arith, c.requires.1, length-append P.vertex.now (P.edge.now ++ P.set.now), length-append P.edge.now P.set.now))
