-- The edges before e have their prices.
use Rattle.std.proofs.Common.{ℕ, ◌<◌, ◌≡◌, pos, length, get_or}
use Rattle.graph.specs.Graph.{graph_of}
use Rattle.dual.specs.Gap.{half_points}
use Rattle.method.specs.Tree.{entries}
use Rattle.pricing.specs.Pricing.{edge_price_of}
use Rattle.pricing.proofs.edge_prices.Given as goal

abbrev pub invariant-loop-e : goal.invariant-loop-e
invariant-loop-e l = record {
  long : length l.edge_price ≡ length l.initial.edge_price;
  priced : (k : ℕ) → k < l.e → get_or l.edge_price k (pos 0) ≡ half_points (pos (edge_price_of (graph_of l.s l.row l.column l.weight) l.chosen (entries l.price) k));
}
