-- What is left of a problem that is read, once it is priced or refused.
use Rattle.std.specs.Prelude.{ℕ, ◌+◌, ◌≡◌, List, ℤ, length}
use Rattle.graph.specs.Graph.{Graph, vertices}
use Rattle.layout.specs.NumberText.{number_text}
use Rattle.dual.specs.PriceGeneral.{DoublyPriced}
use Rattle.report.specs.Report.{Composed}
use Rattle.report.specs.Programs.{has, written, prices_from, price_problem, whole_text_room}

-- A buffer is left with the text of prices that come from the doubled graph, or the line of the call's refusal, and r is its length.
pub record PricesWritten (g : Graph) (bound : List ℤ) (before after : List ℕ) (r : ℕ) : Type 0 where
  pub prices : List ℤ
  pub long : price_problem g bound ≡ has tt → length prices ≡ vertices g + g.edges
  pub priced : price_problem g bound ≡ has tt → DoublyPriced g bound (prices_from g prices)
  pub composed : Composed whole_text_room (written (λ u. number_text prices) (price_problem g bound)) before after r
