-- What a lent index shows, edge by edge.
use Rattle.std.specs.Prelude.{ℕ, suc, ◌+◌, ◌<◌, ◌≡◌, true, List, length, get_or, Option}
use Rattle.graph.specs.Limits.{most_vertices}
use Rattle.graph.specs.Refusal.{lowest}
use Rattle.graph.specs.Graph.{Graph, vertices}
use Rattle.graph.specs.Index.{is_end, numbers_where, index_test}

-- The edges before e are counted at their ends, and the number of each stands in a lent index at its place after the lent offset of each end.
pub record Standing (g : Graph) (index count : List ℕ) (e : ℕ) : Type 0 where
  pub long : length count ≡ most_vertices
  pub counts : (v : ℕ) → v < vertices g → get_or count v 0 ≡ length (numbers_where e (is_end g v))
  pub numbers : (v k : ℕ) → v < vertices g → k < e → is_end g v k ≡ true →
      get_or index (suc (vertices g) + (get_or index v 0 + length (numbers_where k (is_end g v)))) 0 ≡ suc k

-- The lowest position at which a list is not the graph's index, if there is one.
abbrev pub lowest_wrong : Graph → List ℕ → Option ℕ
lowest_wrong g index = let t = index_test g index in lowest t.items t.keeps
