-- The table for the proof: the twelve marked cases of document 01, each with what must come out. Prices, totals, slacks and gaps are in half points, twice
-- what document 01 says (request U5).
use Rattle.std.specs.Prelude.{ℕ, ◌≡◌, List, [], ◌∷◌, ◌++◌, ℤ, pos, negsuc, length, replicate, Ok}
use Prim.Native.String.{String}
use Rattle.graph.specs.declared.Kind.TheVariants.{Bipartite, General}
use Rattle.graph.specs.Limits.{most_edges}
use Rattle.graph.specs.Refusal.{Outcome, told, refused_with}
use Rattle.graph.specs.Graph.{Graph, graph_of, vertices}
use Rattle.graph.specs.Index.{index_of}
use Rattle.graph.specs.Subgraph.{Optimal, weight_of}
use Rattle.layout.specs.declared.Numbers.TheVariants.{Bounds}
use Rattle.layout.specs.Text.{bytes, unlines}
use Rattle.layout.specs.GraphText.{read_graph}
use Rattle.layout.specs.NumberText.{read_numbers}
use Rattle.dual.specs.declared.Measures.{Measures}
use Rattle.dual.specs.Prices.{Prices, prices_of}
use Rattle.dual.specs.Sets.{capacity}
use Rattle.dual.specs.Measure.{measure}
use Rattle.dual.specs.Solve.{solve, without_sets}
use Rattle.report.specs.Report.{measured_line}
use Rattle.report.specs.Programs.{lent_for}

-- What must come out of a case.
pub data Claim : Type 0 where
  -- the largest weight
  largest : ℤ → Claim
  -- the case's subgraph lacks nothing
  optimal : Claim
  -- the line of `mark`, before its byte 10
  line : String → Claim
  -- the gap
  gap : ℤ → Claim
  -- the capacity (group limit) of odd set s
  capacity_of : ℕ → ℕ → Claim
  -- measuring refuses nothing
  taken : Claim
  -- measuring refuses with this number at this place
  refused : ℕ → ℕ → Claim
  -- the solver accepts it, or refuses with this number at this place
  solved : Claim
  unsolved : ℕ → ℕ → Claim
  -- the graph reader takes this text, and reads the case's weights (merits); or it refuses with this number at this line
  sheet_taken : List ℕ → Claim
  sheet_refused : List ℕ → ℕ → ℕ → Claim
  -- the number reader takes this text, and reads the case's bounds (limits); or it refuses with this number at this line
  limits_taken : List ℕ → Claim
  limits_refused : List ℕ → ℕ → ℕ → Claim

-- A case: its number in document 01, the graph, bounds, subgraph and prices, and what must come out.
pub record Case : Type 0 where
  pub number : ℕ
  pub graph : Graph
  pub bound : List ℤ
  pub chosen : List ℕ
  pub prices : Prices
  pub claims : List Claim

-- What the calls yield of a case, and the readers of a sheet and of limits.
abbrev pub measuring : Case → Outcome Measures
measuring c = measure c.graph c.bound c.chosen c.prices

abbrev pub solving : Case → Outcome (Unit {0})
solving c = solve c.graph c.bound (index_of c.graph) (lent_for c.graph)

abbrev pub read_sheet : List ℕ → Outcome Graph
read_sheet text = read_graph most_edges most_edges most_edges text

abbrev pub read_limits : Case → List ℕ → Outcome (List ℤ)
read_limits c text = read_numbers Bounds (vertices c.graph) (vertices c.graph) text

-- What a claim states about the definitions.
abbrev pub States : Case → Claim → Type 0
States c (largest w) = (x : List ℕ) × Optimal c.graph c.bound x × (weight_of c.graph x ≡ w)
States c optimal = Optimal c.graph c.bound c.chosen
States c (line s) = (m : Measures) × (measuring c ≡ Ok m) × (measured_line m ≡ bytes s ++ (10 ∷ []))
States c (gap z) = (m : Measures) × (measuring c ≡ Ok m) × (m.gap ≡ z)
States c (capacity_of s q) = capacity c.graph c.bound c.prices.marks s ≡ q
States c taken = (m : Measures) × (measuring c ≡ Ok m)
States c (refused n p) = told (measuring c) ≡ refused_with n p
States c solved = solving c ≡ Ok tt
States c (unsolved n p) = told (solving c) ≡ refused_with n p
States c (sheet_taken text) = (g : Graph) × (read_sheet text ≡ Ok g) × (g.weight ≡ c.graph.weight)
States c (sheet_refused text n p) = told (read_sheet text) ≡ refused_with n p
States c (limits_taken text) = read_limits c text ≡ Ok c.bound
States c (limits_refused text n p) = told (read_limits c text) ≡ refused_with n p

-- Every member of a list has the property.
abbrev pub All : {A : Type 0} → (A → Type 0) → List A → Type 0
All P [] = Unit {0}
All P (x ∷ xs) = P x × All P xs

-- ---- The table.

-- A bipartite graph from its edges' rows, columns and weights, and a general one.
abbrev bipartite : ℕ → ℕ → List ℕ → List ℕ → List ℤ → Graph
bipartite r c row column weight = graph_of (record { kind = Bipartite; rows = r; columns = c; edges = length row }) row column weight

abbrev general : ℕ → List ℕ → List ℕ → List ℤ → Graph
general n row column weight = graph_of (record { kind = General; rows = n; columns = n; edges = length row }) row column weight

-- Prices with one odd set: its price, its first word of vertices and its first word of edges.
abbrev with_set : List ℤ → List ℤ → ℤ → ℕ → ℕ → Prices
with_set vertex edge price vertices edges = prices_of vertex edge 1 (price ∷ []) (vertices ∷ 0 ∷ []) (edges ∷ replicate 15 0)

-- The sheet of the worked example, one edge of weight w, and three families with all pairs of merit 1.
abbrev square : Graph
square = bipartite 2 2 (1 ∷ 1 ∷ 2 ∷ 2 ∷ []) (1 ∷ 2 ∷ 1 ∷ 2 ∷ []) (pos 5 ∷ pos 4 ∷ pos 4 ∷ pos 1 ∷ [])

abbrev single : ℤ → Graph
single w = bipartite 1 1 (1 ∷ []) (1 ∷ []) (w ∷ [])

abbrev triangle : Graph
triangle = general 3 (2 ∷ 3 ∷ 3 ∷ []) (1 ∷ 1 ∷ 2 ∷ []) (pos 1 ∷ pos 1 ∷ pos 1 ∷ [])

-- The text of a sheet with one edge, from its line, and of limits of two vertices, from the first.
abbrev sheet : String → List ℕ
sheet edge = unlines (bytes "%%MatrixMarket matrix coordinate integer general" ∷ bytes "1 1 1" ∷ bytes edge ∷ [])

abbrev limits : String → List ℕ
limits first = unlines (bytes "%%MatrixMarket matrix array integer general" ∷ bytes "2 1" ∷ bytes first ∷ bytes "1" ∷ [])

-- n times the number 0, or 1.
abbrev zeros : ℕ → List ℤ
zeros n = replicate n (pos 0)

abbrev ones : ℕ → List ℤ
ones n = replicate n (pos 1)

unfoldable pub table : List Case
table =
    record { number = 1; graph = bipartite 1 1 [] [] []; bound = zeros 2; chosen = []; prices = without_sets (zeros 2) []; claims = largest (pos 0) ∷ [] }
    ∷ record {
      number = 2;
      graph = square;
      bound = ones 4;
      chosen = 0 ∷ 1 ∷ 1 ∷ 0 ∷ [];
      prices = without_sets (zeros 4) (zeros 4);
      claims = largest (pos 8) ∷ optimal ∷ [];
    }
    ∷ record {
      number = 3;
      graph = square;
      bound = ones 4;
      chosen = 1 ∷ 0 ∷ 0 ∷ 1 ∷ [];
      prices = without_sets (pos 4 ∷ pos 2 ∷ pos 6 ∷ pos 4 ∷ []) (zeros 4);
      claims = line "merit 6 total 16 fish 0 groups 0 pairs 0 cover 4 gap 4" ∷ gap (pos 4) ∷ [];
    }
    ∷ record {
      number = 4;
      graph = single (negsuc 2);
      bound = ones 2;
      chosen = 0 ∷ [];
      prices = without_sets (zeros 2) (zeros 1);
      claims = largest (pos 0) ∷ optimal ∷ [];
    }
    ∷ record {
      number = 5;
      graph = single (pos 7);
      bound = pos 0 ∷ pos 5 ∷ [];
      chosen = 0 ∷ [];
      prices = without_sets (pos 14 ∷ pos 0 ∷ []) (zeros 1);
      claims = largest (pos 0) ∷ gap (pos 0) ∷ [];
    }
    ∷ record {
      number = 6;
      graph = triangle;
      bound = ones 3;
      chosen = 1 ∷ 0 ∷ 0 ∷ [];
      prices = with_set (zeros 3) (zeros 3) (pos 2) 0b111 0;
      claims = gap (pos 0) ∷ [];
    }
    ∷ record {
      number = 7;
      graph = triangle;
      bound = ones 3;
      chosen = 1 ∷ 0 ∷ 0 ∷ [];
      prices = without_sets (pos 2 ∷ pos 2 ∷ pos 0 ∷ []) (zeros 3);
      claims = gap (pos 2) ∷ optimal ∷ [];
    }
    ∷ record {
      number = 8;
      graph = single (pos 1000000);
      bound = ones 2;
      chosen = 0 ∷ [];
      prices = without_sets (pos 2000000 ∷ pos 0 ∷ []) (zeros 1);
      claims = taken ∷ solved ∷ sheet_taken (sheet "1 1 1000000") ∷ [];
    }
    ∷ record {
      number = 8;
      graph = single (pos 1000001);
      bound = ones 2;
      chosen = 0 ∷ [];
      prices = without_sets (pos 2000002 ∷ pos 0 ∷ []) (zeros 1);
      claims = refused 7 1 ∷ unsolved 7 1 ∷ sheet_refused (sheet "1 1 1000001") 7 3 ∷ [];
    }
    ∷ record {
      number = 9;
      graph = single (pos 0);
      bound = pos 64 ∷ pos 1 ∷ [];
      chosen = 0 ∷ [];
      prices = without_sets (zeros 2) (zeros 1);
      claims = taken ∷ solved ∷ limits_taken (limits "64") ∷ [];
    }
    ∷ record {
      number = 9;
      graph = single (pos 0);
      bound = pos 65 ∷ pos 1 ∷ [];
      chosen = 0 ∷ [];
      prices = without_sets (zeros 2) (zeros 1);
      claims = refused 10 1 ∷ unsolved 10 1 ∷ limits_refused (limits "65") 10 3 ∷ [];
    }
    ∷ record {
      number = 10;
      graph = general 2 [] [] [];
      bound = ones 2;
      chosen = [];
      prices = with_set (zeros 2) [] (pos 0) 0b11 0;
      claims = refused 14 1 ∷ [];
    }
    ∷ record {
      number = 11;
      graph = bipartite 1 3 (1 ∷ 1 ∷ 1 ∷ []) (1 ∷ 2 ∷ 3 ∷ []) (ones 3);
      bound = pos 2 ∷ ones 3;
      chosen = 1 ∷ 1 ∷ 0 ∷ [];
      prices = with_set (zeros 4) (zeros 3) (pos 2) 0b1 0b111;
      claims = capacity_of 0 2 ∷ gap (pos 0) ∷ [];
    }
    ∷ record {
      number = 12;
      graph = bipartite 1 2 (1 ∷ 1 ∷ []) (1 ∷ 2 ∷ []) (pos 5 ∷ pos 3 ∷ []);
      bound = pos 2 ∷ ones 2;
      chosen = 1 ∷ 1 ∷ [];
      prices = without_sets (pos 6 ∷ zeros 2) (pos 4 ∷ pos 0 ∷ []);
      claims = gap (pos 0) ∷ [];
    }
    ∷ []
