-- A path that was found is flipped and counted: what the walk back may assume, and what is kept.
use Prim.Native.Nat.{ℕ, ◌≤◌, ◌<◌}
use mathlib.Core.Path.{◌≡◌, sym, ap, ◌∙◌}
use mathlib.Core.Logic.{⊎_elim}
use mathlib.Core.List.{List, []}
use native.Mathlib.Omega.{arith}
use native.Mathlib.Decide.{ℕ_discrete}
use lib.IntN.{ℤ}
use lib.ListN.{length}
use Rattle.integers.specs.Sum.{is}
use Rattle.integers.proofs.Sum.{is_same}
use Rattle.graph.specs.Limits.{most_vertices, greatest_bound}
use Rattle.graph.specs.declared.Shape.{Shape}
use Rattle.graph.specs.Graph.{Graph, graph_of, vertices}
use Rattle.graph.specs.Subgraph.{degree}
use Rattle.method.specs.declared.Table.{Table}
use Rattle.method.specs.declared.KeptEdge.{KeptEdge}
use Rattle.method.specs.Method.{Solvable, Labels, Augmented, Sought}
use Rattle.method.specs.Tree.{entries, naturals, Ended}
use Rattle.method.specs.Lists.{starts, nowhere, Listing, Given, Between}
use Rattle.method.proofs.Solvable.{few, rows_in}
use Rattle.method.proofs.Leading.{lt-or_ge}
use Rattle.method.proofs.End.{sought}
use Rattle.method.proofs.Lists.{ends_second, degree-less, unweigh}
use Rattle.scan.specs.Scan.{list_stop}
use Rattle.augment.specs.Augment.{Walkable, Ranked, Relistable}
use Rattle.search.proofs.Spans as Spans
use Rattle.search.specs.Search.{Countable, PathCounted}

-- ---- the walk back

-- Labels and walks do not depend on the weights.
module _ {s : Shape} {row column x : List ℕ} {weight : List ℤ} {rank : ℕ → ℕ} {root : ℕ} where
  labels_alone : {label : ℕ → ℕ} {k : ℕ} → Labels (graph_of s row column weight) x label rank root k → Labels (graph_of s row column []) x label rank root k
  labels_alone l = record {
    of_row = λ v d n a b.
        let k = l.of_row v d n a b in
        record { inside = k.inside; mark = k.mark; end = k.end; less = k.less; seen = k.seen };
    of_column = λ v d i a b.
        let k = l.of_column v d i a b in
        record { inside = k.inside; mark = k.mark; end = k.end; less = k.less; seen = k.seen };
  }

  augmented : {v : ℕ} {label : ℕ → ℕ} {y : List ℕ} → Augmented (graph_of s row column []) label rank root v x y → Augmented (graph_of s row column weight) label rank root v x y
  augmented a = record { long = a.long; from_row = a.from_row; from_column = a.from_column; marks = a.marks; kept = a.kept }

module _ {s : Shape} {row column : List ℕ} {weight : List ℤ} {least most : ℕ → ℕ} {x label : List ℕ} {start price : ℕ → ℕ} {root v : ℕ} (net : Solvable (graph_of s row column weight))
    (e : Ended (graph_of s row column weight) least most x start price (entries label) root v) where
  walkable : Walkable s row column label e.rank root v most_vertices x
  walkable = record {
    bipartite = net.bipartite;
    sound = net.passed.sound;
    long = e.good.long;
    labels = labels_alone e.labels;
    root_in = e.root_near;
    inside = e.inside;
    seen = e.seen;
    low = e.few;
  }

  pub ranked : Ranked s row column label root v most_vertices x
  ranked = record { rank = e.rank; walkable = walkable }

-- The lists before the walk: where the end is a column vertex, its label is an edge that is not chosen.
pub relistable : {s : Shape} {row column : List ℕ} {arc : List KeptEdge} {table : Table} {weight : List ℤ} {least most : ℕ → ℕ} {x : List ℕ} {start price used label : ℕ → ℕ} {root v gap : ℕ}
    (list : List ℤ) (place : List ℕ) → Given (graph_of s row column weight) arc table (length list) →
    Between (graph_of s row column weight) least most x start used (naturals list) (entries place)
    → Ended (graph_of s row column weight) least most x start price label root v → s.edges ≤ length place →
    gap ≡ list_stop s.rows (starts table) used v → Relistable (graph_of s row column []) x list place v gap
relistable {s} {row} {column} {weight = weight} {x = x} {label = label} {v = v} list place given b e place_long at = record {
  lists = unweigh b.lists;
  list_long = given.room;
  place_long = place_long;
  gap_is = λ a. at ∙ Spans.stop_is given b e.inside a;
  fits = λ a.
      let g : Graph = graph_of s row column weight in
      let k = e.labels.of_column v a e.inside e.seen (omega arith) in
      degree-less g given.net.passed.sound x b.good.marks v (label v) k.inside k.mark (ends_second g (label v) k.end);
}

module _ {g : Graph} {least most : ℕ → ℕ} {x : List ℕ} {start price used list place label : ℕ → ℕ} {root v : ℕ} (net : Solvable g)
    (b : Between g least most x start used list place) (e : Ended g least most x start price label root v) (room : degree g x root < most root) where
  few_used : (h : ℕ) → h < vertices g → used h ≤ greatest_bound
  few_used h l = omega (arith, b.degrees.each h l, b.degrees.few h l, b.good.within h l)

  pub countable : Countable g.rows root v used
  countable = record {
    root_in = omega (arith, e.root_near, rows_in net, few net);
    end_in = omega (arith, e.inside, few net);
    root_few = few_used root (omega (arith, e.root_near, rows_in net));
    end_few = few_used v e.inside;
    some = λ l. elim (ℕ_discrete root v) [
      | yes i ↦ omega (arith, ap (λ k. is k v) i, is_same v)
      | no n ↦ omega (arith, b.degrees.each v e.inside, e.at_near l (λ i. n (sym i)))
    ];
  }

  -- The walk from the end leaves what a search is to leave.
  module _ {y : List ℕ} (path : Augmented g label e.rank root v x y) where
    pub found : Sought g least most root x start y price
    found = sought e room path

    pub kept : {used' list' place' : ℕ → ℕ} → PathCounted g.rows root v used used' → Listing g y (degree g y) list' place' (nowhere g) →
        Between g least most y price used' list' place'
    kept {used'} c t = record {
      good = found.good;
      degrees = record {
        each = λ h l. ⊎_elim (λ a. omega (arith, c.from_row a h, path.from_row a h, b.degrees.each h l))
            (λ a. omega (arith, c.from_column a h, path.from_column a h, b.degrees.each h l)) (lt-or_ge v g.rows);
        few = b.degrees.few;
        ordered = b.degrees.ordered;
      };
      lists = t;
    }

-- The walk, by the ranks of the end.
pub walked : {s : Shape} {row column : List ℕ} {weight : List ℤ} {least most : ℕ → ℕ} {x y label : List ℕ} {start price : ℕ → ℕ} {root v : ℕ} → Solvable (graph_of s row column weight) →
    (e : Ended (graph_of s row column weight) least most x start price (entries label) root v) →
    ((rank : ℕ → ℕ) → Walkable s row column label rank root v most_vertices x → Augmented (graph_of s row column []) (entries label) rank root v x y)
    → Augmented (graph_of s row column weight) (entries label) e.rank root v x y
walked net e w = augmented (w e.rank (walkable net e))
