-- Where the list of a vertex is found.
use Prim.Native.Nat.{ℕ, ◌+◌, ◌≤◌, ◌<◌}
use mathlib.Core.Path.{◌≡◌, ◌∙◌}
use mathlib.Core.List.{List}
use native.Mathlib.Omega.{arith}
use Rattle.graph.specs.Graph.{Graph, vertices}
use Rattle.graph.specs.Subgraph.{degree}
use Rattle.graph.proofs.Index.{offset-more, offset-next}
use Rattle.method.specs.declared.Table.{Table}
use Rattle.method.specs.declared.KeptEdge.{KeptEdge}
use Rattle.method.specs.Lists.{starts, Given, start_in, Between}
use Rattle.method.proofs.Tests.{if_not_less}
use Rattle.method.proofs.Solvable.{few}
use Rattle.method.proofs.Lists.{columns}
use Rattle.scan.specs.Scan.{Spanned, list_start, list_stop}

module _ {g : Graph} {arc : List KeptEdge} {table : Table} {places : ℕ} {least most : ℕ → ℕ} {x : List ℕ} {price used list place : ℕ → ℕ} {u : ℕ}
    (given : Given g arc table places) (b : Between g least most x price used list place) (inside : u < vertices g) where
  -- The list of a column vertex starts where it should, and has as many places as the vertex has chosen edges.
  module _ (r : g.rows ≤ u) where
    pub start_is : list_start g.rows (starts table) u ≡ start_in g u
    start_is = if_not_less 0 (starts table u) r ∙ given.begins u r inside

    pub stop_is : list_stop g.rows (starts table) used u ≡ start_in g u + degree g x u
    stop_is = omega (arith, if_not_less 0 (starts table u + used u) r, given.begins u r inside, b.degrees.each u inside)

  pub spanned : Spanned g.rows (starts table) used g.edges u
  spanned = record {
    inside = omega (arith, inside, few given.net);
    room = λ r.
        let net = given.net in
        omega (
          arith,
          given.begins u r inside,
          b.degrees.each u inside,
          b.lists.fits u r inside,
          offset-next g u,
          offset-more g g.rows u r,
          offset-more g (u + 1) (vertices g) (omega (arith, inside)),
          (columns g net.bipartite net.passed.sound).places,
        );
  }
