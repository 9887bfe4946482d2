-- One edge of the list more: it is chosen and leads to a row vertex.
use Rattle.std.proofs.Common.{◌∙◌, ◌<◌, refl, arith}
use Rattle.method.proofs.Solvable.{few, small, weight_within}
use Rattle.reach.proofs.Picking.{stays}
use Rattle.scan.proofs.Looking.{roomy}
use Rattle.scan.proofs.Column as Column
use Rattle.scan.proofs.scan_column.Goals as goal

pub list_of-places-requires : goal.list_of-places-requires
list_of-places-requires c =
    let span = c.requires.edges_in_bounds.2 in
    record { inside = span.inside; room = λ l. omega (arith, span.room l, small c.requires.solvable) }

pub ends_at-w-requires-clause-e_lt_edges : goal.ends_at-w-requires-clause-e_lt_edges
ends_at-w-requires-clause-e_lt_edges c =
    let I = c.loop-k.invariant in
    let net = c.requires.solvable in
    let h = c.requires.column_scan in
    let places = c.list_of-places.ensures in
    let s = I.scanning h in
    omega (
      arith,
      c.natural_at-e.ensures,
      Column.edge_in net h s (I.vertex, I.distance)
          (omega (arith, places.0, c.loop-k.auto.k)) (omega (arith, places.1, c.loop-k-test.true)),
    )

pub value_at-requires : goal.value_at-requires
value_at-requires c =
    let I = c.loop-k.invariant in
    let net = c.requires.solvable in
    let h = c.requires.column_scan in
    let places = c.list_of-places.ensures in
    let s = I.scanning h in
    let inside : c.natural_at-e.result < c.args.s.edges = omega (
      arith,
      c.natural_at-e.ensures,
      Column.edge_in net h s (I.vertex, I.distance)
          (omega (arith, places.0, c.loop-k.auto.k)) (omega (arith, places.1, c.loop-k-test.true)),
    ) in
    (omega (arith, inside, net.passed.weight_long), weight_within net.passed _ inside)

pub overflow_add-h : goal.overflow_add-h
overflow_add-h c =
    let I = c.loop-k.invariant in
    let net = c.requires.solvable in
    let h = c.requires.column_scan in
    let places = c.list_of-places.ensures in
    let s = I.scanning h in
    omega (
      arith,
      Column.raised_small net h s (I.vertex, I.distance)
          (omega (arith, places.0, c.loop-k.auto.k)) (omega (arith, places.1, c.loop-k-test.true)) c.natural_at-e.ensures c.value_at.ensures,
      c.requires.edges_in_bounds.1,
    )

pub bounds-state-w : goal.bounds-state-w
bounds-state-w c =
    let I = c.loop-k.invariant in
    let net = c.requires.solvable in
    let h = c.requires.column_scan in
    let places = c.list_of-places.ensures in
    let s = I.scanning h in
    omega (
      arith,
      Column.end_in net h s (I.vertex, I.distance)
          (omega (arith, places.0, c.loop-k.auto.k)) (omega (arith, places.1, c.loop-k-test.true)) c.natural_at-e.ensures c.ends_at-w.ensures.0,
      few net,
    )

pub overflow_add-h-in-loop-k : goal.overflow_add-h-in-loop-k
overflow_add-h-in-loop-k c =
    let I = c.loop-k.invariant in
    let net = c.requires.solvable in
    let h = c.requires.column_scan in
    let places = c.list_of-places.ensures in
    let s = I.scanning h in
    omega (
      arith,
      Column.ends_small net h s (I.vertex, I.distance)
          (omega (arith, places.0, c.loop-k.auto.k)) (omega (arith, places.1, c.loop-k-test.true)) c.natural_at-e.ensures c.ends_at-w.ensures.0,
    )

pub overflow_sub-h : goal.overflow_sub-h
overflow_sub-h c =
    let I = c.loop-k.invariant in
    let net = c.requires.solvable in
    let h = c.requires.column_scan in
    let places = c.list_of-places.ensures in
    let s = I.scanning h in
    omega (
      arith,
      Column.ends_fit net h s (I.vertex, I.distance)
          (omega (arith, places.0, c.loop-k.auto.k)) (omega (arith, places.1, c.loop-k-test.true)) c.natural_at-e.ensures c.ends_at-w.ensures.0 c.value_at.ensures,
    )

pub look_back-f-requires-clause-w_lt_most_vertices : goal.look_back-f-requires-clause-w_lt_most_vertices
look_back-f-requires-clause-w_lt_most_vertices c =
    let I = c.loop-k.invariant in
    let net = c.requires.solvable in
    let h = c.requires.column_scan in
    let places = c.list_of-places.ensures in
    let s = I.scanning h in (
      omega (
        arith,
        Column.end_in net h s (I.vertex, I.distance)
            (omega (arith, places.0, c.loop-k.auto.k)) (omega (arith, places.1, c.loop-k-test.true)) c.natural_at-e.ensures c.ends_at-w.ensures.0,
        few net,
      ),
      roomy net s,
      omega (
        arith,
        Column.raised_small net h s (I.vertex, I.distance)
            (omega (arith, places.0, c.loop-k.auto.k)) (omega (arith, places.1, c.loop-k-test.true)) c.natural_at-e.ensures c.value_at.ensures,
        c.requires.edges_in_bounds.1,
      ),
    )

pub look_back-f-requires-clause-level_bound : goal.look_back-f-requires-clause-level_bound
look_back-f-requires-clause-level_bound c =
    let I = c.loop-k.invariant in
    let net = c.requires.solvable in
    let h = c.requires.column_scan in
    let places = c.list_of-places.ensures in
    let s = I.scanning h in
    Column.may_lose net h s (I.vertex, I.distance)
    (omega (arith, places.0, c.loop-k.auto.k)) (omega (arith, places.1, c.loop-k-test.true)) c.natural_at-e.ensures c.ends_at-w.ensures.0

pub loop-k-preserved : goal.loop-k-preserved
loop-k-preserved c =
    let I = c.loop-k.invariant in
    let places = c.list_of-places.ensures in
    let same = stays c.look_back-f.ensures in
    record {
      scanning = λ h. Column.turned c.requires.solvable h (I.scanning h) (I.vertex, I.distance)
          (omega (arith, places.0, c.loop-k.auto.k)) (omega (arith, places.1, c.loop-k-test.true)) c.natural_at-e.ensures c.ends_at-w.ensures.0 c.value_at.ensures refl c.look_back-f.ensures;
      vertex = same.0 ∙ I.vertex;
      distance = same.1 ∙ I.distance;
    }

pub returns-clause-scanning : goal.returns-clause-scanning
returns-clause-scanning c = λ h. Column.scanned (omega (arith, c.loop-k-test.false, c.list_of-places.ensures.1)) (c.loop-k.invariant.scanning h)
