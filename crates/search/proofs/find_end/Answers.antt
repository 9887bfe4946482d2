-- The search grows vertex by vertex and edge by edge, and is left where a path ends or none does.
use Rattle.std.proofs.Common.{◌<◌, ap, sym, arith, rules, ℕ}
use lib.ListN.{length-replicate}
use Rattle.graph.specs.Limits.{most_vertices}
use Rattle.graph.specs.Graph.{graph_of, vertices_in}
use Rattle.method.specs.Tree.{entries}
use Rattle.method.specs.Lists.{leasts, mosts}
use Rattle.search.specs.Search.{exit_of}
use Rattle.method.proofs.Solvable.{few}
use Rattle.method.proofs.Grow.{last_in}
use Rattle.method.specs.declared.Tree.{Tree}
use Rattle.reach.specs.declared.Front.{Front}
use Rattle.scan.proofs.Looking.{roomy}
use Rattle.search.proofs.Exits.{ways}
use Rattle.search.proofs.Spans.{spanned}
use Rattle.search.proofs.Growth as Growth
use Rattle.search.proofs.find_end.Goals.{Left-loop-k, then-loop-k-test+then-f, else-loop-k-test+then-at-f}
use Rattle.search.proofs.find_end.Goals as goal

pub search-init : goal.search-init
search-init c =
    let W = ways c.requires.given c.requires.known c.requires.rooted in
    let net = c.requires.given.net in
    let f = c.at_root-f.ensures in
    let goal-is = ap (λ (z : Front). z.goal) f.front in
    Growth.front_as f.front (Growth.begun net c.requires.rooted.near (length-replicate {A = ℕ} most_vertices 0) (search rules) (sym W.own) (omega (arith, goal-is, f.goal)))

pub scan_column-f-requires-clause-edges_in_bounds : goal.scan_column-f-requires-clause-edges_in_bounds
scan_column-f-requires-clause-edges_in_bounds c =
    let W = ways c.requires.given c.requires.known c.requires.rooted in
    let s = c.search.invariant in
    (c.requires.given.room, Growth.near_far c.requires.given c.requires.known W.near s, spanned c.requires.given c.requires.known.between (last_in s.state))

pub scan_column-f-requires-clause-column_scan : goal.scan_column-f-requires-clause-column_scan
scan_column-f-requires-clause-column_scan c =
    let W = ways c.requires.given c.requires.known c.requires.rooted in
    Growth.column_scan c.requires.given c.requires.known W.near c.search.invariant

pub bounds-state-u : goal.bounds-state-u
bounds-state-u c =
    omega (arith, c.scan_column-f.ensures.vertex_value.0, last_in c.search.invariant.state, few c.requires.given.net)

pub bounds-table-u-in-search : goal.bounds-table-u-in-search
bounds-table-u-in-search c =
    omega (arith, c.scan_column-f.ensures.vertex_value.0, last_in c.search.invariant.state, few c.requires.given.net)

pub overflow_add-base : goal.overflow_add-base
overflow_add-base c =
    let W = ways c.requires.given c.requires.known c.requires.rooted in
    let s = c.search.invariant in
    let same = c.scan_column-f.ensures.vertex_value in
    let inside : c.scan_column-f.result.vertex < vertices_in c.args.s = omega (arith, same.0, last_in s.state) in
    omega (arith, same.1, Growth.near_far c.requires.given c.requires.known W.near s, c.requires.known.between.good.high _ inside)

pub loop-k-init : goal.loop-k-init
unfolding Growth.column_scan
loop-k-init c =
    let W = ways c.requires.given c.requires.known c.requires.rooted in
    let after = c.scan_column-f.ensures in
    let s = after.scanning (Growth.column_scan c.requires.given c.requires.known W.near c.search.invariant) in
    Growth.row_begun {v = c.search.f.vertex} c.requires.given c.requires.known after.vertex_value.0 s c.pick-last.ensures

pub bounds-arcs-k : goal.bounds-arcs-k
bounds-arcs-k c =
    let W = ways c.requires.given c.requires.known c.requires.rooted in
    let r = c.loop-k.invariant in
    Growth.place_low c.requires.given c.requires.known W.far W.gains r c.loop-k-test.true

pub bounds-chosen-kept : goal.bounds-chosen-kept
bounds-chosen-kept c =
    let W = ways c.requires.given c.requires.known c.requires.rooted in
    let r = c.loop-k.invariant in
    Growth.edge_in c.requires.given c.requires.known W.far W.gains r c.loop-k-test.true

pub look-f-requires-clause-head_in : goal.look-f-requires-clause-head_in
look-f-requires-clause-head_in c =
    let W = ways c.requires.given c.requires.known c.requires.rooted in
    let r = c.loop-k.invariant in
    (Growth.head_in c.requires.given c.requires.known W.far W.gains r c.loop-k-test.true, roomy c.requires.given.net r.scan)

pub look-f-requires-clause-base_bound : goal.look-f-requires-clause-base_bound
look-f-requires-clause-base_bound c =
    let W = ways c.requires.given c.requires.known c.requires.rooted in
    let r = c.loop-k.invariant in
    Growth.lookable c.requires.given c.requires.known W.far W.gains r c.loop-k-test.true

pub loop-k-preserved : goal.loop-k-preserved
loop-k-preserved c =
    let W = ways c.requires.given c.requires.known c.requires.rooted in
    let r = c.loop-k.invariant in
    Growth.turned c.requires.given c.requires.known W.far W.gains r c.loop-k-test.true c.look-f.ensures

pub nearest-at-requires : goal.nearest-at-requires
nearest-at-requires c =
    Growth.searchable c.requires.given.net c.loop-k.invariant

pub bounds-distance-v : goal.bounds-distance-v
bounds-distance-v c =
    let net = c.requires.given.net in
    omega (arith, few net, Growth.next-in net c.loop-k.invariant c.nearest-at.ensures c.if-at-f.false c.settle-v.ensures)

pub search-preserved : goal.search-preserved
search-preserved c =
    let W = ways c.requires.given c.requires.known c.requires.rooted in
    let r = c.loop-k.invariant in
    let all = Growth.looked_all c.requires.given c.requires.known W.far W.gains r c.requires.rooted.near W.exits (omega (arith, c.loop-k-test.false)) in
    Growth.front_as c.settled-f.ensures (Growth.grown c.requires.given.net r c.nearest-at.ensures c.if-at-f.false c.settle-v.ensures all)

-- Both ways out of the loops.
left_at : (c : Left-loop-k) →
    Growth.LeftOff (graph_of c.args.s c.args.row.now c.args.column.now c.args.weight.now) c.args.chosen.now (entries c.args.state.now.price)
    (exit_of c.args.s.rows (entries c.args.state.now.price) (entries c.args.state.now.used) (leasts c.args.table.now) (mosts c.args.table.now) (entries c.args.order.now 0))
    c.loop-k-test.tree.label c.loop-k-test.distance c.loop-k-test.order (entries c.args.order.now 0) c.search.count c.loop-k-test.f.goal c.loop-k-test.end
left_at c =
    let W = ways c.requires.given c.requires.known c.requires.rooted in
    let r = c.loop-k.invariant in
    elim c.loop-k-test.branch [
      | then-loop-k-test+then-f w ↦
          Growth.left_as w.order-is w.f-is w.distance-is (ap (λ (t : Tree). t.label) w.tree-is) w.end-is
          (Growth.ends_early (Growth.turned c.requires.given c.requires.known W.far W.gains r w.loop-k-test.true w.look-f.ensures) w.if-f.true)
      | else-loop-k-test+then-at-f w ↦
          let all = Growth.looked_all c.requires.given c.requires.known W.far W.gains r c.requires.rooted.near W.exits (omega (arith, w.loop-k-test.false)) in
          Growth.left_as w.order-is w.f-is w.distance-is (ap (λ (t : Tree). t.label) w.tree-is) w.end-is (Growth.ends_last c.requires.given.net r w.nearest-at.ensures all w.if-at-f.true)
    ]

pub returns-then-none-clause-finds : goal.returns-then-none-clause-finds
returns-then-none-clause-finds c =
    let W = ways c.requires.given c.requires.known c.requires.rooted in
    let left = left_at (goal.at.returns-then-none-clause-finds c).Left-loop-k in
    Growth.finds-none (Growth.stuck c.requires.given.net c.requires.known.between.good c.requires.rooted.near W.exits left.leaving c.if-none.true)

pub move_prices-requires : goal.move_prices-requires
move_prices-requires c =
    let W = ways c.requires.given c.requires.known c.requires.rooted in
    let left = left_at (goal.at.move_prices-requires c).Left-loop-k in
    record { movable = Growth.movable c.requires.given.net c.requires.known.between.good c.requires.rooted.near W.exits left.leaving c.if-none.false }

pub returns-clause-finds : goal.returns-clause-finds
returns-clause-finds c =
    let W = ways c.requires.given c.requires.known c.requires.rooted in
    let left = left_at (goal.at.returns-clause-finds c).Left-loop-k in
    Growth.finds-end _ (Growth.ended c.requires.given.net c.requires.known.between.good c.requires.rooted.near W.exits left.leaving c.if-none.false c.move_prices.ensures)
