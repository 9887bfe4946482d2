use Rattle.std.proofs.Common.{◌∙◌, ℕ}
use lib.ListN.{replicate}
use Rattle.lent.proofs.Parts.{came_back}
use Rattle.tidier.proofs.Tested.{tidy_ordered}
use Rattle.tidier.proofs.put_tidy.Goals as goal

pub put_graph-requires-clause-ordered : goal.put_graph-requires-clause-ordered
put_graph-requires-clause-ordered c =
    let P = c.requires.passed in
    let back = came_back c.args.s.edges (replicate {A = ℕ} 1024 0) P.sound.sizes.few c.sort_edges.auto.order in
    tidy_ordered P (back.same ∙ c.sort_edges.ensures)
