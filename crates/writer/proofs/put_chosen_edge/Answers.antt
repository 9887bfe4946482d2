use Rattle.writer.proofs.Lines.{edge_unchosen}
use Rattle.writer.proofs.put_chosen_edge.Goals as goal

pub returns-else-chosen : goal.returns-else-chosen
returns-else-chosen c = edge_unchosen c.args.w.now c.args.row c.args.column c.args.mark c.if-chosen.false
