use Rattle.std.proofs.Common.{◌||◌, rules}
use Rattle.graph.specs.declared.Fault.TheVariants.{SizeLine}
use Rattle.layout.specs.Text.{blank_line, comment_line}
use Rattle.lines.proofs.Walk.{opened_as}
use Rattle.lines.proofs.size_line.Goals as goal

pub returns : goal.returns
returns c = rw c.to_come.ensures (opened_as _ (c.find_line.ensures (λ l. blank_line l || comment_line l) (λ l b h. search rules)) SizeLine)
