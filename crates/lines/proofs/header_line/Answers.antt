use Rattle.std.proofs.Common.{false, rules}
use Rattle.graph.specs.declared.Fault.TheVariants.{Header}
use Rattle.lines.proofs.Walk.{opened_as}
use Rattle.lines.proofs.header_line.Goals as goal

pub returns : goal.returns
returns c = rw c.to_come.ensures (opened_as _ (c.find_line.ensures (λ l. false) (λ l b h. search rules)) Header)
