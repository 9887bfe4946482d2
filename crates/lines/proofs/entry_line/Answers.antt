use Rattle.std.proofs.Common.{rules}
use Rattle.layout.specs.AssignmentText.{skipped}
use Rattle.lines.proofs.entry_line.Goals as goal

pub returns : goal.returns
returns c = c.find_line.ensures skipped (λ l b h. search rules)
