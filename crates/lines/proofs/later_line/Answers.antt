use Rattle.std.proofs.Common.{rules}
use Rattle.layout.specs.Text.{blank_line}
use Rattle.lines.proofs.Walk.{later_at}
use Rattle.lines.proofs.later_line.Goals as goal

pub returns-in-Ok : goal.returns-in-Ok
returns-in-Ok c = later_at (c.in-Ok.ensures blank_line (λ l b h. search rules)) c.if-more.true
