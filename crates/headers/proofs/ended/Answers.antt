use Rattle.std.proofs.Common.{rules}
use Rattle.headers.proofs.Headers.{folded_end}
use Rattle.headers.proofs.ended.Goals as goal

pub returns : goal.returns
returns c = search (rules, folded_end)
