-- `promises::promises_kept` meets its contract: every promise is kept.
use Rattle.promises.proofs.promises_kept.Statement.{statement}
use Rattle.promises.proofs.promises_kept.Tie as tie
use Rattle.promises.proofs.Root.{promises}

returns : tie.Need-returns
returns c = promises

pub promises_kept_spec : {M : Type 1} → statement M
promises_kept_spec = tie.close (tie.spec
    returns)
