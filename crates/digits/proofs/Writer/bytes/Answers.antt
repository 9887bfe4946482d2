use Rattle.digits.proofs.Appending.{appends_bytes}
use Rattle.digits.proofs.Writer.bytes.Goals as goal

pub returns : goal.returns
returns c = appends_bytes c.args.self.now c.args.b.now c.requires c.copy_from_slice.ensures.after
