use Rattle.digits.proofs.Appending.{appends_byte}
use Rattle.digits.proofs.Writer.byte.Goals as goal

pub returns : goal.returns
returns c = appends_byte c.args.self.now c.args.b c.requires
