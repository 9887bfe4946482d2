-- A byte is put where there is one.
use Rattle.std.proofs.Common.{sym, arith}
use Rattle.digits.proofs.Appending.{appends_same}
use Rattle.anew.proofs.Put.{no_byte_put, byte_some, byte_one}
use Rattle.anew.proofs.put_byte.Goals as goal

pub byte-requires : goal.byte-requires
byte-requires c = omega (arith, byte_one c.args.s.now c.args.e (omega arith))

pub returns-then-e-s : goal.returns-then-e-s
returns-then-e-s c = appends_same c.byte.ensures (sym (byte_some c.args.s.now c.args.e (omega arith)))

pub returns-else-e-s : goal.returns-else-e-s
returns-else-e-s c = no_byte_put c.args.w.now c.args.s.now c.args.e c.if-e-s.false
