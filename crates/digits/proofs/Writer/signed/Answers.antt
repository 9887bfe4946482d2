use Rattle.std.proofs.Common.{arith, ap}
use Rattle.digits.specs.declared.Writer.{Writer}
use Rattle.digits.proofs.Appending.{appends_below, appends_above}
use Rattle.digits.proofs.Writer.signed.Goals.{then-below, else-below}
use Rattle.digits.proofs.Writer.signed.Goals as goal

pub decimal-requires : goal.decimal-requires
decimal-requires c =
    elim c.if-below.branch [
      | then-below w ↦ rw w.self-is (omega (arith, w.byte.ensures.puts.place, w.byte.ensures.long))
      | else-below w ↦ rw w.self-is (omega arith)
    ]

pub returns-clause-written : goal.returns-clause-written
returns-clause-written c =
    elim c.if-below.branch [
      | then-below w ↦
          appends_below c.args.self.now c.args.z c.unsigned_abs.result c.ranges.z c.requires c.unsigned_abs.ensures.value c.decimal.ensures.written
          w.if-below.true w.byte.ensures w.self-is c.decimal.ensures.within
      | else-below w ↦
          appends_above c.args.self.now c.args.z c.unsigned_abs.result c.ranges.z c.requires c.unsigned_abs.ensures.value c.decimal.ensures.written
          w.if-below.false w.self-is
    ]

pub returns-clause-within : goal.returns-clause-within
returns-clause-within c =
    elim c.if-below.branch [
      | then-below w ↦ let e = ap (λ (v : Writer). v.at) w.self-is in omega (arith, c.decimal.ensures.within, w.byte.ensures.puts.place)
      | else-below w ↦ let e = ap (λ (v : Writer). v.at) w.self-is in omega (arith, c.decimal.ensures.within)
    ]
