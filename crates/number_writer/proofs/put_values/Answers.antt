use Rattle.std.proofs.Common.{arith, ◌≡◌, length}
use Rattle.digits.proofs.Appending.{appends_widened}
use Rattle.number_writer.proofs.Lines.{values-start, value_room, values-more, values-end}
use Rattle.number_writer.proofs.put_values.Goals as goal

pub loop-value-init : goal.loop-value-init
loop-value-init c = values-start c.args.values.now c.args.w.now c.requires

pub signed-requires : goal.signed-requires
signed-requires c = omega (arith, value_room c.args.values.now c.loop-value.invariant c.loop-value-test.true)

pub byte-requires : goal.byte-requires
byte-requires c =
    omega (arith, value_room c.args.values.now c.loop-value.invariant c.loop-value-test.true, c.signed.ensures.within, c.signed.ensures.written.long)

pub loop-value-preserved : goal.loop-value-preserved
loop-value-preserved c =
    values-more c.args.values.now c.loop-value.invariant c.loop-value-test.true
    (appends_widened (record { sfits = c.from.type_inv }) c.from.ensures (record { sfits = omega arith }) c.signed.ensures.written) c.signed.ensures.within c.byte.ensures

pub returns-clause-written : goal.returns-clause-written
returns-clause-written c =
    let all : c.loop-value.value-index ≡ length c.args.values.now = omega arith in
    values-end c.args.values.now c.loop-value.invariant all
