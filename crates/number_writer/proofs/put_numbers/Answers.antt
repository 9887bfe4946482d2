use Rattle.std.proofs.Common.{rules, arith, length}
use Rattle.number_writer.proofs.Lines.{numbers_append}
use Rattle.writer.proofs.Zeros.{zeros-long, whole}
use Rattle.number_writer.proofs.put_numbers.Goals as goal

pub returns : goal.returns
returns c =
    let k = c.cleared-w.ensures in
    whole k.zeros k.start c.requires.out_len
    (numbers_append c.args.first.now c.args.rest.now c.put_array_head.ensures.written c.put_values.ensures.written c.put_values-2.ensures.written
    (omega (arith, zeros-long (length c.args.out.now) k.zeros, c.put_array_head.ensures.within, c.put_values.ensures.within, c.put_values-2.ensures.within)))
    (search rules)
