use Rattle.std.proofs.Common.{rules, arith, ◌∙◌, length}
use Rattle.writer.proofs.Lines.{header_at, head_appends}
use Rattle.writer.proofs.Zeros.{zeros-long, puts-zeroed}
use Rattle.writer.proofs.put_head.Goals as goal

pub put_header-requires : goal.put_header-requires
put_header-requires c = omega (arith, c.cleared-w.ensures.start, zeros-long (length c.args.out.now) c.cleared-w.ensures.zeros, c.requires)

pub put_sizes-requires : goal.put_sizes-requires
put_sizes-requires c =
    let k = c.cleared-w.ensures in
    omega (
      arith,
      k.start,
      zeros-long (length c.args.out.now) k.zeros,
      c.put_header.ensures.long,
      header_at c.args.field c.args.s.kind c.put_header.ensures,
    )

pub returns-clause-long : goal.returns-clause-long
returns-clause-long c =
    let long = c.put_sizes.ensures.long ∙ c.put_header.ensures.long ∙ zeros-long (length c.args.out.now) c.cleared-w.ensures.zeros in search (rules, long)

pub returns-clause-written : goal.returns-clause-written
returns-clause-written c =
    let k = c.cleared-w.ensures in
    puts-zeroed (length c.args.out.now) k.zeros k.start
    (head_appends c.args.field c.args.s c.args.count (omega (arith, k.start, zeros-long (length c.args.out.now) k.zeros, c.requires))
    (omega (arith, c.well_formed.1.1.0)) (omega (arith, c.well_formed.1.1.0)) c.ranges.count.fits c.put_header.ensures c.put_sizes.ensures)
