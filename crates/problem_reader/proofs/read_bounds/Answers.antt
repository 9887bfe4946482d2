-- What the number reader leaves of the part that is lent, and 0 after it.
use Rattle.std.proofs.Common.{length}
use Rattle.problem_reader.proofs.Answered.{bounds_left}
use Rattle.problem_reader.proofs.read_bounds.Goals as goal

pub returns-clause-bounds : goal.returns-clause-bounds
returns-clause-bounds c =
    bounds_left (length c.args.bound.now) c.args.n c.args.limits.now c.fill.ensures c.if-bound-ne-MOST_VERTICES.false c.requires c.read_numbers.ensures.numbers
