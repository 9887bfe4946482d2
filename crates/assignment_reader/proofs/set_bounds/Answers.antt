-- The first n bounds are ones, and the others stay 0.
use Rattle.assignment_reader.proofs.Bounds.{bounds_set}
use Rattle.assignment_reader.proofs.set_bounds.Goals as goal

pub returns : goal.returns
returns c = bounds_set c.requires.bound_value c.args.n c.requires.n_le_most_vertices c.fill.ensures
