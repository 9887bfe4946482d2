-- By the line that is met, or where none is.
use Rattle.std.proofs.Common.{rules}
use Rattle.edge_reader.proofs.Next.{coordinates_end, coordinates_refused, coordinates_line}
use Rattle.edge_reader.proofs.next_coordinate.Goals as goal

pub returns-in_err-later_line : goal.returns-in_err-later_line
returns-in_err-later_line c = coordinates_refused c.args.rules c.args.field c.args.s c.in_err-later_line.ensures (search rules)

pub returns-in-None : goal.returns-in-None
returns-in-None c = coordinates_end c.args.rules c.args.field c.args.s (rw c.in-None.is at c.in_ok-later_line.ensures)

pub returns-in-Some : goal.returns-in-Some
returns-in-Some c =
    coordinates_line c.args.rules c.args.field c.args.s (rw c.in-Some.is at c.in_ok-later_line.ensures) c.coordinate_on.result
    c.coordinate_on.ensures.says c.coordinate_on.ensures.ranged c.brings.ensures
