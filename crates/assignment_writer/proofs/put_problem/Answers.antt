use Rattle.assignment_writer.proofs.Lines.{problem_appends}
use Rattle.assignment_writer.proofs.put_problem.Goals as goal

pub returns : goal.returns
returns c =
    problem_appends c.requires (rw (c.from.ensures, c.from-2.ensures)) c.from-3.ensures c.bytes.ensures c.field.ensures.written c.field.ensures.within
    c.field-2.ensures.written c.field-2.ensures.within
