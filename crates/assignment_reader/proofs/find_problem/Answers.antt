-- By the first line that counts, or by what is missing.
use Rattle.std.proofs.Common.{arith}
use Rattle.std.proofs.lemmas.Grind.{common_steps}
use Rattle.assignment_reader.proofs.Sources.{problem_missing, problem_long, problem_found, problem_wrong}
use Rattle.assignment_reader.proofs.find_problem.Goals as goal

pub returns-in-Err-Ended : goal.returns-in-Err-Ended
returns-in-Err-Ended c =
    problem_missing (rw c.in-Err-Ended.field-0-is at c.in-Err-Ended.ensures) c.wrong_line.ensures

pub returns-in-Err-Long : goal.returns-in-Err-Long
returns-in-Err-Long c =
    problem_long (rw c.in-Err-Long.field-0-is at c.in-Err-Long.ensures) c.wrong_line-in-Err-Long.ensures

pub returns-in_default : goal.returns-in_default
returns-in_default c = problem_wrong c.in-Ok.ensures (grind (arith, common_steps)) c.wrong_line-in_default.ensures

pub returns : goal.returns
returns c = problem_found c.in-Ok.ensures c.in-Some-Problem.nodes c.in-Some-Problem.arcs (grind (arith, common_steps))
