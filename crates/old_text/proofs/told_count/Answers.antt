-- A text that is taken for a count has the lines that are looked for, and the size line tells the count.
use Rattle.std.proofs.Common.{arith}
use Rattle.std.proofs.lemmas.Grind.{common_steps}
use Rattle.old_text.proofs.Count.{header-there, size_there, told}
use Rattle.old_text.proofs.told_count.Goals as goal

pub returns-in_err-header : goal.returns-in_err-header
returns-in_err-header c = λ what k zs e. absurd (header-there c.args.text.now what k zs e c.header_line.result c.header_line.ensures c.in_err-header.ensures.value)

pub returns-in_err-size : goal.returns-in_err-size
returns-in_err-size c = λ what k zs e.
    absurd (size_there c.args.text.now what k zs e c.header_line.result c.header_line.ensures c.in_ok-header.ensures.value
    c.size_line.result c.size_line.ensures c.in_err-size.ensures.value)

pub returns-in_err-count : goal.returns-in_err-count
returns-in_err-count c = λ what k zs e.
    let t = (told c.args.text.now what k zs e c.header_line.result c.header_line.ensures c.in_ok-header.ensures.value
    c.size_line.result c.size_line.ensures c.in_ok-size.ensures.value c.two_naturals.ensures).1 in
    grind (arith, common_steps)

pub returns : goal.returns
returns c = λ what k zs e.
    let t = (told c.args.text.now what k zs e c.header_line.result c.header_line.ensures c.in_ok-header.ensures.value
    c.size_line.result c.size_line.ensures c.in_ok-size.ensures.value c.two_naturals.ensures).1 in
    grind (arith, common_steps)
