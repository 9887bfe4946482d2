use Rattle.std.proofs.Common.{rules, ◌∙◌, length}
use Rattle.assignment_writer.proofs.Lines.{sources_room, arcs_room, text_appends}
use Rattle.writer.proofs.Zeros.{zeros-long, whole}
use Rattle.assignment_writer.proofs.put_assignment.Goals as goal

pub put_sources-requires : goal.put_sources-requires
put_sources-requires c =
    let k = c.cleared-w.ensures in
    let long = zeros-long (length c.args.out.now) k.zeros ∙ c.requires.out_len in
    (c.requires.passed.sound.sizes.rows.greatest, sources_room c.requires.passed k.start long c.put_problem.ensures)

pub put_arcs-requires : goal.put_arcs-requires
put_arcs-requires c =
    let k = c.cleared-w.ensures in
    let long = zeros-long (length c.args.out.now) k.zeros ∙ c.requires.out_len in
    record { room = arcs_room c.requires.passed k.start long c.put_problem.ensures c.put_sources.ensures; passed = c.requires.passed }

pub returns : goal.returns
returns c =
    let k = c.cleared-w.ensures in
    let long = zeros-long (length c.args.out.now) k.zeros ∙ c.requires.out_len in
    whole k.zeros k.start c.requires.out_len (text_appends c.requires.passed k.start long c.put_problem.ensures c.put_sources.ensures c.put_arcs.ensures)
    (search rules)
