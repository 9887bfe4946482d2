use Rattle.std.proofs.Common.{arith, ◌≤◌, length}
use Rattle.graph_writer.proofs.Own.{own_ordered, own_written}
use Rattle.graph_writer.proofs.put_own.Goals as goal

pub put_graph-requires-clause-ordered : goal.put_graph-requires-clause-ordered
put_graph-requires-clause-ordered c =
    let room : c.args.s.edges ≤ length c.fill_own.new.order = omega (arith, c.requires.passed.sound.sizes.few) in
    own_ordered c.requires.passed c.fill_own.new.order room c.fill_own.ensures

pub returns : goal.returns
returns c =
    let room : c.args.s.edges ≤ length c.fill_own.new.order = omega (arith, c.requires.passed.sound.sizes.few) in
    own_written c.requires.passed c.fill_own.new.order room c.fill_own.ensures c.put_graph.ensures
