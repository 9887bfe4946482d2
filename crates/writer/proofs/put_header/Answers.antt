use Rattle.writer.proofs.Lines.{header_appends}
use Rattle.writer.proofs.put_header.Goals as goal

pub returns-in-Integer-Bipartite : goal.returns-in-Integer-Bipartite
returns-in-Integer-Bipartite c = header_appends c.args.field c.args.kind c.in-Integer-Bipartite.is-0 c.in-Integer-Bipartite.is-1 c.bytes.ensures

pub returns-in-Integer-General : goal.returns-in-Integer-General
returns-in-Integer-General c = header_appends c.args.field c.args.kind c.in-Integer-General.is-0 c.in-Integer-General.is-1 c.bytes-in-Integer-General.ensures

pub returns-in-Pattern-Bipartite : goal.returns-in-Pattern-Bipartite
returns-in-Pattern-Bipartite c = header_appends c.args.field c.args.kind c.in-Pattern-Bipartite.is-0 c.in-Pattern-Bipartite.is-1 c.bytes-in-Pattern-Bipartite.ensures

pub returns-in-Pattern-General : goal.returns-in-Pattern-General
returns-in-Pattern-General c = header_appends c.args.field c.args.kind c.in-Pattern-General.is-0 c.in-Pattern-General.is-1 c.bytes-in-Pattern-General.ensures
