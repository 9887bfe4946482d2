-- By the sort of text.
use Rattle.std.proofs.Common.{sym, subst}
use Rattle.graph.specs.Graph.{graph_of}
use Rattle.edge_reader.specs.Edges.{NextAs}
use Rattle.edge_reader.proofs.next_edge.Goals as goal

pub returns-in-Coordinates : goal.returns-in-Coordinates
returns-in-Coordinates c = λ row column weight right.
    subst (λ w. NextAs w c.args.text.now c.args.c (graph_of c.args.s row column weight) c.next_coordinate.result) (sym c.in-Coordinates.is)
    (c.next_coordinate.ensures row column weight right)

pub returns-in-Assignment : goal.returns-in-Assignment
returns-in-Assignment c = λ row column weight right.
    subst (λ w. NextAs w c.args.text.now c.args.c (graph_of c.args.s row column weight) c.next_arc.result) (sym c.in-Assignment.is)
    (c.next_arc.ensures row column weight right)
