use Rattle.std.proofs.Common.{◌<◌, ◌≤◌, add-one, arith, length, sym}
use Rattle.lgm_graph.proofs.Counted.{edge_here, edge_later, edge_none}
use Rattle.lgm_graph.proofs.view.View.edge.Goals as goal

pub returns-then-left-edges : goal.returns-then-left-edges
returns-then-left-edges c =
    let lt : c.loop-number.number < length c.args.self.now.points = omega (arith, c.nodes-nodes.ensures.count) in
    sym (edge_here c.args.self.now c.nodes-nodes.ensures.listed c.args.place
    c.loop-number.left c.loop-number.number c.loop-number.invariant
    c.edges_into-edges.result.now c.index-edges-left.result lt c.edges_into-edges.ensures c.if-left-edges.true c.index-edges-left.is)

pub loop-number-preserved : goal.loop-number-preserved
loop-number-preserved c =
    let lt : c.loop-number.number < length c.args.self.now.points = omega (arith, c.nodes-nodes.ensures.count) in
    rw add-one (edge_later c.args.self.now c.nodes-nodes.ensures.listed c.args.place c.loop-number.left c.loop-number.number c.loop-number.invariant
    c.edges_into-edges.result.now lt c.edges_into-edges.ensures c.if-left-edges.false)

pub returns : goal.returns
returns c =
    let le : length c.args.self.now.points ≤ c.loop-number.number = omega (arith, c.nodes-nodes.ensures.count) in
    sym (edge_none c.args.self.now c.nodes-nodes.ensures.listed c.args.place c.loop-number.left c.loop-number.number c.loop-number.invariant le)
