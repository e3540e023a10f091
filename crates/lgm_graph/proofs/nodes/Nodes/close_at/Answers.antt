use Rattle.std.proofs.Common.{◌∙◌, ◌<◌, refl, false, arith, length}
use Rattle.lgm_graph.specs.Graph.{bare_node}
use Rattle.lgm_graph.specs.inner.Sound.{is_not_of, looked_at}
use Rattle.lgm_graph.proofs.ChangeLaws.{map_change}
use Rattle.lgm_graph.proofs.Places.{node_edit}
use Rattle.lgm_graph.proofs.nodes.Nodes.close_at.Goals as goal

pub returns-clause-nodes : goal.returns-clause-nodes
returns-clause-nodes c = λ before nodes.
    let within : c.number_of-number.result < length c.args.self.now.nodes.items = omega (arith, c.number_of-number.ensures.less, c.requires.long) in
    let change = looked_at c.args.known.now c.args.map.now.nodes (is_not_of c.args.scid) in
    node_edit c.args.self.now.nodes.items c.number_of-number.result c.index_mut.result.now c.close.new.self within
    c.index_mut.ensures.value (change c.args.node.now) (c.close.ensures ∙ rw c.takes_payments.ensures refl)
    ∙ rw (nodes, c.number_of-number.ensures.number)
    (map_change before change c.args.self.now.points.keys c.args.node.now (bare_node false) c.len.ensures.unique c.requires.numbered)
