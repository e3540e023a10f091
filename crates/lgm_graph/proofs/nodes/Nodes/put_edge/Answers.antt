use Rattle.std.proofs.Common.{◌∙◌, ◌<◌, ap, arith, length, set, List}
use Rattle.std.proofs.lemmas.List.{length-set}
use Rattle.lgm_graph.specs.declared.edge.Edge.{Edge}
use Rattle.lgm_graph.specs.declared.node.Node.{Node}
use Rattle.lgm_graph.specs.inner.Lists.{edge_key, put_at}
use Rattle.lgm_graph.specs.inner.Sound.{change_at, into_changed, node_in, out_changed}
use Rattle.lgm_graph.proofs.Places.{node_edit}
use Rattle.lgm_graph.proofs.nodes.Nodes.put_edge.Goals as goal

pub returns-clause-nodes : goal.returns-clause-nodes
returns-clause-nodes c =
    let items = c.args.self.now.nodes.items in
    let change : List Edge → List Edge = λ edges. put_at (edge_key c.args.scid c.args.second) edges c.args.edge in
    let at_to = c.index_mut.result.now in
    let at_from = c.index_mut-2.result.now in
    let to : Node = record at_to { into = c.put.new.edges } in
    let from : Node = record at_from { out = c.put-2.new.edges } in
    let within : c.args.from < length (set items c.args.to to) = omega (arith, c.requires.from, length-set items c.args.to to) in
    node_edit (set items c.args.to to) c.args.from at_from from within c.index_mut-2.ensures.value (out_changed change)
    (ap (λ (edges : List Edge). out_changed (λ _. edges) (node_in at_from)) c.put-2.ensures)
    ∙ ap (change_at c.args.from (out_changed change)) (node_edit items c.args.to at_to to c.requires.to c.index_mut.ensures.value
    (into_changed change) (ap (λ (edges : List Edge). into_changed (λ _. edges) (node_in at_to)) c.put.ensures))
