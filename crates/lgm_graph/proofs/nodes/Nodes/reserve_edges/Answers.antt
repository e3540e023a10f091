use Rattle.std.proofs.Common.{◌∙◌, ◌<◌, ap, arith, length, set, List}
use Rattle.std.proofs.lemmas.List.{length-set}
use Rattle.lgm_graph.specs.Graph.{Graph, GraphNode}
use Rattle.lgm_graph.specs.declared.edge.Edge.{Edge}
use Rattle.lgm_graph.specs.declared.node.Node.{Node}
use Rattle.lgm_graph.specs.inner.Sound.{into_changed, node_in, out_changed}
use Rattle.lgm_graph.proofs.Places.{node_alike}
use Rattle.lgm_graph.proofs.nodes.Nodes.reserve_edges.Goals as goal

pub returns-in_err-reserve-clause-same : goal.returns-in_err-reserve-clause-same
returns-in_err-reserve-clause-same c = λ known.
    let at_to = c.index_mut.result.now in
    let to : Node = record at_to { into = c.reserve.new.self } in
    ap (λ (nodes : List GraphNode). let graph : Graph = record { known = known; points = c.args.self.now.points.keys; nodes = nodes } in graph)
    (node_alike c.args.self.now.nodes.items c.args.to at_to to c.requires.to c.index_mut.ensures.value
    (ap (λ (edges : List Edge). into_changed (λ _. edges) (node_in at_to)) c.reserve.ensures.items))

pub returns-clause-same : goal.returns-clause-same
returns-clause-same c = λ known.
    let items = c.args.self.now.nodes.items in
    let at_to = c.index_mut.result.now in
    let at_from = c.index_mut-2.result.now in
    let to : Node = record at_to { into = c.reserve.new.self } in
    let from : Node = record at_from { out = c.reserve-2.new.self } in
    let within : c.args.from < length (set items c.args.to to) = omega (arith, c.requires.from, length-set items c.args.to to) in
    ap (λ (nodes : List GraphNode). let graph : Graph = record { known = known; points = c.args.self.now.points.keys; nodes = nodes } in graph)
    (node_alike (set items c.args.to to) c.args.from at_from from within c.index_mut-2.ensures.value
    (ap (λ (edges : List Edge). out_changed (λ _. edges) (node_in at_from)) c.reserve-2.ensures.items)
    ∙ node_alike items c.args.to at_to to c.requires.to c.index_mut.ensures.value
    (ap (λ (edges : List Edge). into_changed (λ _. edges) (node_in at_to)) c.reserve.ensures.items))
