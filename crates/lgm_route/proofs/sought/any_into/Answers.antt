use Rattle.std.proofs.Common.{◌∙◌, List, sym, subst}
use Rattle.std.specs.Prelude.{Contains}
use Rattle.lgm_graph.specs.declared.edge.Edge.{Edge}
use Rattle.lgm_graph.specs.Graph.{edges_into}
use Rattle.lgm_route.proofs.SoughtEdges.{one_sought}
use Rattle.lgm_route.proofs.sought.any_into.Goals as goal

pub is_sought-requires-clause-from : goal.is_sought-requires-clause-from
is_sought-requires-clause-from g c =
    let edge = c.edge-item.result in
    let there : Contains (edges_into (g.V.RoutingGraph.graph c.args.graph.now) c.args.number) edge =
    subst (λ (l : List Edge). Contains l edge) c.edges_into-edges.ensures (c.loop-edge.edge-index, c.loop-edge-test.true, sym c.edge-item.is) in
    let listed = c.nodes-nodes.ensures.listed in
    (listed.each edge (listed.into c.args.number edge there).1).from

pub is_sought-requires-clause-to : goal.is_sought-requires-clause-to
is_sought-requires-clause-to g c =
    let edge = c.edge-item.result in
    let there : Contains (edges_into (g.V.RoutingGraph.graph c.args.graph.now) c.args.number) edge =
    subst (λ (l : List Edge). Contains l edge) c.edges_into-edges.ensures (c.loop-edge.edge-index, c.loop-edge-test.true, sym c.edge-item.is) in
    let listed = c.nodes-nodes.ensures.listed in
    (listed.each edge (listed.into c.args.number edge there).1).to

pub returns-then-is_sought-clause-found : goal.returns-then-is_sought-clause-found
returns-then-is_sought-clause-found g c = λ yes.
    let graph = g.V.RoutingGraph.graph c.args.graph.now in
    let edge = c.edge-item.result in
    let there : Contains (edges_into graph c.args.number) edge =
    subst (λ (l : List Edge). Contains l edge) c.edges_into-edges.ensures (c.loop-edge.edge-index, c.loop-edge-test.true, sym c.edge-item.is) in
    one_sought graph c.nodes-nodes.ensures.listed c.args.sought.now c.args.number edge there (sym c.is_sought.ensures ∙ c.if-is_sought.true)
