use Rattle.std.proofs.Common.{◌<◌, ◌∙◌, ℕ, map, false, length, sym, ap, refl, arith}
use Rattle.lgm_graph.specs.Graph.{Graph, GraphNode, bare_node, edges_leaving}
use Rattle.lgm_graph.specs.inner.Overlaying.{edges_in, node_over}
use Rattle.lgm_graph.proofs.ByNumber.{get_by}
use Rattle.lgm_graph.proofs.overlay_view.OverlayViewRoutingGraph.edges_leaving.Goals as goal

pub returns : goal.returns
returns c =
    let over = c.self.inside in
    let n = c.args.number in
    let within : n < length over.points = omega (arith, c.if-len-number.false, c.len.ensures.count) in
    let nodes : ℕ → GraphNode = node_over over.view.now over.places.items (map edges_in over.into.items) (map edges_in over.out.items) in
    c.list_or.ensures
    ∙ rw (c.deref-2.ensures.value, c.place_in-place.ensures, c.deref.ensures.value, c.edges_leaving.ensures) refl
    ∙ sym (ap (λ (node : GraphNode). node.out) (get_by nodes over.points n (bare_node false) within))
    ∙ ap (λ (g : Graph). edges_leaving g n) c.self.view_is
