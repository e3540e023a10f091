use Rattle.std.proofs.Common.{◌≡◌, ◌<◌, ◌∙◌, ℕ, map, true, false, length, sym, ap, refl}
use Rattle.lgm_graph.specs.Graph.{Graph, GraphNode, bare_node, node_at, takes_at, edges_into}
use Rattle.lgm_graph.specs.inner.Overlaying.{edges_in, graph_over, node_over}
use Rattle.lgm_graph.proofs.ByNumber.{get_by, within_by}
use Rattle.lgm_graph.proofs.overlay_view.OverlayViewRoutingGraph.edges_into.Goals as goal

pub returns : goal.returns
returns c =
    let over = c.self.inside in
    let n = c.args.number in
    let into = map edges_in over.into.items in
    let out = map edges_in over.out.items in
    let graph = graph_over over.view.now over.points over.places.items into out in
    let taken : takes_at graph n ≡ true = ap (λ (g : Graph). takes_at g n) c.self.view_is ∙ sym c.takes_payments.ensures ∙ c.if-not-takes_payments.false in
    let nodes : ℕ → GraphNode = node_over over.view.now over.places.items into out in
    let within : n < length over.points = within_by nodes over.points n taken in
    let listed : edges_into graph n ≡ (node_at graph n).into = rw taken refl in
    c.list_or.ensures
    ∙ rw (c.deref-2.ensures.value, c.place_in-place.ensures, c.deref.ensures.value, c.all_into.ensures) refl
    ∙ sym (ap (λ (node : GraphNode). node.into) (get_by nodes over.points n (bare_node false) within))
    ∙ sym listed ∙ ap (λ (g : Graph). edges_into g n) c.self.view_is
