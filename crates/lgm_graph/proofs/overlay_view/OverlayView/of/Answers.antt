use Rattle.std.proofs.Common.{◌≡◌, ◌<◌, ◌^◌, ◌∙◌, List, length, take, map, sym, ap, subst, arith}
use Rattle.std.specs.List.{AllByRecursion}
use Rattle.std.specs.List.Sorted.{IsPermutation}
use Rattle.lgm_graph.specs.declared.edge.Edge.{Edge}
use Rattle.lgm_graph.specs.Overlay.{overlaid_edges}
use Rattle.lgm_graph.specs.Graph.{IsJoined, node_at, point_edges}
use Rattle.lgm_graph.specs.inner.Overlaying.{edges_in, graph_over, overlaid_list}
use Rattle.lgm_graph.specs.inner.Sound.{IsSound}
use Rattle.lgm_graph.proofs.OverlayViewLaws.{is_sound, is_once}
use Rattle.lgm_graph.proofs.overlay_view.OverlayView.of.Goals as goal

joined : (c : goal.After-into_places) → AllByRecursion (IsJoined c.in_ok-points.points) c.args.overlay.now.extra
joined c = subst (AllByRecursion (IsJoined c.in_ok-points.points)) c.extra.ensures c.in_ok-points.ensures.joined

-- the lists of the nodes with overrides
out : (c : goal.After-into_places) → map edges_in c.in_ok-out.out.items
    ≡ map (λ local. overlaid_list c.touch_targets.new.self (node_at c.args.view.now local.node).out local.leaving)
    (take (length c.apply_overlay.new.self.nodes) c.touch_targets.new.self.nodes)
out c = c.in_ok-out.ensures
    ∙ ap (λ n. map (λ local. overlaid_list c.touch_targets.new.self (node_at c.args.view.now local.node).out local.leaving)
    (take n c.touch_targets.new.self.nodes)) (ap length c.as_slice-count.ensures.nodes)

pub invariant_of-result : goal.invariant_of-result
invariant_of-result c =
    let further = c.in_ok-points.ensures.further in
    let few : length c.in_ok-points.points < 2 ^ 32 = omega (arith, c.len.ensures.count, c.len.ensures.few) in
    let into : List (List Edge) = map edges_in c.in_ok-into.into.items in
    let lists : List (List Edge) = map edges_in c.in_ok-out.out.items in
    subst (λ ps. IsSound (graph_over c.args.view.now c.in_ok-points.points ps into lists)) (sym c.into_places.ensures.places)
    (is_sound c.args.overlay.now c.args.view.now c.in_ok-points.points further.0 further.1 c.len.ensures.distinct c.nodes.ensures.listed.unique (joined c)
    c.apply_overlay.new.self c.touch_targets.new.self c.into_places.ensures.placed c.in_ok-touch_targets.ensures.more c.in_ok-apply_overlay.ensures.applied
    c.in_ok-touch_targets.ensures.reached into lists c.in_ok-into.ensures (out c) c.is_sound.ensures few)

pub returns-clause-edges : goal.returns-clause-edges
returns-clause-edges c = λ rows ended beside.
    let further = c.in_ok-points.ensures.further in
    let into : List (List Edge) = map edges_in c.in_ok-into.into.items in
    let lists : List (List Edge) = map edges_in c.in_ok-out.out.items in
    subst (λ ps. IsPermutation (overlaid_edges c.args.view.now.known rows c.args.overlay.now)
    (point_edges (graph_over c.args.view.now c.in_ok-points.points ps into lists))) (sym c.into_places.ensures.places)
    (is_once c.args.overlay.now c.args.view.now c.in_ok-points.points further.0 further.1 c.len.ensures.distinct c.nodes.ensures.listed.unique (joined c)
    c.apply_overlay.new.self c.touch_targets.new.self c.into_places.ensures.placed c.in_ok-touch_targets.ensures.more c.in_ok-apply_overlay.ensures.applied
    c.in_ok-touch_targets.ensures.reached into lists c.in_ok-into.ensures (out c) rows ended beside)
