use Rattle.std.proofs.Common.{◌≡◌, ◌∙◌, ◌<◌, List, Some, length, get_or, sym, ap, subst, arith, length-append}
use Rattle.std.specs.List.{AllByRecursion, Contains, slice_get}
use Rattle.std.proofs.lemmas.List.{take_all}
use Rattle.std.proofs.lemmas.Option.{get_or_from_slice_get}
use Rattle.lgm_graph.specs.declared.edge.Edge.{Edge}
use Rattle.lgm_graph.specs.Graph.{edges_leaving}
use Rattle.lgm_graph.specs.inner.Overlaying.{NodeOverrides, Touched, LeadsTo}
use Rattle.lgm_graph.proofs.Further.{slice_left}
use Rattle.lgm_graph.proofs.TouchedNodeLaws.{more_again, one_leading, reached_at}
use Rattle.lgm_graph.proofs.overlay_view.touched_nodes.TouchedNodes.touch_targets_of.Goals as goal

pub touch_target-requires : goal.touch_target-requires
touch_target-requires c =
    let edges = c.edges_leaving-edge-items.result.now in
    let edge = c.edge-item.result in
    let there : Contains edges edge = (c.loop-edge.edge-index, c.loop-edge-test.true, sym c.edge-item.is) in
    let listed = c.nodes.ensures.listed.leaving c.node-node.result edge
    (subst (λ (l : List Edge). Contains l edge) c.edges_leaving-edge-items.ensures there) in
    omega (arith, listed.1, c.requires.long, c.loop-edge.invariant.more.long)

pub loop-edge-preserved : goal.loop-edge-preserved
loop-edge-preserved c = record {
  more = more_again c.args.self.now c.loop-edge.self c.touch_target.new.self c.loop-edge.invariant.more c.in_ok-touch_target.ensures.more;
  leading = one_leading c.loop-edge.self c.touch_target.new.self c.in_ok-touch_target.ensures.more c.edges_leaving-edge-items.result.now
      c.loop-edge.edge-index c.edge-item.result c.loop-edge-test.true c.edge-item.is c.in_ok-touch_target.ensures.leads c.loop-edge.invariant.leading;
}

pub returns-clause-reached : goal.returns-clause-reached
returns-clause-reached c =
    let old = c.args.self.now in
    let new = c.loop-edge.self in
    let edges = c.edges_leaving-edge-items.result.now in
    let more = c.loop-edge.invariant.more in
    let all : AllByRecursion (LeadsTo new) (edges_leaving c.args.view.now c.node-node.result) =
    subst (AllByRecursion (LeadsTo new)) (take_all c.loop-edge.edge-index edges c.loop-edge-test.false ∙ c.edges_leaving-edge-items.ensures) c.loop-edge.invariant.leading in
    let within : c.args.index < length new.nodes = omega (arith, c.requires.within, ap length more.nodes, length-append old.nodes more.more) in
    reached_at c.args.view.now new c.args.index c.node-node.result within
    (λ local is.
    let was : slice_get old.nodes c.args.index ≡ Some local =
    sym (slice_left old.nodes more.more c.args.index c.requires.within) ∙ ap (λ l. slice_get l c.args.index) (sym more.nodes) ∙ is in
    let own : get_or old.nodes c.args.index c.index.result.now ≡ local = get_or_from_slice_get old.nodes c.args.index local c.index.result.now was in
    let read : c.index.result.now ≡ get_or old.nodes c.args.index c.index.result.now =
    c.index.ensures ∙ ap (λ (t : Touched). get_or t.nodes c.args.index c.index.result.now) c.self.view_is in
    ap (λ (s : NodeOverrides). s.node) (sym own ∙ sym read) ∙ sym c.node-node.ensures) all
