use Rattle.std.proofs.Common.{◌∙◌, ◌++◌, ◌∷◌, [], List, map, take, sym, ap, subst}
use Rattle.std.specs.List.{AllByRecursion}
use Rattle.std.proofs.lemmas.List.{take_all, take_more}
use Rattle.lgm_wire.specs.declared.point.Point.{Point}
use Rattle.lgm_graph.specs.declared.overlay.Limit.{Limit}
use Rattle.lgm_graph.specs.Edges.{PointEdge}
use Rattle.lgm_graph.specs.Graph.{IsJoined}
use Rattle.lgm_graph.specs.Overlay.{extra_edge}
use Rattle.lgm_graph.specs.inner.Overlaying.{Overrides, AreApplied, overrides_of}
use Rattle.lgm_graph.proofs.Further.{joined_at}
use Rattle.lgm_graph.proofs.OverrideLaws.{silent_more, limit_more, next_mapped, nothing_applied}
use Rattle.lgm_graph.proofs.overlay_view.touched_nodes.TouchedNodes.apply_overlay.Goals as goal

abbrev overrides_so : List Point → List Limit → Overrides
overrides_so silent limits = record { silent = silent; limits = limits; leaving = []; entering = [] }

pub loop-node-init : goal.loop-node-init
loop-node-init c = record { long = c.requires.long; applied = nothing_applied c.args.points.now c.args.self.now c.requires.none }

pub loop-node-preserved : goal.loop-node-preserved
loop-node-preserved c =
    let i = c.loop-node.node-index in
    let items = c.silent-node-items.result.now in
    record {
      long = c.in_ok-apply_at.ensures.long;
      applied = subst (λ silent. AreApplied (overrides_so silent []) c.args.points.now c.apply_at.new.self) (sym (take_more items i _ c.loop-node-test.true))
          (silent_more c.args.points.now (overrides_so (take i items) []) c.loop-node.self c.apply_at.new.self c.loop-node.invariant.applied _ c.in_ok-apply_at.ensures.applied);
    }

pub loop-limit-init : goal.loop-limit-init
loop-limit-init c = record {
  long = c.loop-node.invariant.long;
  applied = subst (λ silent. AreApplied (overrides_so silent []) c.args.points.now c.loop-node.self)
      (take_all c.loop-node.node-index c.silent-node-items.result.now c.loop-node-test.false ∙ c.silent-node-items.ensures) c.loop-node.invariant.applied;
}

pub loop-limit-preserved : goal.loop-limit-preserved
loop-limit-preserved c =
    let i = c.loop-limit.limit-index in
    let items = c.limits-limit-items.result.now in
    let silent = c.args.overlay.now.silent in
    record {
      long = c.in_ok-apply_at-2.ensures.long;
      applied = subst (λ limits. AreApplied (overrides_so silent limits) c.args.points.now c.apply_at-in-loop-limit.new.self)
          (sym (take_more items i c.limit-item.result c.loop-limit-test.true ∙ ap (λ (l : Limit). take i items ++ l ∷ []) (sym c.limit-item.is)))
          (limit_more c.args.points.now (overrides_so silent (take i items)) c.loop-limit.self c.apply_at-in-loop-limit.new.self c.loop-limit.invariant.applied
          c.limit-item.result c.in_ok-apply_at-2.ensures.applied);
    }

pub loop-extra-init : goal.loop-extra-init
loop-extra-init c = record {
  long = c.loop-limit.invariant.long;
  applied = subst (λ limits. AreApplied (overrides_so c.args.overlay.now.silent limits) c.args.points.now c.loop-limit.self)
      (take_all c.loop-limit.limit-index c.limits-limit-items.result.now c.loop-limit-test.false ∙ c.limits-limit-items.ensures) c.loop-limit.invariant.applied;
}

pub apply_extra-requires-clause-joined : goal.apply_extra-requires-clause-joined
apply_extra-requires-clause-joined c =
    joined_at c.args.points.now c.extra-extra-items.result.now c.loop-extra.extra-index c.extra-item.result c.loop-extra-test.true c.extra-item.is
    (subst (AllByRecursion (IsJoined c.args.points.now)) (sym c.extra-extra-items.ensures) c.requires.joined)

pub loop-extra-preserved : goal.loop-extra-preserved
loop-extra-preserved c =
    let i = c.loop-extra.extra-index in
    let items = c.extra-extra-items.result.now in
    record {
      long = c.in_ok-apply_extra.ensures.long;
      applied = subst (λ (extra : List PointEdge). AreApplied (overrides_of (record c.args.overlay.now { extra = extra })) c.args.points.now c.apply_extra.new.self)
          (sym (next_mapped items i c.extra-item.result c.loop-extra-test.true c.extra-item.is))
          (c.in_ok-apply_extra.ensures.applied (record c.args.overlay.now { extra = map extra_edge (take i items) }) c.loop-extra.invariant.applied);
    }

pub returns-clause-applied : goal.returns-clause-applied
returns-clause-applied c =
    subst (λ (extra : List PointEdge). AreApplied (overrides_of (record c.args.overlay.now { extra = extra })) c.args.points.now c.loop-extra.self)
    (ap (map extra_edge) (take_all c.loop-extra.extra-index c.extra-extra-items.result.now c.loop-extra-test.false) ∙ c.extra-extra-items.ensures)
    c.loop-extra.invariant.applied
