use Rattle.std.proofs.Common.{◌≡◌, ◌+◌, ◌-◌, ◌∙◌, ◌∷◌, ◌++◌, [], ap, sym, subst, arith}
use Rattle.lgm_route.specs.inner.Searching.{label_at}
use Rattle.lgm_route.proofs.Chains.{IsOnTheWay, way_more, way_step}
use Rattle.lgm_route.proofs.hops.rebuild.Goals as goal

pub first_of-requires : goal.first_of-requires
first_of-requires g c =
    (way_more (g.V.RoutingGraph.graph c.args.view.now) c.args.labels.now c.args.found.now c.loop-step.here
    (c.args.found.now.hops - c.loop-step.step) c.loop-step.walk.items c.loop-step.invariant
    (omega (arith, c.loop-step-test.true))).begins

pub bounds-labels-here : goal.bounds-labels-here
bounds-labels-here g c =
    (way_more (g.V.RoutingGraph.graph c.args.view.now) c.args.labels.now c.args.found.now c.loop-step.here
    (c.args.found.now.hops - c.loop-step.step) c.loop-step.walk.items c.loop-step.invariant
    (omega (arith, c.loop-step-test.true))).begins.parent

pub offset_bounds-labels-here : goal.offset_bounds-labels-here
offset_bounds-labels-here g c =
    let h =
    (way_more (g.V.RoutingGraph.graph c.args.view.now) c.args.labels.now c.args.found.now c.loop-step.here
    (c.args.found.now.hops - c.loop-step.step) c.loop-step.walk.items c.loop-step.invariant
    (omega (arith, c.loop-step-test.true))).begins.parent in
    omega arith

pub loop-step-preserved : goal.loop-step-preserved
loop-step-preserved g c =
    let graph = g.V.RoutingGraph.graph c.args.view.now in
    let labels = c.args.labels.now in
    let here = c.loop-step.here in
    let next : c.args.found.now.hops - c.loop-step.step - 1
    ≡ c.args.found.now.hops - (c.loop-step.step + 1) =
    omega (arith, c.loop-step-test.true) in
    let step =
    way_step graph labels c.args.found.now here (c.args.found.now.hops - c.loop-step.step)
    c.loop-step.walk.items c.loop-step.invariant (omega (arith, c.loop-step-test.true)) in
    subst (λ n. IsOnTheWay graph labels c.args.found.now (label_at labels here.parent) n c.push.new.self.items) next
    (subst (λ w. IsOnTheWay graph labels c.args.found.now (label_at labels here.parent) (c.args.found.now.hops - c.loop-step.step - 1) w)
    (sym (c.in_ok-push.ensures.items ∙ ap (λ e. c.loop-step.walk.items ++ e ∷ []) c.first_of.ensures)) step)
