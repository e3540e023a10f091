use Rattle.std.proofs.Common.{◌≡◌, ◌+◌, ◌-◌, length, sym, subst, arith}
use Rattle.lgm_route.specs.inner.Fronts.{IsCovered, first_in}
use Rattle.lgm_route.proofs.FrontLaws.{covered_within, covered_on}
use Rattle.lgm_route.proofs.SpendingLaws.{first_few, counted_once, counted_next}
use Rattle.lgm_route.proofs.pareto_fronts.ParetoFronts.find_dominator.Goals as goal
use Rattle.lgm_route.proofs.pareto_fronts.ParetoFronts.find_dominator.Goals.{then-labels-place-via-then-labels-place, then-labels-place-via-else-labels-place+then-labels-place-2}

pub loop-step-init : goal.loop-step-init
loop-step-init g c =
    let labels = c.args.labels.now in
    let node = c.args.label.now.node in
    record {
      covered = λ request rest is covered.
          let all : length labels ≡ length labels - 0 = omega arith in
          subst (λ p. IsCovered (g.V.RoutingGraph.graph c.args.view.now) request labels c.args.self.now.following node (length labels - 0) p rest)
          (sym c.first_of-place.ensures)
          (subst (λ n. IsCovered (g.V.RoutingGraph.graph c.args.view.now) request labels c.args.self.now.following node n
          (first_in c.args.self.now.first node) rest) all covered);
      few = λ falling low. omega arith;
      fewer = λ falling low within. omega (arith, first_few labels node (c.first_of-place.result + 1) (omega arith));
    }

pub returns-then-labels-place-clause-none : goal.returns-then-labels-place-clause-none
returns-then-labels-place-clause-none g c = λ request rest is covered.
    let labels = c.args.labels.now in
    let there = covered_within (g.V.RoutingGraph.graph c.args.view.now) request labels c.args.self.now.following c.args.label.now.node
    (length labels - c.loop-step.step) c.loop-step.place rest (c.loop-step.invariant.covered request rest is covered) in
    elim c.then-labels-place.branch [
      | then-labels-place-via-then-labels-place w ↦ omega (arith, there.0, w.if-labels-place.true)
      | then-labels-place-via-else-labels-place+then-labels-place-2 w ↦ w.if-labels-place-2.true there.1
    ]

pub returns-then-labels-place-clause-few : goal.returns-then-labels-place-clause-few
returns-then-labels-place-clause-few g c = c.loop-step.invariant.few

pub returns-then-dominates-clause-found : goal.returns-then-dominates-clause-found
returns-then-dominates-clause-found g c = record {
  within = c.if-labels-place.false;
  node = c.if-labels-place-2.false;
  dominates = c.dominates.ensures.does c.if-dominates.true;
}

pub returns-then-dominates-clause-few : goal.returns-then-dominates-clause-few
returns-then-dominates-clause-few g c = λ falling low.
    counted_once c.args.labels.now c.args.label.now.node c.loop-step.step c.loop-step.place c.if-labels-place-2.false
    (c.loop-step.invariant.fewer falling low c.if-labels-place.false)

pub returns-clause-few : goal.returns-clause-few
returns-clause-few g c = λ falling low. omega (arith, c.loop-step.invariant.few falling low, c.loop-step-test.false)

pub loop-step-preserved : goal.loop-step-preserved
loop-step-preserved g c =
    let graph = g.V.RoutingGraph.graph c.args.view.now in
    let labels = c.args.labels.now in
    let following = c.args.self.now.following in
    let node = c.args.label.now.node in
    let step = c.loop-step.step in
    record {
      covered = λ request rest is covered.
          subst (λ p. IsCovered graph request labels following node (length labels - (step + 1)) p rest) (sym c.behind-place.ensures)
          (covered_on graph request labels following node (length labels - step) (length labels - (step + 1)) c.loop-step.place rest
          (omega (arith, c.loop-step-test.true)) (λ d. c.dominates.ensures.does_not c.if-dominates.false request d.other rest d.is is d.dominates)
          (c.loop-step.invariant.covered request rest is covered));
      few = λ falling low. counted_once labels node step c.loop-step.place c.if-labels-place-2.false
          (c.loop-step.invariant.fewer falling low c.if-labels-place.false);
      fewer = λ falling low within. counted_next labels node step c.loop-step.place c.behind-place.result low
          within (falling.following c.loop-step.place c.if-labels-place.false) c.behind-place.ensures
          c.if-labels-place-2.false (c.loop-step.invariant.fewer falling low c.if-labels-place.false);
    }
