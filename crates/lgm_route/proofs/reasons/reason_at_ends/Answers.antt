use Rattle.std.proofs.Common.{refl, subst}
use Rattle.lgm_graph.specs.Graph.{point_edges}
use Rattle.lgm_route.specs.Reasons.{from_payer, to_payee, amount_from_payer, amount_to_payee, NoneIsSought, SomeIsSought}
use Rattle.lgm_route.specs.declared.no_route.NoRouteReason.TheVariants as reasons
use Rattle.lgm_route.proofs.ReasonLaws.{none_first, none_next, some_not_none}
use Rattle.lgm_route.proofs.reasons.reason_at_ends.Goals as goal

pub returns-then-not-any_sought : goal.returns-then-not-any_sought
returns-then-not-any_sought g c = λ limits.
    let edges = point_edges (g.V.RoutingGraph.graph c.args.graph.now) in
    let request = c.args.request.now in
    record {
      holds = subst (λ sought. NoneIsSought sought edges) c.from_payer.ensures (c.any_sought.ensures.none c.if-not-any_sought.true);
      first = none_first limits edges request;
    }

pub returns-then-not-any_sought-2 : goal.returns-then-not-any_sought-2
returns-then-not-any_sought-2 g c = λ limits.
    let edges = point_edges (g.V.RoutingGraph.graph c.args.graph.now) in
    let request = c.args.request.now in
    let leaves = subst (λ sought. SomeIsSought sought edges) c.from_payer.ensures (c.any_sought.ensures.found c.if-not-any_sought.false) in
    record {
      holds = subst (λ sought. NoneIsSought sought edges) c.to_payee.ensures (c.any_sought-2.ensures.none c.if-not-any_sought-2.true);
      first = none_next limits edges request reasons.PayerHasNoChannel 42 refl (none_first limits edges request)
          (some_not_none limits edges request (from_payer request) leaves);
    }

pub returns-then-not-any_sought-3 : goal.returns-then-not-any_sought-3
returns-then-not-any_sought-3 g c = λ limits.
    let edges = point_edges (g.V.RoutingGraph.graph c.args.graph.now) in
    let request = c.args.request.now in
    let leaves = subst (λ sought. SomeIsSought sought edges) c.from_payer.ensures (c.any_sought.ensures.found c.if-not-any_sought.false) in
    let enters = subst (λ sought. SomeIsSought sought edges) c.to_payee.ensures (c.any_sought-2.ensures.found c.if-not-any_sought-2.false) in
    record {
      holds = subst (λ sought. NoneIsSought sought edges) c.amount_from_payer.ensures (c.any_sought-3.ensures.none c.if-not-any_sought-3.true);
      first = none_next limits edges request reasons.PayeeTakesNoPayment 43 refl
          (none_next limits edges request reasons.PayerHasNoChannel 42 refl (none_first limits edges request)
          (some_not_none limits edges request (from_payer request) leaves)) (some_not_none limits edges request (to_payee request) enters);
    }

pub returns-then-not-any_sought-4 : goal.returns-then-not-any_sought-4
returns-then-not-any_sought-4 g c = λ limits.
    let edges = point_edges (g.V.RoutingGraph.graph c.args.graph.now) in
    let request = c.args.request.now in
    let leaves = subst (λ sought. SomeIsSought sought edges) c.from_payer.ensures (c.any_sought.ensures.found c.if-not-any_sought.false) in
    let enters = subst (λ sought. SomeIsSought sought edges) c.to_payee.ensures (c.any_sought-2.ensures.found c.if-not-any_sought-2.false) in
    let sends = subst (λ sought. SomeIsSought sought edges) c.amount_from_payer.ensures (c.any_sought-3.ensures.found c.if-not-any_sought-3.false) in
    record {
      holds = subst (λ sought. NoneIsSought sought edges) c.amount_to_payee.ensures (c.any_sought-4.ensures.none c.if-not-any_sought-4.true);
      first = none_next limits edges request reasons.PayerLacksAmount 44 refl
          (none_next limits edges request reasons.PayeeTakesNoPayment 43 refl
          (none_next limits edges request reasons.PayerHasNoChannel 42 refl (none_first limits edges request)
          (some_not_none limits edges request (from_payer request) leaves)) (some_not_none limits edges request (to_payee request) enters))
          (some_not_none limits edges request (amount_from_payer request) sends);
    }

pub returns : goal.returns
returns g c = λ limits.
    let edges = point_edges (g.V.RoutingGraph.graph c.args.graph.now) in
    let request = c.args.request.now in
    let leaves = subst (λ sought. SomeIsSought sought edges) c.from_payer.ensures (c.any_sought.ensures.found c.if-not-any_sought.false) in
    let enters = subst (λ sought. SomeIsSought sought edges) c.to_payee.ensures (c.any_sought-2.ensures.found c.if-not-any_sought-2.false) in
    let sends = subst (λ sought. SomeIsSought sought edges) c.amount_from_payer.ensures (c.any_sought-3.ensures.found c.if-not-any_sought-3.false) in
    let takes = subst (λ sought. SomeIsSought sought edges) c.amount_to_payee.ensures (c.any_sought-4.ensures.found c.if-not-any_sought-4.false) in
    none_next limits edges request reasons.PayeeLacksAmount 45 refl
    (none_next limits edges request reasons.PayerLacksAmount 44 refl
    (none_next limits edges request reasons.PayeeTakesNoPayment 43 refl
    (none_next limits edges request reasons.PayerHasNoChannel 42 refl (none_first limits edges request)
    (some_not_none limits edges request (from_payer request) leaves)) (some_not_none limits edges request (to_payee request) enters))
    (some_not_none limits edges request (amount_from_payer request) sends))
    (some_not_none limits edges request (amount_to_payee request) takes)
