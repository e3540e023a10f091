use Rattle.std.proofs.Common.{◌∙◌, sym, subst}
use Rattle.lgm_route.specs.inner.ForwardState.{ForwardState, forward_state, AreNear}
use Rattle.lgm_route.specs.inner.Numbered.{asked}
use Rattle.lgm_route.specs.inner.Reaching.{fees_in, closed_in}
use Rattle.lgm_route.proofs.ForwardStates.{pass_closed}
use Rattle.lgm_route.proofs.ReachedLaws.{length_fees}
use Rattle.lgm_route.proofs.forward_search.ForwardSearch.close.Goals as goal

pub invariant_of-self : goal.invariant_of-self
invariant_of-self g c =
    let before = c.self.inside.reached in
    let after = c.close.new.self in
    let pass : ForwardState =
    forward_state (g.V.RoutingGraph.graph c.self.inside.view.now) (asked (g.P.Penalties.terms c.self.inside.request.now.penalties) c.self.inside.request.now) c.self.inside.measure before in
    pass_closed pass c.args.node (fees_in after) (closed_in after) c.self.invariant
    (length_fees after ∙ c.close.ensures.long ∙ sym (length_fees before))
    (subst (λ (p : ForwardState). AreNear p c.args.node) (sym c.self.view_is) c.requires) c.close.ensures.shut
