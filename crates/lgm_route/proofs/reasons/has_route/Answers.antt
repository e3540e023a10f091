use Rattle.std.proofs.Common.{inl, inr, refl}
use Rattle.std.specs.Prelude.{Err}
use Rattle.lgm_graph.specs.Graph.{point_edges}
use Rattle.lgm_route.specs.Preferred.{IsCutShort}
use Rattle.lgm_route.proofs.PreferredLaws.{used_widened}
use Rattle.lgm_route.proofs.reasons.has_route.Goals as goal

pub returns-in-Err-Undecided-clause-unknown : goal.returns-in-Err-Undecided-clause-unknown
returns-in-Err-Undecided-clause-unknown g c =
    let cut : IsCutShort (Err c.in-Err-Undecided.field-0) = rw c.in-Err-Undecided.field-0-is tt in
    inr (inl (
      refl,
      used_widened c.args.limits.now (point_edges (g.V.RoutingGraph.graph c.args.graph.now)) c.args.request.now c.args.budget.now
          (c.in-Err-Undecided.ensures.used_up cut),
    ))
