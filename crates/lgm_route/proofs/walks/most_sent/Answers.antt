use Rattle.std.proofs.Common.{◌<◌, ℕ, length, subst, arith}
use Rattle.lgm_route.specs.inner.Searching.{edge_at}
use Rattle.lgm_route.specs.inner.Numbered.{asked}
use Rattle.lgm_route.proofs.Endings.{start_of}
use Rattle.lgm_route.proofs.walks.most_sent.Goals as goal

pub returns-clause-upper_bound : goal.returns-clause-upper_bound
returns-clause-upper_bound g c =
    start_of (g.V.RoutingGraph.graph c.args.view.now) c.loop-edge.most (asked (g.P.Penalties.terms c.args.request.now.penalties) c.args.request.now) c.requires.listed c.requires.hops c.loop-edge.invariant.low
    (subst (λ r. (j : ℕ) → j < length r → (edge_at r j).max < c.loop-edge.most) c.edges_leaving-edge-items.ensures
    (λ j to. c.loop-edge.invariant.above j (omega (arith, to, c.loop-edge-test.false))))
