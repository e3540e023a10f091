use Rattle.std.proofs.Common.{◌≡◌, ◌∙◌, ◌<◌, ◌^◌, ℕ, length, sym, ap, subst, arith}
use Rattle.std.proofs.lemmas.List.{length-map}
use Rattle.std.proofs.Math.Nat.{min-le_right}
use Rattle.std.specs.Prelude.{Err}
use Rattle.std.proofs.lemmas.Result.{err_from_is_err_and}
use Rattle.lgm_graph.specs.Graph.{edges, edge_between}
use Rattle.lgm_route.specs.Routes.{hops_of}
use Rattle.lgm_route.specs.Preferred.{IsCutShort}
use Rattle.lgm_route.specs.inner.Numbered.{Ask, asked, sent, IsUsable, IsLeast}
use Rattle.lgm_route.specs.inner.Best.{ask_of, edges_in, IsWalkFound, IsUsedUp}
use Rattle.lgm_route.specs.declared.found.SearchFault.{SearchFault}
use Rattle.lgm_route.specs.declared.found.SearchFault.TheVariants.{Fault, Undecided}
use Rattle.lgm_route.specs.declared.request.Request.{Request}
use Rattle.lgm_route.specs.declared.request.NumberedRequest.{NumberedRequest}
use Rattle.lgm_route.proofs.HopLaws.{length_hops}
use Rattle.lgm_route.proofs.Rests.{carried_under}
use Rattle.lgm_route.proofs.PointWalkLaws.{used_over}
use Rattle.lgm_route.proofs.WalkOrderLaws.{walk_numbered}
use Rattle.lgm_route.proofs.FoundRoutes.{best_route, some_route, walk_fault}
use Rattle.lgm_route.specs.inner.Best as numbers
use Rattle.lgm_route.proofs.best_route.with_route.Goals as goal

-- a fault is one for the walk
same_cut : (fault : SearchFault) → IsCutShort (Err fault) → numbers.IsCutShort (Err fault)
same_cut Undecided cut = cut
same_cut (Fault fault) cut = cut

pub returns-in_err-found-clause-answer : goal.returns-in_err-found-clause-answer
returns-in_err-found-clause-answer g c = λ penalty alike.
    let graph = g.V.RoutingGraph.graph c.args.graph.now in
    let numbered = c.args.numbered.now in
    let is = c.requires.numbered in
    let terms = g.P.Penalties.terms numbered.penalties in
    let ask : Ask = ask_of numbered.payer numbered.payee c.args.request.now c.args.limits.now terms in
    let same : asked terms numbered ≡ ask = ap (asked terms) is.3 in
    let found = subst (IsWalkFound (edges graph) (asked terms numbered)) (c.in_err-found.was {u = tt}) c.requires.found in
    let p = err_from_is_err_and c.from_residual.result c.from_residual.ensures.1 in
    rw (p.1, p.2)
    (walk_fault graph c.nodes-nodes.ensures.listed c.args.request.now numbered.payer numbered.payee is.0 is.1
    c.args.limits.now terms penalty alike c.get-payment.ensures.allowed c.in_err-found.field-0.0
    (subst (λ a. IsWalkFound (edges graph) a (Err c.in_err-found.field-0.0)) same found))

pub returns-clause-answer : goal.returns-clause-answer
returns-clause-answer g c = λ penalty alike.
    let graph = g.V.RoutingGraph.graph c.args.graph.now in
    let numbered = c.args.numbered.now in
    let is = c.requires.numbered in
    let terms = g.P.Penalties.terms numbered.penalties in
    let ask : Ask = ask_of numbered.payer numbered.payee c.args.request.now c.args.limits.now terms in
    let same : asked terms numbered ≡ ask = ap (asked terms) is.3 in
    let walk = c.in_ok-found.found.walk.items in
    let found = subst (IsWalkFound (edges graph) (asked terms numbered)) (c.in_ok-found.was {u = tt}) c.requires.found in
    let usable = subst (λ a. IsUsable (edges graph) a walk) same found.0 in
    let are = c.from_vec.ensures ∙ c.in_ok-hops.ensures
    ∙ ap (λ (r : Request). hops_of r (edges_in graph c.deref.result.now)) c.get-payment.ensures.same
    ∙ ap (λ w. hops_of c.args.request.now (edges_in graph w)) c.deref.ensures.value in
    let allowed = c.get-payment.ensures.allowed in (
      λ best. best_route graph c.nodes-nodes.ensures.listed c.args.request.now numbered.payer numbered.payee is.0 is.1
          c.args.limits.now terms penalty alike allowed walk c.from_vec.result
          (subst (λ a. IsLeast (edges graph) a walk) same (found.2 best)) are,
      some_route graph c.nodes-nodes.ensures.listed c.args.request.now numbered.payer numbered.payee is.0 is.1
          c.args.limits.now terms penalty alike allowed walk c.from_vec.result usable are,
      allowed,
    )

pub returns-in_err-found-clause-used_up : goal.returns-in_err-found-clause-used_up
returns-in_err-found-clause-used_up g c = λ budget used cut.
    let graph = g.V.RoutingGraph.graph c.args.graph.now in
    let numbered = c.args.numbered.now in
    let is = c.requires.numbered in
    let terms = g.P.Penalties.terms numbered.penalties in
    let ask : Ask = ask_of numbered.payer numbered.payee c.args.request.now c.args.limits.now terms in
    let same : asked terms numbered ≡ ask = ap (asked terms) is.3 in
    let p = err_from_is_err_and c.from_residual.result c.from_residual.ensures.1 in
    let fault : SearchFault = c.in_err-found.field-0.0 in
    let short : IsCutShort (Err fault) = rw (p.1, p.2) at cut in
    used_over graph c.nodes-nodes.ensures.listed c.args.request.now numbered.payer numbered.payee is.0 is.1
    c.args.limits.now terms budget
    (subst (λ a. IsUsedUp (edges graph) a budget) same
    (used (subst numbers.IsCutShort (sym (c.in_err-found.was {u = tt})) (same_cut fault short))))

pub returns-clause-used_up : goal.returns-clause-used_up
returns-clause-used_up g c = λ budget used cut.
    let graph = g.V.RoutingGraph.graph c.args.graph.now in
    let numbered = c.args.numbered.now in
    let is = c.requires.numbered in
    let terms = g.P.Penalties.terms numbered.penalties in
    let ask : Ask = ask_of numbered.payer numbered.payee c.args.request.now c.args.limits.now terms in
    let same : asked terms numbered ≡ ask = ap (asked terms) is.3 in
    used_over graph c.nodes-nodes.ensures.listed c.args.request.now numbered.payer numbered.payee is.0 is.1
    c.args.limits.now terms budget
    (subst (λ a. IsUsedUp (edges graph) a budget) same (used (subst numbers.IsCutShort (sym (c.in_ok-found.was {u = tt})) cut)))

pub hops-requires-clause-few : goal.hops-requires-clause-few
hops-requires-clause-few g c =
    let numbered = c.args.numbered.now in
    let terms = g.P.Penalties.terms numbered.penalties in
    let found = subst (IsWalkFound (edges (g.V.RoutingGraph.graph c.args.graph.now)) (asked terms numbered)) (c.in_ok-found.was {u = tt}) c.requires.found in
    omega (
      arith,
      found.0.few,
      ap (λ (n : NumberedRequest g.row.P.Denot). n.most_hops) c.requires.numbered.3,
      min-le_right c.args.limits.now.most_hops 20,
      ap length c.deref.ensures.value,
    )

pub hops-requires-clause-carried : goal.hops-requires-clause-carried
hops-requires-clause-carried g c =
    let numbered = c.args.numbered.now in
    let terms = g.P.Penalties.terms numbered.penalties in
    let walk = c.in_ok-found.found.walk.items in
    let found = subst (IsWalkFound (edges (g.V.RoutingGraph.graph c.args.graph.now)) (asked terms numbered)) (c.in_ok-found.was {u = tt}) c.requires.found in
    let amount = ap (λ (n : NumberedRequest g.row.P.Denot). n.amount) c.requires.numbered.3 in
    rw (c.get-payment.ensures.same, c.deref.ensures.value)
    (carried_under c.args.request.now.amount walk (subst (λ (n : ℕ). sent n walk < 2 ^ 64) amount found.1))

pub hops-requires-clause-ends : goal.hops-requires-clause-ends
hops-requires-clause-ends g c =
    let graph = g.V.RoutingGraph.graph c.args.graph.now in
    let numbered = c.args.numbered.now in
    let terms = g.P.Penalties.terms numbered.penalties in
    let found = subst (IsWalkFound (edges graph) (asked terms numbered)) (c.in_ok-found.was {u = tt}) c.requires.found in
    rw c.deref.ensures.value
    (walk_numbered graph c.nodes-nodes.ensures.listed (asked terms numbered) c.in_ok-found.found.walk.items numbered.payer found.0.joins)

pub from_vec-requires-clause-some : goal.from_vec-requires-clause-some
from_vec-requires-clause-some g c =
    let graph = g.V.RoutingGraph.graph c.args.graph.now in
    let terms = g.P.Penalties.terms c.args.numbered.now.penalties in
    let found = subst (IsWalkFound (edges graph) (asked terms c.args.numbered.now)) (c.in_ok-found.was {u = tt}) c.requires.found in
    omega (
      arith,
      found.0.some,
      ap length c.deref.ensures.value,
      ap length c.in_ok-hops.ensures,
      length_hops c.get-payment.result.now (edges_in graph c.deref.result.now),
      length-map c.deref.result.now (edge_between graph.points),
    )

pub from_vec-requires-clause-few : goal.from_vec-requires-clause-few
from_vec-requires-clause-few g c =
    let graph = g.V.RoutingGraph.graph c.args.graph.now in
    let terms = g.P.Penalties.terms c.args.numbered.now.penalties in
    let found = subst (IsWalkFound (edges graph) (asked terms c.args.numbered.now)) (c.in_ok-found.was {u = tt}) c.requires.found in
    omega (
      arith,
      found.0.few,
      ap (λ (n : NumberedRequest g.row.P.Denot). n.most_hops) c.requires.numbered.3,
      min-le_right c.args.limits.now.most_hops 20,
      ap length c.deref.ensures.value,
      ap length c.in_ok-hops.ensures,
      length_hops c.get-payment.result.now (edges_in graph c.deref.result.now),
      length-map c.deref.result.now (edge_between graph.points),
    )
