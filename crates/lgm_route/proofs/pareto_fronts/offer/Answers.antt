use Rattle.std.proofs.Common.{◌≡◌, ◌<◌, ◌^◌, ◌∙◌, ◌∷◌, ◌++◌, [], IfSome, IfNone, length, take, ap, sym, subst, arith}
use Rattle.std.proofs.Math.Seq.{take-append_seam}
use Rattle.std.proofs.lemmas.List.{length_push}
use Rattle.lgm_route.specs.inner.Searching.{AreSpelled, IsDominator, IsOffered}
use Rattle.lgm_route.specs.inner.Numbered.{asked}
use Rattle.lgm_route.specs.inner.Fronts.{AreFronts, IsUndominated, IsAdded, AreDistinct}
use Rattle.lgm_route.proofs.Steps.{offered_there, offered_new}
use Rattle.lgm_route.proofs.Passed.{spelled_labels}
use Rattle.lgm_route.proofs.NewFrontLaws.{fronts_same, distinct_more}
use Rattle.lgm_route.proofs.pareto_fronts.offer.Goals as goal

pub find_dominator-found-requires-clause-spelled : goal.find_dominator-found-requires-clause-spelled
find_dominator-found-requires-clause-spelled g c =
    subst (AreSpelled (g.V.RoutingGraph.graph c.args.view.now)) (sym c.deref.ensures.value)
    (spelled_labels (g.V.RoutingGraph.graph c.args.view.now) (asked (g.P.Penalties.terms c.args.request.now.penalties) c.args.request.now) c.args.labels.now.items c.requires.labelled)

pub returns-in-Some-clause-offered : goal.returns-in-Some-clause-offered
returns-in-Some-clause-offered g c =
    let graph = g.V.RoutingGraph.graph c.args.view.now in
    let labels = c.args.labels.now.items in
    let place = c.in-Some._place in
    let there : IsDominator graph labels c.args.new place =
    subst (λ ls. IsDominator graph ls c.args.new place) c.deref.ensures.value (subst
    (λ o. IfSome o (IsDominator graph c.deref.result.now c.args.new)) c.in-Some.is c.find_dominator-found.ensures.found) in
    offered_there graph (asked (g.P.Penalties.terms c.args.request.now.penalties) c.args.request.now) labels c.args.new place c.requires.labelled there.within there.node there.dominates

pub returns-in_err-make_room-clause-fronts : goal.returns-in_err-make_room-clause-fronts
returns-in_err-make_room-clause-fronts g c = λ few.
    fronts_same (g.V.RoutingGraph.graph c.args.view.now) (asked (g.P.Penalties.terms c.args.request.now.penalties) c.args.request.now)
    c.args.labels.now.items c.args.fronts.now c.make_room.new.self c.make_room.ensures.same (c.requires.fronts few)

pub returns-in_err-push-clause-fronts : goal.returns-in_err-push-clause-fronts
returns-in_err-push-clause-fronts g c = λ few.
    let graph = g.V.RoutingGraph.graph c.args.view.now in
    let request = asked (g.P.Penalties.terms c.args.request.now.penalties) c.args.request.now in
    let labels = c.args.labels.now.items in
    let same : c.push.new.self.items ≡ labels = c.in_err-push.ensures.items in
    subst (λ ls. AreFronts graph request ls c.make_room.new.self) (sym same)
    (fronts_same graph request labels c.args.fronts.now c.make_room.new.self c.make_room.ensures.same
    (c.requires.fronts (omega (arith, few, ap length same))))

pub add-requires-clause-spelled : goal.add-requires-clause-spelled
add-requires-clause-spelled g c =
    let labels = c.args.labels.now.items in
    let before : take c.len-place.result c.deref-2.result.now ≡ labels =
    ap (take c.len-place.result) (c.deref-2.ensures.value ∙ c.in_ok-push.ensures.items)
    ∙ ap (λ n. take n (labels ++ c.args.new ∷ [])) (c.len-place.ensures ∙ c.args.labels.now.ok.0) ∙ take-append_seam labels (c.args.new ∷ []) in
    subst (AreSpelled (g.V.RoutingGraph.graph c.args.view.now)) (sym before)
    (spelled_labels (g.V.RoutingGraph.graph c.args.view.now) (asked (g.P.Penalties.terms c.args.request.now.penalties) c.args.request.now) labels c.requires.labelled)

pub returns-clause-fronts : goal.returns-clause-fronts
returns-clause-fronts g c = λ few.
    let graph = g.V.RoutingGraph.graph c.args.view.now in
    let request = asked (g.P.Penalties.terms c.args.request.now.penalties) c.args.request.now in
    let labels = c.args.labels.now.items in
    let new = c.args.new in
    let before : take c.len-place.result c.deref-2.result.now ≡ labels =
    ap (take c.len-place.result) (c.deref-2.ensures.value ∙ c.in_ok-push.ensures.items)
    ∙ ap (λ n. take n (labels ++ new ∷ [])) (c.len-place.ensures ∙ c.args.labels.now.ok.0) ∙ take-append_seam labels (new ∷ []) in
    let low : length labels < 2 ^ 32 = omega (arith, few, ap length c.in_ok-push.ensures.items, length_push labels new) in
    let added = subst (λ ls. length ls < 2 ^ 32 → IsAdded graph ls new c.make_room.new.self c.add.new.self) before c.add.ensures in
    subst (λ ls. AreFronts graph request ls c.add.new.self) (sym c.in_ok-push.ensures.items)
    (added low request c.requires.new
    (fronts_same graph request labels c.args.fronts.now c.make_room.new.self c.make_room.ensures.same (c.requires.fronts (omega (arith, low)))))

pub returns-clause-distinct : goal.returns-clause-distinct
returns-clause-distinct g c =
    let graph = g.V.RoutingGraph.graph c.args.view.now in
    let request = asked (g.P.Penalties.terms c.args.request.now.penalties) c.args.request.now in
    let labels = c.args.labels.now.items in
    let new = c.args.new in
    let fronts = c.args.fronts.now in
    let none : IsUndominated graph labels fronts new =
    subst (λ ls. IsUndominated graph ls fronts new) c.deref.ensures.value
    (subst (λ o. IfNone o (IsUndominated graph c.deref.result.now fronts new)) c.in_default.is c.find_dominator-found.ensures.none) in
    subst (AreDistinct graph request) (sym c.in_ok-push.ensures.items)
    (distinct_more graph request labels new fronts c.requires.labelled c.requires.fronts c.requires.distinct c.requires.new none)

pub returns-clause-offered : goal.returns-clause-offered
returns-clause-offered g c =
    subst (λ ls. IsOffered (g.V.RoutingGraph.graph c.args.view.now) (asked (g.P.Penalties.terms c.args.request.now.penalties) c.args.request.now) c.args.labels.now.items c.args.new ls) (sym c.in_ok-push.ensures.items)
    (offered_new (g.V.RoutingGraph.graph c.args.view.now) (asked (g.P.Penalties.terms c.args.request.now.penalties) c.args.request.now) c.args.labels.now.items c.args.new c.requires.labelled c.requires.new c.requires.few)
