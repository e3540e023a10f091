use Rattle.std.proofs.Common.{◌≡◌, ◌<◌, ◌∙◌, ◌∷◌, ◌++◌, [], length, set, ap, sym, subst, arith}
use Rattle.std.proofs.lemmas.List.{get_or_default, with_items_is}
use Rattle.lgm_route.specs.inner.Fronts.{Fronts, first_in, AreFronts, IsLinked}
use Rattle.lgm_route.proofs.NewFrontLaws.{fronts_added}
use Rattle.lgm_route.proofs.pareto_fronts.ParetoFronts.add.Goals as goal

pub returns : goal.returns
returns g c = λ few request some are.
    let graph = g.V.RoutingGraph.graph c.args.view.now in
    let labels = c.args.labels.now in
    let new = c.args.new.now in
    let fronts : Fronts = record { first = c.self.inside.first.items; following = c.self.inside.following.items } in
    let after = c.link.new.following in
    let known : new.node < length fronts.first = subst (λ (f : Fronts). new.node < length f.first) (sym c.self.view_is) c.requires.node in
    let room : length labels < length fronts.following =
    subst (λ (f : Fronts). length labels < length f.following) (sym c.self.view_is) c.requires.place in
    let value : c.deref_mut.result.now ≡ fronts.following = c.deref_mut.ensures.value in
    let start : c.index-start.result.now ≡ first_in fronts.first new.node =
    c.index-start.ensures ∙ get_or_default fronts.first new.node c.index-start.result.now 0 known in
    let linked = subst (λ f. IsLinked graph labels new (first_in fronts.first new.node) f after) value
    (subst (λ s. IsLinked graph labels new s c.deref_mut.result.now after) start c.link.ensures) in
    let long : length after ≡ length fronts.following = c.link.auto.following ∙ ap length value in
    subst (λ f. AreFronts graph request (labels ++ new ∷ []) (record { first = set fronts.first new.node (length labels); following = f }))
    (sym (with_items_is c.self.inside.following after (long ∙ sym c.self.inside.following.ok.0)))
    (fronts_added graph labels new fronts after known (omega (arith, room, long)) few linked request some
    (subst (λ f. AreFronts graph request labels f) (sym c.self.view_is) are))
