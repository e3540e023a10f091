use Rattle.std.proofs.Common.{◌∙◌, ap, sym}
use Rattle.lgm_route.specs.inner.Numbered.{Ask}
use Rattle.lgm_route.proofs.RelaxationLaws.{some_walk, some_rest}
use Rattle.lgm_route.proofs.label_search.LabelSearch.insert.Goals as goal

pub improve-requires : goal.improve-requires
improve-requires g c =
    let s = c.args.self.now in
    some_walk s.ground.graph s.ground.request s.labels c.args.new c.len-len.ensures.search.labelled c.requires
    (c.if-new-request.true ∙ ap (λ (r : Ask). r.payer) c.request.ensures.request)

pub offer-requires-clause-new : goal.offer-requires-clause-new
offer-requires-clause-new g c =
    let s = c.args.self.now in
    some_rest s.ground.graph s.ground.request s.labels c.args.new c.len-len.ensures.search.labelled c.requires
    (λ e. c.if-new-request.false (e ∙ ap (λ (r : Ask). r.payer) (sym c.request.ensures.request)))
