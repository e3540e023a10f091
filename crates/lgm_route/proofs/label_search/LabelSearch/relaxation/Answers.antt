use Rattle.std.proofs.Common.{◌+◌, ◌≤◌, ◌∙◌, refl, sym, ap, arith}
use Rattle.lgm_route.specs.inner.Numbered.{Ask, penalties, penalty_of, most_delay}
use Rattle.lgm_route.specs.declared.label.Label.{Label}
use Rattle.lgm_route.proofs.Passed.{led}
use Rattle.lgm_route.proofs.label_search.LabelSearch.relaxation.Goals as goal

-- the penalty so far is that of the label's rest
pub add-penalty-requires : goal.add-penalty-requires
add-penalty-requires g c =
    let s = c.args.self.now in
    let request = c.request-request.ensures.request in
    let within = c.requires.into.within in
    let r = c.len-len.ensures.search.labelled.sound c.args.i within in (
      s.ground.request.amount,
      r.0,
      omega (arith, r.1.long, c.len-len.ensures.search.labelled.few c.args.i within, c.len-len.ensures.search.ground.hops),
      ap (λ (q : Ask). penalties q.terms s.ground.request.amount r.0) request ∙ r.1.spends
          ∙ sym (ap (λ (l : Label). l.penalty) c.requires.label),
    )

pub returns-then-edge-request : goal.returns-then-edge-request
returns-then-edge-request g c =
    let s = c.args.self.now in
    let label = c.args.label.now in
    let request = c.request-request.ensures.request in
    let amount = ap (λ (r : Ask). r.amount) request in
    led s.ground.graph s.ground.request s.labels c.args.i c.args.at label.amount label.penalty label.delay label c.args.edge.now
    c.len-len.ensures.search.ground.listed c.requires.into c.requires.label
    (omega (arith, amount, c.if-request-edge.false)) (omega (arith, c.if-edge-label.false))
    (λ from. (refl, refl)) (λ other. absurd (other (c.if-edge-request.true ∙ ap (λ (r : Ask). r.payer) request)))

pub returns : goal.returns
returns g c =
    let s = c.args.self.now in
    let label = c.args.label.now in
    let request = c.request-request.ensures.request in
    let amount = ap (λ (r : Ask). r.amount) request in
    let represented = (c.len-len.ensures.search.labelled.sound c.args.i c.requires.into.within).1 in
    let in_time : label.delay ≤ most_delay s.ground.request.limit =
    omega (arith, represented.in_time, ap (λ l. l.delay) c.requires.label) in
    led s.ground.graph s.ground.request s.labels c.args.i c.args.at _ _ _ label c.args.edge.now
    c.len-len.ensures.search.ground.listed c.requires.into c.requires.label
    (omega (arith, amount, c.if-request-edge.false)) (omega (arith, c.if-edge-label.false))
    (λ from. absurd (c.if-edge-request.false (from ∙ ap (λ (r : Ask). r.payer) (sym request))))
    (λ other. (
      omega (arith, c.if-label-request.false, ap (λ (r : Ask). r.hops) request),
      ap (λ f. label.amount + f) c.fee.ensures.value,
      c.add-penalty.ensures ∙ ap (λ (r : Ask). label.penalty + penalty_of r.terms c.args.edge.now label.amount) request,
      c.in_ok-delay.ensures.0,
      c.in_ok-delay.ensures.1 in_time,
    ))
