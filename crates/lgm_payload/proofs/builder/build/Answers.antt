use Rattle.std.proofs.Common.{◌≡◌, length, ap, subst, sym, ◌∙◌, arith, rules}
use Rattle.std.specs.Prelude.{IfOk}
use Rattle.lgm_payload.specs.Arrival.{whole_arrival}
use Rattle.lgm_payload.specs.Building.{payloads_of, payloads_for}
use Rattle.lgm_payload.proofs.BuildingLaws.{payloads_for-whole}
use Rattle.lgm_payload.proofs.OnionLaws.{onion_fits, known_fit}
use Rattle.lgm_payload.proofs.builder.build.Goals as goal

pub returns-clause-payloads : goal.returns-clause-payloads
returns-clause-payloads c =
    let route = c.args.route.now in
    let secret = c.args.secret.now in
    let last = c.index-hops-hops.result in
    let whole : payloads_for c.whole.result route ≡ payloads_of secret route =
    ap (λ arrival. payloads_for arrival route) c.whole.ensures
    ∙ ap (payloads_for (whole_arrival secret last)) (sym c.as_slice-hops.ensures.hops)
    ∙ payloads_for-whole secret c.as_slice-hops.result.now last last c.as_slice-hops.ensures.some c.index-hops-hops.is
    ∙ ap (payloads_of secret) c.as_slice-hops.ensures.hops in
    subst (λ expected. IfOk c.write_all-2.result (λ payloads. payloads ≡ expected)) whole c.write_all-2.ensures

pub returns-clause-fits : goal.returns-clause-fits
returns-clause-fits c =
    let same = ap length c.as_slice-hops.ensures.hops in
    let secret = c.args.secret.now in
    let route = c.args.route.now in
    known_fit c.write_all-2.result (payloads_of secret route) (returns-clause-payloads c) (onion_fits secret route (search rules) (omega
    (arith, c.as_slice-hops.ensures.some, same)) (omega (arith, c.as_slice-hops.ensures.few, same)))
