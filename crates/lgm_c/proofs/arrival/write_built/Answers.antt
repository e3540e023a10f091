use Rattle.std.proofs.Common.{sym, ap, ◌∙◌}
use Rattle.lgm_payload.specs.Building.{built_for}
use Rattle.lgm_c.specs.Arrivals.{arrival_given, hops_given, built_or_fault}
use Rattle.lgm_c.specs.Routing.{buffers, c_hops, all_payloads}
use Rattle.lgm_c.proofs.Built.{writes_built}
use Rattle.lgm_c.proofs.arrival.write_built.Goals as goal

pub returns : goal.returns
returns c =
    let arrival = arrival_given c.args.arrival.now in
    let hops = hops_given c.args.hops.now in
    let payloads = c.in_ok-built.built in
    let old = buffers c.args.hops.now c.args.payloads.now c.args.lengths.now in
    let new = buffers c.write_hops.new.hops c.write_hops.new.payloads c.write_hops.new.lengths in
    writes_built hops (built_for arrival hops) payloads (c_hops c.as_slice.result.now c.as_slice-2.result.now)
    (all_payloads c.as_slice-2.result.now) c.write_hops.result old new
    (ap (λ route. built_or_fault (built_for arrival route)) (sym c.in_ok-route.ensures) ∙ c.in_ok-built.ensures.exact)
    (ap (λ route. c_hops route c.as_slice-2.result.now) (c.as_slice.ensures.hops ∙ c.in_ok-route.ensures)
    ∙ ap (c_hops hops) c.as_slice-2.ensures)
    (ap all_payloads c.as_slice-2.ensures) (c.write_hops.ensures 0)
