use Rattle.std.proofs.Common.{◌≡◌, ◌∙◌, ◌<◌, length, rules, sym, ap, arith}
use Rattle.std.specs.Prelude.{slice_set}
use Rattle.lgm_c.specs.Routing.{c_hop}
use Rattle.lgm_c.specs.Writing.{in_front}
use Rattle.lgm_c.proofs.Hops.{first_hops, one_more_hop, all_hops}
use Rattle.lgm_c.proofs.Filling.{put_more, first_length, hops_length}
use Rattle.lgm_c.proofs.routes.fill_hops.Goals as goal

pub bounds-room-place : goal.bounds-room-place
bounds-room-place c =
    omega (arith, hops_length c.args.hops.now c.args.payloads.now, c.min-count.ensures, c.loop-place.auto.room, c.requires)

pub loop-place-preserved : goal.loop-place-preserved
loop-place-preserved c =
    let hops = c.args.hops.now in
    let payloads = c.args.payloads.now in
    let room = c.args.room.now in
    let place = c.loop-place.place in
    let hop = c.index-hops-place.result in
    let payload = c.index-payloads-place.result in
    let in_hops : place < length hops = search rules in
    let in_payloads : place < length payloads = search rules in
    let fits : place < length room = omega (arith, hops_length hops payloads, c.min-count.ensures, c.requires) in
    ap (λ now. slice_set now place c.c_hop.result) c.loop-place.invariant
    ∙ ap (λ one. slice_set (in_front (first_hops hops payloads place) room) place one)
    (c.c_hop.ensures ∙ ap (c_hop hop) c.as_slice.ensures)
    ∙ put_more (first_hops hops payloads place) room place (c_hop hop payload) (c_hop hop payload)
    (first_length hops payloads place (omega arith) (omega arith)) fits
    ∙ ap (λ made. in_front made room)
    (sym (one_more_hop hops payloads place hop payload in_hops in_payloads c.index-hops-place.is c.index-payloads-place.is))

pub returns-clause-count : goal.returns-clause-count
returns-clause-count c = c.min-count.ensures ∙ sym (hops_length c.args.hops.now c.args.payloads.now)

pub returns-clause-filled : goal.returns-clause-filled
returns-clause-filled c =
    let whole : c.loop-place.place ≡ c.min-count.result = omega arith in
    c.loop-place.invariant ∙ ap (λ made. in_front made c.args.room.now)
    (all_hops c.args.hops.now c.args.payloads.now c.loop-place.place (whole ∙ c.min-count.ensures))
