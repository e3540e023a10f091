use Rattle.std.proofs.Common.{◌≡◌, [], ◌-◌, length, drop, take, get_or, ap, ◌∙◌}
use Rattle.lgm_payload.specs.HopPayload.{payload_bytes}
use Rattle.lgm_payload.specs.Arrival.{custom_records, arrival_for, payload_with}
use Rattle.lgm_payload.specs.Building.{forward}
use Rattle.lgm_payload.proofs.BuildingLaws.{forwarded_more, payloads_all}
use Rattle.lgm_payload.proofs.builder.write_all.Goals as goal

pub loop-next-preserved : goal.loop-next-preserved
loop-next-preserved c =
    let hops = c.as_slice-hops.result.now in
    let behind = take (length hops - 1) (drop 1 hops) in
    let next = c.next-item.result in
    let text : c.in_ok-write.field-0 ≡ payload_bytes (forward (get_or behind c.loop-next.next-index next)) =
    c.in_ok-write.ensures ∙ ap (λ payload. payload_with payload []) c.forward.ensures ∙ ap (λ hop. payload_bytes (forward hop)) c.next-item.is in
    forwarded_more behind c.loop-next.next-index next c.loop-next.payloads.items c.push.new.self.items c.in_ok-write.field-0
    c.loop-next-test.true c.loop-next.invariant text c.in_ok-push.ensures.items

pub returns : goal.returns
returns c =
    let hops = c.as_slice-hops.result.now in
    let arrival = c.args.arrival.now in
    let last = c.index-hops-hops.result in
    let custom = custom_records c.records.result.now in
    let text : c.in_ok-write-2.field-0 ≡ payload_with (arrival_for arrival (get_or hops (length hops - 1) last)) arrival.records =
    c.in_ok-write-2.ensures ∙ ap (λ payload. payload_with payload custom) c.in_ok-payload.ensures
    ∙ ap (λ hop. payload_with (arrival_for arrival hop) custom) c.index-hops-hops.is
    ∙ ap (payload_with (arrival_for arrival (get_or hops (length hops - 1) last))) c.records.ensures in
    c.from_vec.ensures ∙ rw (← c.as_slice-hops.ensures.hops) (payloads_all arrival hops c.loop-next.next-index
    last c.loop-next.payloads.items c.push-2.new.self.items c.in_ok-write-2.field-0
    c.as_slice-hops.ensures.some c.loop-next-test.false c.loop-next.invariant text c.in_ok-push-2.ensures.items)
