use Rattle.std.proofs.Common.{◌∙◌, List, ap, sym, arith}
use Rattle.lgm_graph.specs.declared.overlay.ExtraEdge.{ExtraEdge}
use Rattle.lgm_graph.specs.declared.overlay.Limit.{Limit}
use Rattle.lgm_odds.specs.Room.{room_into}
use Rattle.lgm_graph.specs.Estimates.{estimate_of}
use Rattle.lgm_payer.specs.Payments.{PaymentState}
use Rattle.lgm_payer.specs.Preferring.{preferences_for}
use Rattle.lgm_payer.specs.Searches.{prospect_of, room_out}
use Rattle.lgm_payer.proofs.ProspectLaws.{overlay_is, extra_count, prospect_is, offered_over, unfound_over}
use Rattle.lgm_payer.proofs.payment.Payment.choose.Goals as goal

pub returns-clause-offered : goal.returns-clause-offered
returns-clause-offered c =
    let sight = c.args.sight.now in
    let payment = c.args.self.now in
    let over = overlay_is payment sight.map.now sight.own.now c.args.since.now c.args.busy.now c.deref-4.result.now c.deref-5.result.now
    c.deref-6.result.now c.in_ok-overlay.overlay c.in_ok-overlay.ensures (c.deref-4.ensures.value ∙ c.in_ok-extra.ensures)
    (c.deref-5.ensures.value ∙ c.in_ok-limits.ensures) (c.deref-6.ensures.value ∙ c.in_ok-silent.ensures) in
    let sends = c.room_out-room.ensures ∙ ap (λ (p : PaymentState). room_out p.payer c.deref.result.now) c.self.view_is
    ∙ ap (λ (list : List ExtraEdge). room_out payment.payer list)
    (c.deref.ensures.value ∙ sym c.deref-7.ensures.value) in
    let gets = c.in_ok-payee_room.ensures ∙ ap (λ (p : PaymentState). room_into sight.map.now c.deref-2.result.now c.deref-3.result.now
    (estimate_of c.args.estimates.now) p.invoice.payee) c.self.view_is
    ∙ ap (λ (list : List ExtraEdge). room_into sight.map.now list c.deref-3.result.now (estimate_of c.args.estimates.now)
    payment.invoice.payee) (c.deref-2.ensures.value ∙ sym c.deref-7.ensures.value)
    ∙ ap (λ (list : List Limit). room_into sight.map.now c.deref-7.result.now list (estimate_of c.args.estimates.now)
    payment.invoice.payee) (c.deref-3.ensures.value ∙ sym c.deref-8.ensures.value) in
    let same = prospect_is c.preferences_for.result (preferences_for sight.preferences payment) (estimate_of c.args.estimates.now)
    sight.view.now.known sight.map.now payment sight.own.now c.args.since.now c.args.busy.now sight.height c.deref-7.result.now
    c.deref-8.result.now c.in_ok-overlay.overlay c.room_out-room.result c.in_ok-payee_room.payee_room c.self.inside.payer
    c.preferences_for.ensures (c.deref-7.ensures.value ∙ c.in_ok-extra.ensures) (c.deref-8.ensures.value ∙ c.in_ok-limits.ensures)
    over sends gets (ap (λ (p : PaymentState). p.payer) c.self.view_is) in
    offered_over _ (prospect_of (preferences_for sight.preferences payment) (estimate_of c.args.estimates.now) sight.view.now.known
    sight.map.now payment sight.own.now c.args.since.now c.args.busy.now sight.height) payment c.offer_or_short.result same c.offer_or_short.ensures.offered

pub returns-clause-why : goal.returns-clause-why
returns-clause-why c =
    let sight = c.args.sight.now in
    let payment = c.args.self.now in
    let over = overlay_is payment sight.map.now sight.own.now c.args.since.now c.args.busy.now c.deref-4.result.now c.deref-5.result.now
    c.deref-6.result.now c.in_ok-overlay.overlay c.in_ok-overlay.ensures (c.deref-4.ensures.value ∙ c.in_ok-extra.ensures)
    (c.deref-5.ensures.value ∙ c.in_ok-limits.ensures) (c.deref-6.ensures.value ∙ c.in_ok-silent.ensures) in
    let sends = c.room_out-room.ensures ∙ ap (λ (p : PaymentState). room_out p.payer c.deref.result.now) c.self.view_is
    ∙ ap (λ (list : List ExtraEdge). room_out payment.payer list)
    (c.deref.ensures.value ∙ sym c.deref-7.ensures.value) in
    let gets = c.in_ok-payee_room.ensures ∙ ap (λ (p : PaymentState). room_into sight.map.now c.deref-2.result.now c.deref-3.result.now
    (estimate_of c.args.estimates.now) p.invoice.payee) c.self.view_is
    ∙ ap (λ (list : List ExtraEdge). room_into sight.map.now list c.deref-3.result.now (estimate_of c.args.estimates.now)
    payment.invoice.payee) (c.deref-2.ensures.value ∙ sym c.deref-7.ensures.value)
    ∙ ap (λ (list : List Limit). room_into sight.map.now c.deref-7.result.now list (estimate_of c.args.estimates.now)
    payment.invoice.payee) (c.deref-3.ensures.value ∙ sym c.deref-8.ensures.value) in
    let same = prospect_is c.preferences_for.result (preferences_for sight.preferences payment) (estimate_of c.args.estimates.now)
    sight.view.now.known sight.map.now payment sight.own.now c.args.since.now c.args.busy.now sight.height c.deref-7.result.now
    c.deref-8.result.now c.in_ok-overlay.overlay c.room_out-room.result c.in_ok-payee_room.payee_room c.self.inside.payer
    c.preferences_for.ensures (c.deref-7.ensures.value ∙ c.in_ok-extra.ensures) (c.deref-8.ensures.value ∙ c.in_ok-limits.ensures)
    over sends gets (ap (λ (p : PaymentState). p.payer) c.self.view_is) in
    unfound_over _ (prospect_of (preferences_for sight.preferences payment) (estimate_of c.args.estimates.now) sight.view.now.known
    sight.map.now payment sight.own.now c.args.since.now c.args.busy.now sight.height) payment c.offer_or_short.result same c.offer_or_short.ensures.why

pub offer_or_short-requires-clause-few : goal.offer_or_short-requires-clause-few
offer_or_short-requires-clause-few c =
    let sight = c.args.sight.now in
    let payment = c.args.self.now in
    let over = overlay_is payment sight.map.now sight.own.now c.args.since.now c.args.busy.now c.deref-4.result.now c.deref-5.result.now
    c.deref-6.result.now c.in_ok-overlay.overlay c.in_ok-overlay.ensures (c.deref-4.ensures.value ∙ c.in_ok-extra.ensures)
    (c.deref-5.ensures.value ∙ c.in_ok-limits.ensures) (c.deref-6.ensures.value ∙ c.in_ok-silent.ensures) in
    let count = extra_count payment sight.map.now sight.own.now c.args.since.now c.args.busy.now c.in_ok-overlay.overlay over in
    let few = c.requires.few in
    omega (arith, count, few)
