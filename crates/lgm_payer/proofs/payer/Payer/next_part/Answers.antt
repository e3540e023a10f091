use Rattle.std.proofs.Common.{◌≡◌, ◌∙◌, ◌<◌, ◌≤◌, ◌+◌, List, Some, Ok, ap, subst, sym, refl, length, rules}
use Rattle.std.specs.Prelude.{slice_get, IfErr}
use Rattle.lgm_graph.specs.declared.route.Hop.{Hop}
use Rattle.lgm_graph.specs.Route.{sent}
use Rattle.lgm_route.specs.declared.fault.RouteFault.TheVariants.{NoMemory}
use Rattle.lgm_route.specs.declared.found.SearchFault.TheVariants.{Fault}
use Rattle.lgm_payload.specs.Building.{built_for}
use Rattle.lgm_payer.specs.declared.offer.Sending.{Sending}
use Rattle.lgm_payer.specs.declared.part.Part.{Part}
use Rattle.lgm_payer.specs.declared.unfound.Unfound.TheVariants as unfound
use Rattle.lgm_payer.specs.declared.unpaid.Unpaid.TheVariants as unpaid
use Rattle.lgm_payer.specs.Parts.{part_of}
use Rattle.lgm_payer.specs.Payments.{with_sent}
use Rattle.lgm_payer.specs.Payers.{PayerState, payment_place, prospect_in}
use Rattle.lgm_payer.specs.Searches.{IsOffered}
use Rattle.lgm_payer.specs.Looking.{seen, IsReady}
use Rattle.lgm_payer.proofs.ProspectLaws.{read_there}
use Rattle.lgm_payer.proofs.PayerLaws.{memory_in, built_at, sends_same, new_payer, sent_in}
use Rattle.lgm_payer.proofs.RouteLaws.{found_sends, found_fee, found_falls}
use Rattle.lgm_payer.proofs.payer.Payer.next_part.Goals as goal

pub over-requires : goal.over-requires
over-requires c =
    let payer = c.args.self.now in
    let before = c.index_mut.result.now in
    let offer = c.in_ok-offer.offer in
    let payments = c.self.inside.payments.items in
    let fits : c.in-Some.place < length payments = search rules in
    let there : slice_get payer.payments c.in-Some.place ≡ Some before =
    subst (λ (p : PayerState). slice_get p.payments c.in-Some.place ≡ Some before) c.self.view_is
    (read_there payments c.in-Some.place before fits c.index_mut.ensures.value) in
    let offered : IsOffered (prospect_in (seen c.args.sight.now) payer before) before offer = rw there at c.in_ok-offer.ensures.offered in
    let route : c.in_ok-route.route ≡ offer.found.route = c.in_ok-route.ensures ∙ c.as_slice.ensures.hops in
    subst (λ (hops : List Hop). offer.amount ≤ sent hops) (sym route)
    (found_sends (prospect_in (seen c.args.sight.now) payer before) before offer.amount offer.found offered.fit.route)

pub send-requires-clause-sends : goal.send-requires-clause-sends
send-requires-clause-sends c =
    let payer = c.args.self.now in
    let before = c.index_mut.result.now in
    let offer = c.in_ok-offer.offer in
    let payments = c.self.inside.payments.items in
    let fits : c.in-Some.place < length payments = search rules in
    let there : slice_get payer.payments c.in-Some.place ≡ Some before =
    subst (λ (p : PayerState). slice_get p.payments c.in-Some.place ≡ Some before) c.self.view_is
    (read_there payments c.in-Some.place before fits c.index_mut.ensures.value) in
    let offered : IsOffered (prospect_in (seen c.args.sight.now) payer before) before offer = rw there at c.in_ok-offer.ensures.offered in
    found_sends (prospect_in (seen c.args.sight.now) payer before) before offer.amount offer.found offered.fit.route

pub send-requires-clause-fee : goal.send-requires-clause-fee
send-requires-clause-fee c =
    let payer = c.args.self.now in
    let before = c.index_mut.result.now in
    let offer = c.in_ok-offer.offer in
    let payments = c.self.inside.payments.items in
    let fits : c.in-Some.place < length payments = search rules in
    let there : slice_get payer.payments c.in-Some.place ≡ Some before =
    subst (λ (p : PayerState). slice_get p.payments c.in-Some.place ≡ Some before) c.self.view_is
    (read_there payments c.in-Some.place before fits c.index_mut.ensures.value) in
    let offered : IsOffered (prospect_in (seen c.args.sight.now) payer before) before offer = rw there at c.in_ok-offer.ensures.offered in
    found_fee (prospect_in (seen c.args.sight.now) payer before) before offer.amount offer.found offered.fit.route

pub send-requires-clause-in_time : goal.send-requires-clause-in_time
send-requires-clause-in_time c =
    let payer = c.args.self.now in
    let before = c.index_mut.result.now in
    let offer = c.in_ok-offer.offer in
    let payments = c.self.inside.payments.items in
    let fits : c.in-Some.place < length payments = search rules in
    let there : slice_get payer.payments c.in-Some.place ≡ Some before =
    subst (λ (p : PayerState). slice_get p.payments c.in-Some.place ≡ Some before) c.self.view_is
    (read_there payments c.in-Some.place before fits c.index_mut.ensures.value) in
    let offered : IsOffered (prospect_in (seen c.args.sight.now) payer before) before offer = rw there at c.in_ok-offer.ensures.offered in
    found_falls (prospect_in (seen c.args.sight.now) payer before) before offer.amount offer.found offered.fit.route

pub returns-in_err-send-clause-why : goal.returns-in_err-send-clause-why
returns-in_err-send-clause-why c =
    let payer = c.args.self.now in
    let before = c.index_mut.result.now in
    let payments = c.self.inside.payments.items in
    let fits : c.in-Some.place < length payments = search rules in
    let there : slice_get payer.payments c.in-Some.place ≡ Some before =
    subst (λ (p : PayerState). slice_get p.payments c.in-Some.place ≡ Some before) c.self.view_is
    (read_there payments c.in-Some.place before fits c.index_mut.ensures.value) in
    let found : payment_place payer.payments c.args.payment ≡ Some c.in-Some.place = sym c.in-Some.ensures.exact in
    let memory : IfErr c.from_residual-in_err-send.result (λ reason. reason ≡ unpaid.Unfound (unfound.Search (Fault NoMemory))) =
    search rules in
    memory_in (seen c.args.sight.now) payer c.args.payment c.in-Some.place before c.from_residual-in_err-send.result
    (record { found = found; there = there }) memory

pub returns-clause-sent : goal.returns-clause-sent
returns-clause-sent c =
    let payer = c.args.self.now in
    let before = c.index.result.now in
    let offer = c.in_ok-offer.offer in
    let payments = c.self.inside.payments.items in
    let fits : c.in-Some.place < length payments = search rules in
    let read = read_there payments c.in-Some.place before fits c.index.ensures in
    let lent = read_there payments c.in-Some.place c.index_mut.result.now fits c.index_mut.ensures.value in
    let same : c.index_mut.result.now ≡ before = cc (read, lent) in
    let there : slice_get payer.payments c.in-Some.place ≡ Some before =
    subst (λ (p : PayerState). slice_get p.payments c.in-Some.place ≡ Some before) c.self.view_is read in
    let found : payment_place payer.payments c.args.payment ≡ Some c.in-Some.place = sym c.in-Some.ensures.exact in
    let ready : IsReady (seen c.args.sight.now) payer before = rw there at (c.in_ok-is_ready.ensures.ready (search rules)) in
    let offered : IsOffered (prospect_in (seen c.args.sight.now) payer before) before offer = rw there at c.in_ok-offer.ensures.offered in
    let numbered : c.self.inside.sent ≡ payer.sent = ap (λ (p : PayerState). p.sent) c.self.view_is in
    let next : c.in-Some-checked_add.next ≡ c.self.inside.sent + 1 = search rules in
    let built : built_for before.arrival offer.found.route ≡ Ok c.in_ok-payloads.payloads =
    built_at before.arrival c.arrival.result.now offer.found.route c.in_ok-payloads.payloads c.arrival.ensures
    c.in_ok-payloads.ensures.exact in
    let route : c.in_ok-route.route ≡ offer.found.route = c.in_ok-route.ensures ∙ c.as_slice.ensures.hops in
    let part : c.over.result ≡ part_of c.self.inside.sent offer.found.route offer.amount c.args.sight.now.height =
    c.over.ensures ∙ ap (λ (r : List Hop). part_of c.self.inside.sent r offer.amount c.args.sight.now.height) route in
    let sending : Sending = record {
      part = c.over.result;
      is_best = offer.found.is_best;
      odds = offer.odds;
      payloads = c.in_ok-payloads.payloads;
    } in
    let after : c.send.new.self ≡ with_sent sending.part before =
    sends_same c.index_mut.result.now before c.send.new.self
    (part_of c.self.inside.sent offer.found.route offer.amount c.args.sight.now.height) same c.in_ok-send.ensures.sent
    ∙ ap (λ (p : Part). with_sent p before) (sym part) in
    let news = new_payer c.self.inside.point payments c.self.inside.learnt c.self.inside.begun c.self.inside.sent c.self.inside.settled
    c.in-Some.place c.in-Some-checked_add.next c.send.new.self payer c.self.view_is next in
    sent_in (seen c.args.sight.now) payer _ c.args.payment c.in-Some.place sending before c.send.new.self offer
    (record { found = found; there = there }) ready offered built refl refl
    (part ∙ ap (λ n. part_of n offer.found.route offer.amount c.args.sight.now.height) numbered) after news
