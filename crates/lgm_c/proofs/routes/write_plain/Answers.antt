use Rattle.std.proofs.Common.{subst}
use Rattle.lgm_graph.specs.Edges.{AreKeyed}
use Rattle.lgm_graph.specs.Overlay.{no_overlay, overlaid_edges}
use Rattle.lgm_store.specs.Rows.{Rows}
use Rattle.lgm_c.specs.Attempts.{plain_attempt, route_over, MayStop, IsRouteFor, WritesTried}
use Rattle.lgm_c.specs.Routing.{route_asked, buffers}
use Rattle.lgm_c.proofs.Searches.{is_asked, never_stops}
use Rattle.lgm_c.proofs.Written.{writes_best}
use Rattle.lgm_c.proofs.routes.write_plain.Goals as goal

pub returns-clause-route : goal.returns-clause-route
returns-clause-route c =
    let payment = c.args.payment.now in
    let state = c.args.state.now in
    let plain = plain_attempt payment in
    let old = buffers c.args.hops.now c.args.payloads.now c.args.lengths.now in
    let new = buffers c.write_tried.new.hops c.write_tried.new.payloads c.write_tried.new.lengths in
    let keyed = subst (λ (rows : Rows). AreKeyed (overlaid_edges state.known rows no_overlay)) c.map.ensures
    (c.overlays_are_lawful.ensures.keyed state.known c.map.result.now no_overlay c.rows_are_lawful.ensures.ascend) in
    writes_best (route_over plain state.known state.rows) (route_asked payment state.known state.rows)
    (MayStop plain state.known state.rows) (IsRouteFor plain state.known state.rows) payment.secret c.write_tried.result old new
    (never_stops payment state.known state.rows)
    (is_asked payment state.known state.rows c.nothing_preferred.ensures c.overlays_are_lawful.ensures.neutral keyed)
    (subst (λ attempt. WritesTried attempt state.known state.rows payment.secret c.write_tried.result old new) c.plain-attempt.ensures
    c.write_tried.ensures.route)
