use Rattle.std.proofs.Common.{refl, sym, subst}
use Rattle.lgm_c.specs.Attempts.{route_over, MayStop, IsRouteFor}
use Rattle.lgm_c.specs.Routing.{WritesHops, buffers, number_written}
use Rattle.lgm_c.specs.inner.Searching.{IsRouted}
use Rattle.lgm_c.proofs.Written.{writes_found, writes_fault}
use Rattle.lgm_c.proofs.routes.write_found.Goals as goal

pub returns-in-Ok : goal.returns-in-Ok
returns-in-Ok c = λ attempt known rows is.
    let found = c.in-Ok.found in
    let number = number_written found.is_best in
    let old = buffers c.args.hops.now c.args.payloads.now c.args.lengths.now in
    let new = buffers c.write_route-written.new.hops c.write_route-written.new.payloads c.write_route-written.new.lengths in
    writes_found (route_over attempt known rows) (MayStop attempt known rows) (IsRouteFor attempt known rows) c.args.secret.now
    c.route_status.result old new found (subst (IsRouted attempt known rows) c.in-Ok.is is)
    (subst (λ status. WritesHops number found.route c.args.secret.now status old new) (sym c.route_status.ensures)
    (c.write_route-written.ensures number))

pub returns-in-Err : goal.returns-in-Err
returns-in-Err c = λ attempt known rows is.
    let old = buffers c.args.hops.now c.args.payloads.now c.args.lengths.now in
    writes_fault (route_over attempt known rows) (MayStop attempt known rows) (IsRouteFor attempt known rows) c.args.secret.now
    c.number.result old old c.in-Err.fault (subst (IsRouted attempt known rows) c.in-Err.is is) c.number.ensures refl
