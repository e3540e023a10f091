use Rattle.std.proofs.Common.{length}
use Rattle.std.proofs.lemmas.Result.{err_from_is_err_and}
use Rattle.lgm_script.specs.Output.{told_by, Tells, TellsPart}
use Rattle.lgm_script.specs.Text.{route_line}
use Rattle.lgm_script.proofs.WrittenTextLaws.{tells_part_more, written_behind}
use Rattle.lgm_graph.specs.Route.{sent, expiry}
use Rattle.lgm_answers.proofs.route.send_route.Goals as goal

pub returns-in_err-send : goal.returns-in_err-send
returns-in_err-send g c =
    let p = err_from_is_err_and c.from_residual.result c.from_residual.ensures.1 in
    let hops = c.args.route.now in
    let line : TellsPart (told_by g.W.Sink.seen c.args.output.now) (told_by g.W.Sink.seen c.send.new.self)
    (route_line c.args.number (sent hops) (expiry hops) (length hops)) c.in_err-send.field-0.0 =
    rw (← c.sent.ensures, ← c.expiry.ensures, ← c.as_slice.ensures.hops) c.in_err-send.ensures in
    rw (p.1, p.2) (tells_part_more _ _ _ _ _ line)

pub returns : goal.returns
returns g c =
    let hops = c.args.route.now in
    let line : Tells (told_by g.W.Sink.seen c.args.output.now) (told_by g.W.Sink.seen c.send.new.self)
    (route_line c.args.number (sent hops) (expiry hops) (length hops)) =
    rw (← c.sent.ensures, ← c.expiry.ensures, ← c.as_slice.ensures.hops) c.in_ok-send.ensures in
    written_behind c.send_hops.result _ _ _ _ _ line c.send_hops.ensures
