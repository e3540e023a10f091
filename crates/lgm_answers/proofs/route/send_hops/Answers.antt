use Rattle.std.proofs.Common.{◌≤◌, length, rules}
use Rattle.std.specs.Prelude.{min}
use Rattle.std.proofs.lemmas.Result.{err_from_is_err_and}
use Rattle.lgm_script.specs.Output.{told_by, Tells, TellsPart}
use Rattle.lgm_script.specs.Text.{hop_line}
use Rattle.lgm_script.proofs.WrittenTextLaws.{onward_more, onward_stops, onward_ends}
use Rattle.lgm_answers.proofs.Hops.{hop_there, hops_end}
use Rattle.lgm_answers.proofs.route.send_hops.Goals as goal

pub loop-place-preserved : goal.loop-place-preserved
loop-place-preserved g c =
    let line : Tells (told_by g.W.Sink.seen c.loop-place.output) (told_by g.W.Sink.seen c.send.new.self)
    (hop_line c.args.number c.index-hops-place.result.scid c.as_slice.result.now) =
    rw c.index-hops-place.is c.in_ok-send.ensures in
    onward_more _ _ _ _ _ _ _ c.loop-place.invariant
    (hop_there c.args.number c.loop-place.place c.args.route.now c.args.payloads.now
    c.index-hops-place.result c.index-payloads-place.result c.as_slice.result.now
    (search rules) (search rules) (search rules) (search rules) c.as_slice.ensures)
    line

pub returns-in_err-send : goal.returns-in_err-send
returns-in_err-send g c =
    let p = err_from_is_err_and c.from_residual.result c.from_residual.ensures.1 in
    let line : TellsPart (told_by g.W.Sink.seen c.loop-place.output) (told_by g.W.Sink.seen c.send.new.self) (hop_line
    c.args.number c.index-hops-place.result.scid c.as_slice.result.now) c.in_err-send.field-0.0 =
    rw c.index-hops-place.is c.in_err-send.ensures in
    rw (p.1, p.2) (onward_stops _ _ _ _ _ _ _ _ c.loop-place.invariant
    (hop_there c.args.number c.loop-place.place c.args.route.now c.args.payloads.now c.index-hops-place.result
    c.index-payloads-place.result c.as_slice.result.now
    (search rules) (search rules) (search rules) (search rules) c.as_slice.ensures)
    line)

pub returns : goal.returns
returns g c =
    let past : min (length c.args.route.now) (length c.args.payloads.now) ≤ c.loop-place.place = search rules in
    onward_ends _ _ _ _ c.loop-place.invariant (hops_end c.args.number c.loop-place.place c.args.route.now c.args.payloads.now past)
