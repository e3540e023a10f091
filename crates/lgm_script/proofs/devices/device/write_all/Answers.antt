use Rattle.std.proofs.Common.{arith, rules}
use Rattle.std.proofs.lemmas.Result.{err_from_is_err_and}
use Rattle.lgm_script.proofs.WriteLaws.{sent_first, sent_range, sent_some, sent_all, range_shrinks, no_failure}
use Rattle.lgm_script.proofs.devices.device.write_all.Goals as goal

pub loop-rest-init : goal.loop-rest-init
loop-rest-init g c = record { same = search rules; sent = sent_first (g.W.Sink.seen c.args.sink.now).taken c.args.bytes.now }

pub loop-rest-smaller : goal.loop-rest-smaller
loop-rest-smaller g c = range_shrinks c.loop-rest.rest.now c.in_ok-written.written c.in_ok-written.ensures.bound c.if-written-eq0.false

pub loop-rest-preserved : goal.loop-rest-preserved
loop-rest-preserved g c =
    let rest = c.loop-rest.rest.now in
    let n = c.in_ok-written.written in
    record {
      same = omega (arith, c.in_ok-written.ensures.failures, no_failure n rest c.if-written-eq0.false, c.loop-rest.invariant.same);
      sent =
          sent_range (g.W.Sink.seen c.args.sink.now).taken (g.W.Sink.seen c.loop-rest.sink).taken (g.W.Sink.seen c.write.new.self).taken c.args.bytes.now rest n c.loop-rest.invariant.sent c.in_ok-written.ensures.bytes;
    }

pub returns-in_err-written : goal.returns-in_err-written
returns-in_err-written g c =
    let p = err_from_is_err_and c.from_residual.result c.from_residual.ensures.1 in
    rw p.1 (record {
      ok = tt;
      err =
          sent_some (g.W.Sink.seen c.args.sink.now).taken (g.W.Sink.seen c.loop-rest.sink).taken
          (g.W.Sink.seen c.write.new.self).taken c.args.bytes.now c.loop-rest.rest.now c.loop-rest.invariant.sent
          c.in_err-written.ensures.bytes;
      cause = omega (arith, c.in_err-written.ensures.failures, c.loop-rest.invariant.same);
      same = tt;
    })

pub returns : goal.returns
returns g c = record {
  ok =
      sent_all (g.W.Sink.seen c.args.sink.now).taken (g.W.Sink.seen c.loop-rest.sink).taken c.args.bytes.now
      c.loop-rest.rest.now c.loop-rest.invariant.sent (search rules);
  err = tt;
  cause = tt;
  same = c.loop-rest.invariant.same;
}
