use Rattle.std.proofs.Common.{◌≡◌, length}
use Rattle.lgm_script.proofs.WriteLaws.{Sent}
use Rattle.lgm_script.proofs.devices.device.write_all.Given as goal

abbrev pub invariant-loop-rest : goal.invariant-loop-rest
invariant-loop-rest g l = record {
  same : (g.W.Sink.seen l.sink).failures ≡ (g.W.Sink.seen l.fn.sink).failures;
  sent : Sent (g.W.Sink.seen l.fn.sink).taken (g.W.Sink.seen l.sink).taken l.bytes l.rest;
}

abbrev pub decreases-loop-rest : goal.decreases-loop-rest
decreases-loop-rest g l = length l.rest
