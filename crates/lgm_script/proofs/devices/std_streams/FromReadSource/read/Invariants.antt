use Rattle.std.proofs.Common.{◌≡◌}
use Rattle.lgm_script.proofs.devices.std_streams.FromReadSource.read.Given as goal

abbrev pub invariant-loop : goal.invariant-loop
invariant-loop g l = l.self.failures ≡ l.fn.self.failures
