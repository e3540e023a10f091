use Rattle.std.proofs.Common.{◌≡◌, ◌-◌}
use Rattle.lgm_gossip.specs.reading.QueryFlagsReading.{all_flags_at}
use Rattle.lgm_gossip.proofs.QueryFlagsLaws.{with_front}
use Rattle.lgm_gossip.proofs.query_flags.all_flags.Given as goal

abbrev pub invariant-loop : goal.invariant-loop
invariant-loop l = with_front l.flags.items (all_flags_at (l.count - l.counter) l.rest) ≡ all_flags_at l.count l.bytes
