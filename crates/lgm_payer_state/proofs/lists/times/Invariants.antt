use Rattle.std.proofs.Common.{◌≡◌, ◌++◌, ◌-◌, length}
use Rattle.std.specs.List.{flat_map}
use Rattle.lgm_payer_state.specs.reading.Reading.{times_at}
use Rattle.lgm_payer_state.proofs.ListLaws.{onto}
use Rattle.lgm_payer_state.proofs.lists.times.Given as goal

abbrev pub invariant-loop : goal.invariant-loop
invariant-loop g l = record {
  same : times_at g.T.Stored.read_at l.count l.bytes ≡ onto l.items.items (times_at g.T.Stored.read_at (l.count - l.counter) l.rest);
  exact : l.bytes ≡ flat_map g.T.Stored.bytes_of l.items.items ++ l.rest;
  many : length l.items.items ≡ l.counter;
}
