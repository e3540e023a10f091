use Rattle.std.proofs.Common.{◌≡◌, drop}
use Rattle.lgm_payer_state.specs.reading.EstimatesReading.{estimates_behind, estimates_of}
use Rattle.lgm_payer_state.proofs.estimates.estimates_of.Given as goal

abbrev pub invariant-loop-entry : goal.invariant-loop-entry
invariant-loop-entry l = estimates_of l.entries ≡ estimates_behind l.learnt (drop l.entry-index l.entries)
