use Rattle.std.proofs.Common.{◌≡◌, take}
use Rattle.lgm_payer_state.proofs.estimates.entries_of.Given as goal

abbrev pub invariant-loop-place : goal.invariant-loop-place
invariant-loop-place l = l.entries.items ≡ take l.place l.learnt
