use Rattle.std.proofs.Common.{◌≡◌, take}
use Rattle.lgm_payer.specs.UnderWay.{all_since}
use Rattle.lgm_payer.proofs.under_way.all_since.Given as goal

-- the hops of the first payments were added
abbrev pub invariant-loop-payment : goal.invariant-loop-payment
invariant-loop-payment l = l.since.items ≡ all_since l.number (take l.payment-index l.payments)
