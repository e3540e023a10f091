use Rattle.std.proofs.Common.{◌≡◌, take}
use Rattle.lgm_payer.specs.UnderWay.{all_under_way}
use Rattle.lgm_payer.proofs.under_way.all_under_way.Given as goal

-- the hops of the first payments were added
abbrev pub invariant-loop-payment : goal.invariant-loop-payment
invariant-loop-payment l = l.busy.items ≡ all_under_way (take l.payment-index l.payments)
