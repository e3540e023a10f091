use Rattle.std.proofs.Common.{◌≡◌, ◌+◌, sum_by, take}
use Rattle.lgm_payer.specs.Parts.{held_fee}
use Rattle.lgm_payer.proofs.payment.restoring.left_of_fee.Given as goal

abbrev pub invariant-loop-part : goal.invariant-loop-part
invariant-loop-part l = l.left + sum_by held_fee (take l.part-index l.parts) ≡ l.fn.fee
