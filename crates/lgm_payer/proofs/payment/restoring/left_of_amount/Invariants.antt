use Rattle.std.proofs.Common.{◌≡◌, ◌+◌, sum_by, take}
use Rattle.lgm_payer.specs.Parts.{held_amount}
use Rattle.lgm_payer.proofs.payment.restoring.left_of_amount.Given as goal

abbrev pub invariant-loop-part : goal.invariant-loop-part
invariant-loop-part l = l.left + sum_by held_amount (take l.part-index l.parts) ≡ l.fn.amount
