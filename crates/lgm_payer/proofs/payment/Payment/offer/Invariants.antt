use Rattle.std.proofs.Common.{◌≤◌, ◌+◌, ◌-◌, ◌/◌, max, Some}
use Rattle.std.specs.Prelude.{IfSome}
use Rattle.lgm_payer.specs.Payments.{left, parts_left}
use Rattle.lgm_payer.specs.Searches.{IsTried, IsFit}
use Rattle.lgm_payer.specs.Looking.{prospect_at}
use Rattle.lgm_payer.proofs.payment.Payment.offer.Given as goal

-- what was tried before, and that the best of it fits
abbrev pub invariant-dividing : goal.invariant-dividing
invariant-dividing l = record {
  some : 1 ≤ l.pieces;
  few : 2 ≤ l.pieces → l.pieces ≤ parts_left l.self;
  enough : 2 ≤ l.pieces → l.pieces ≤ left l.self / max 1 l.self.bounds.least_part;
  tried : IsTried (prospect_at l.outlook) l.self (Some l.pieces) l.best;
  fits : IfSome l.best (IsFit (prospect_at l.outlook) l.self);
}

abbrev pub decreases-dividing : goal.decreases-dividing
decreases-dividing l = parts_left l.self + 2 - l.pieces
