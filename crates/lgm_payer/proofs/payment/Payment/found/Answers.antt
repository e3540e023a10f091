use Rattle.std.proofs.Common.{arith, refl, sym, true≢false}
use Rattle.lgm_payer.specs.Searches.{plain}
use Rattle.lgm_payer.specs.Looking.{prospect_at}
use Rattle.lgm_payer.proofs.RouteLaws.{answer_sends, preferred_found, cheapest_found, too_dear}
use Rattle.lgm_payer.proofs.payment.Payment.found.Goals as goal

pub affords-requires : goal.affords-requires
affords-requires c =
    answer_sends (prospect_at c.args.outlook.now) c.args.self.now c.args.amount c.in_ok-found.found c.in_ok-found.ensures

pub affords-requires-2 : goal.affords-requires-2
affords-requires-2 c =
    answer_sends (plain (prospect_at c.args.outlook.now)) c.args.self.now c.args.amount c.in_ok-found-2.found c.in_ok-found-2.ensures

pub overflow_sub-result : goal.overflow_sub-result
overflow_sub-result c =
    let low = answer_sends (plain (prospect_at c.args.outlook.now)) c.args.self.now c.args.amount c.in_ok-found-2.found
    c.in_ok-found-2.ensures in
    omega (arith, low, c.sent.ensures)

pub returns-then-affords-clause-found : goal.returns-then-affords-clause-found
returns-then-affords-clause-found c =
    preferred_found (prospect_at c.args.outlook.now) c.args.self.now c.args.amount c.in_ok-found.found c.in_ok-found.ensures
    (c.if-affords.ensures.0 refl)

pub returns-then-affords-2-clause-found : goal.returns-then-affords-2-clause-found
returns-then-affords-2-clause-found c =
    cheapest_found (prospect_at c.args.outlook.now) c.args.self.now c.args.amount c.in_ok-found.found c.in_ok-found-2.found
    c.in_ok-found.ensures (λ within. true≢false (sym (c.if-affords.ensures.1 within))) c.in_ok-found-2.ensures (c.if-affords-2.ensures.0 refl)

pub returns-clause-why : goal.returns-clause-why
returns-clause-why c =
    too_dear (prospect_at c.args.outlook.now) c.args.self.now c.args.amount c.sent.result c.in_ok-found-2.found
    c.in_ok-found-2.ensures c.sent.ensures (λ within. true≢false (sym (c.if-affords-2.ensures.1 within)))
