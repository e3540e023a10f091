-- Words are short.
use Rattle.std.proofs.Common.{ℕ, ◌≤◌, Bool, true, false, List, length, Option, Some, None, lit≤}
use Rattle.std.specs.Prelude.{◌==◌, if◌then◌else◌}
use Rattle.lgm_check.specs.declared.refusal.Refusal.{Refusal}
use Rattle.lgm_check.specs.declared.refusal.Refusal.TheVariants as refusals
use Rattle.lgm_check.specs.Refusal.{word_of}
use Rattle.lgm_route.specs.declared.fault.RouteFault.{RouteFault}
use Rattle.lgm_route.specs.declared.fault.RouteFault.TheVariants as reasons
use Rattle.lgm_route.specs.Words.{route_word}
use Rattle.lgm_route.specs.declared.no_route.NoRouteReason.{NoRouteReason}
use Rattle.lgm_route.specs.declared.no_route.NoRouteReason.TheVariants as no_routes
use Rattle.lgm_route.specs.Reasons.{reason_word}
use Rattle.lgm_c.specs.Arguments.{argument_word}
use Rattle.lgm_c.specs.PaymentFaults.{payment_word}
use Rattle.lgm_c.specs.Decoding.{decode_word}
use Rattle.lgm_c.specs.Words.{refusal_at, reason_at, no_route_at, word_of_call, word_by, word_at}

refusal_short : (refusal : Refusal) → length (word_of refusal) ≤ 24
refusal_short refusals.Malformed = lit≤ tt
refusal_short refusals.UnknownEven = lit≤ tt
refusal_short refusals.Ignored = lit≤ tt
refusal_short refusals.NotGossip = lit≤ tt
refusal_short refusals.Chain = lit≤ tt
refusal_short refusals.Point = lit≤ tt
refusal_short refusals.NodeOrder = lit≤ tt
refusal_short refusals.Private = lit≤ tt
refusal_short refusals.Funding = lit≤ tt
refusal_short refusals.Signature = lit≤ tt
refusal_short refusals.UnknownChannel = lit≤ tt
refusal_short refusals.Known = lit≤ tt
refusal_short refusals.Conflict = lit≤ tt
refusal_short refusals.UnknownNode = lit≤ tt
refusal_short refusals.NotNewer = lit≤ tt
refusal_short refusals.Banned = lit≤ tt
refusal_short refusals.NoMemory = lit≤ tt

reason_short : (reason : RouteFault) → length (route_word reason) ≤ 24
reason_short reasons.AmountZero = lit≤ tt
reason_short reasons.AmountTooLarge = lit≤ tt
reason_short reasons.ExpiryTooLarge = lit≤ tt
reason_short reasons.SelfPayment = lit≤ tt
reason_short reasons.NoRoute = lit≤ tt
reason_short reasons.NoMemory = lit≤ tt

either_short : (test : Bool) (word other : List ℕ) → length word ≤ 24 → length other ≤ 24 → length (if test then word else other) ≤ 24
either_short true word other short short' = short
either_short false word other short short' = short'

none_short : (reason : NoRouteReason) → length (reason_word reason) ≤ 24
none_short no_routes.PayerHasNoChannel = lit≤ tt
none_short no_routes.PayeeTakesNoPayment = lit≤ tt
none_short no_routes.PayerLacksAmount = lit≤ tt
none_short no_routes.PayeeLacksAmount = lit≤ tt
none_short no_routes.Unconnected = lit≤ tt
none_short no_routes.BeyondDelay = lit≤ tt
none_short no_routes.BeyondHops = lit≤ tt
none_short no_routes.BeyondBoth = lit≤ tt

argument_short : (number : ℕ) → length (argument_word number) ≤ 24
argument_short number =
    either_short (number == 110) _ _ (lit≤ tt) (either_short (number == 111) _ _ (lit≤ tt) (either_short (number == 112) _ _ (lit≤ tt) (either_short (number == 113) _ _ (lit≤ tt) (either_short (number == 114) _ _ (lit≤ tt) (either_short (number == 115) _ _ (lit≤ tt) (either_short (number == 116) _ _ (lit≤ tt) (either_short (number == 117) _ _ (lit≤ tt) (either_short (number == 118) _ _ (lit≤ tt) (either_short (number == 119) _ _ (lit≤ tt) (either_short (number == 120) _ _ (lit≤ tt) (lit≤ tt)))))))))))

payment_short : (number : ℕ) → length (payment_word number) ≤ 24
payment_short number =
    either_short (number == 71) _ _ (lit≤ tt) (either_short (number == 72) _ _ (lit≤ tt) (either_short (number == 73) _ _ (lit≤ tt) (either_short (number == 74) _ _ (lit≤ tt) (either_short (number == 75) _ _ (lit≤ tt) (either_short (number == 76) _ _ (lit≤ tt) (either_short (number == 77) _ _ (lit≤ tt) (either_short (number == 81) _ _ (lit≤ tt) (either_short (number == 82) _ _ (lit≤ tt) (either_short (number == 83) _ _ (lit≤ tt) (either_short (number == 84) _ _ (lit≤ tt) (either_short (number == 85) _ _ (lit≤ tt) (either_short (number == 86) _ _ (lit≤ tt) (either_short (number == 87) _ _ (lit≤ tt) (either_short (number == 88) _ _ (lit≤ tt) (either_short (number == 89) _ _ (lit≤ tt) (either_short (number == 90) _ _ (lit≤ tt) (either_short (number == 91) _ _ (lit≤ tt) (either_short (number == 92) _ _ (lit≤ tt) (either_short (number == 93) _ _ (lit≤ tt) (argument_short number))))))))))))))))))))

decode_short : (number : ℕ) → length (decode_word number) ≤ 24
decode_short number =
    either_short (number == 51) _ _ (lit≤ tt) (either_short (number == 52) _ _ (lit≤ tt) (either_short (number == 53) _ _ (lit≤ tt) (either_short (number == 54) _ _ (lit≤ tt) (either_short (number == 55) _ _ (lit≤ tt) (either_short (number == 56) _ _ (lit≤ tt) (either_short (number == 57) _ _ (lit≤ tt) (either_short (number == 58) _ _ (lit≤ tt) (either_short (number == 59) _ _ (lit≤ tt) (either_short (number == 60) _ _ (lit≤ tt) (either_short (number == 61) _ _ (lit≤ tt) (payment_short number)))))))))))

call_short : (number : ℕ) → length (word_of_call number) ≤ 24
call_short number =
    either_short (number == 0) _ _ (lit≤ tt) (either_short (number == 26) _ _ (lit≤ tt) (either_short (number == 27) _ _ (lit≤ tt) (either_short (number == 28) _ _ (lit≤ tt) (either_short (number == 31) _ _ (lit≤ tt) (either_short (number == 32) _ _ (lit≤ tt) (either_short (number == 33) _ _ (lit≤ tt) (either_short (number == 34) _ _ (lit≤ tt) (either_short (number == 35) _ _ (lit≤ tt) (either_short (number == 100) _ _ (lit≤ tt) (either_short (number == 101) _ _ (lit≤ tt) (either_short (number == 102) _ _ (lit≤ tt) (either_short (number == 104) _ _ (lit≤ tt) (either_short (number == 105) _ _ (lit≤ tt) (either_short (number == 106) _ _ (lit≤ tt) (either_short (number == 107) _ _ (lit≤ tt) (decode_short number))))))))))))))))

pub word_short : (number : ℕ) → length (word_at number) ≤ 24
unfolding word_at
word_short number = by (refusal_at number) (reason_at number) (no_route_at number)
  where
    by : (refusal : Option Refusal) (reason : Option RouteFault) (unreached : Option NoRouteReason) → length (word_by refusal reason unreached number) ≤ 24
    by (Some refusal) reason unreached = refusal_short refusal
    by None (Some reason) unreached = reason_short reason
    by None None (Some unreached) = none_short unreached
    by None None None = call_short number
