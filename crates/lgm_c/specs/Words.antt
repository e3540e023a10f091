-- The words of numbers.
use Rattle.std.specs.Prelude.{ℕ, ◌==◌, if◌then◌else◌, List, replicate, codes, Option, Some, None}
use Rattle.lgm_check.specs.declared.refusal.Refusal.{Refusal}
use Rattle.lgm_check.specs.declared.refusal.Refusal.TheVariants as refusals
use Rattle.lgm_check.specs.Refusal.{word_of}
use Rattle.lgm_route.specs.declared.fault.RouteFault.{RouteFault}
use Rattle.lgm_route.specs.declared.fault.RouteFault.TheVariants as reasons
use Rattle.lgm_route.specs.Words.{route_word}
use Rattle.lgm_route.specs.declared.no_route.NoRouteReason.{NoRouteReason}
use Rattle.lgm_route.specs.declared.no_route.NoRouteReason.TheVariants as no_routes
use Rattle.lgm_route.specs.Reasons.{reason_word}
use Rattle.lgm_c.specs.Decoding.{decode_word}
use Rattle.lgm_c.specs.Writing.{in_front}

abbrev pub refusal_at : ℕ → Option Refusal
refusal_at number =
    if number == 1 then Some refusals.Malformed
    else if number == 2 then Some refusals.UnknownEven
    else if number == 3 then Some refusals.Ignored
    else if number == 4 then Some refusals.NotGossip
    else if number == 5 then Some refusals.Chain
    else if number == 6 then Some refusals.Point
    else if number == 7 then Some refusals.NodeOrder
    else if number == 8 then Some refusals.Private
    else if number == 9 then Some refusals.Funding
    else if number == 10 then Some refusals.Signature
    else if number == 11 then Some refusals.UnknownChannel
    else if number == 12 then Some refusals.Known
    else if number == 13 then Some refusals.Conflict
    else if number == 14 then Some refusals.UnknownNode
    else if number == 15 then Some refusals.NotNewer
    else if number == 16 then Some refusals.Banned
    else None

abbrev pub reason_at : ℕ → Option RouteFault
reason_at number =
    if number == 21 then Some reasons.AmountZero
    else if number == 22 then Some reasons.AmountTooLarge
    else if number == 23 then Some reasons.ExpiryTooLarge
    else if number == 24 then Some reasons.SelfPayment
    else if number == 25 then Some reasons.NoRoute
    else None

abbrev pub no_route_at : ℕ → Option NoRouteReason
no_route_at number =
    if number == 41 then Some no_routes.PayerHasNoChannel
    else if number == 42 then Some no_routes.PayeeTakesNoPayment
    else if number == 43 then Some no_routes.PayerLacksAmount
    else if number == 44 then Some no_routes.PayeeLacksAmount
    else if number == 45 then Some no_routes.Unconnected
    else if number == 46 then Some no_routes.BeyondDelay
    else if number == 47 then Some no_routes.BeyondHops
    else if number == 48 then Some no_routes.BeyondBoth
    else None

abbrev pub word_of_call : ℕ → List ℕ
word_of_call number =
    if number == 0 then codes "accepted"
    else if number == 26 then codes "undecided"
    else if number == 27 then codes "so-far"
    else if number == 28 then codes "whole"
    else if number == 31 then codes "not-query"
    else if number == 32 then codes "not-filter"
    else if number == 33 then codes "not-announced"
    else if number == 34 then codes "not-saved"
    else if number == 35 then codes "not-reply"
    else if number == 100 then codes "closed"
    else if number == 101 then codes "open"
    else if number == 102 then codes "no-memory"
    else if number == 104 then codes "room"
    else if number == 105 then codes "full"
    else if number == 106 then codes "published"
    else if number == 107 then codes "none"
    else decode_word number

abbrev pub word_by : Option Refusal → Option RouteFault → Option NoRouteReason → ℕ → List ℕ
word_by (Some refusal) reason unreached number = word_of refusal
word_by None (Some reason) unreached number = route_word reason
word_by None None (Some unreached) number = reason_word unreached
word_by None None None number = word_of_call number

-- the word of a refusal, of a reason why there is no route, or of another result
unfoldable pub word_at : ℕ → List ℕ
word_at number = word_by (refusal_at number) (reason_at number) (no_route_at number) number

-- a word in 24 bytes, padded with zeros
abbrev pub padded : List ℕ → List ℕ
padded word = in_front word (replicate 24 0)
