-- The answer to a request.
use Rattle.std.specs.Prelude.{◌≡◌, List, Option, Some, None, Result, Ok, Err, nat_eq, nat_lt, if◌then◌else◌}
use Rattle.lgm_store.specs.Rows.{is_point}
use Rattle.lgm_graph.specs.Edges.{PointEdge}
use Rattle.lgm_route.specs.declared.request.Request.{Request}
use Rattle.lgm_graph.specs.declared.route.Hop.{Hop}
use Rattle.lgm_route.specs.declared.fault.RouteFault.{RouteFault}
use Rattle.lgm_route.specs.declared.fault.RouteFault.TheVariants.{AmountZero, AmountTooLarge, ExpiryTooLarge}
use Rattle.lgm_route.specs.declared.fault.RouteFault.TheVariants.{SelfPayment, NoRoute}
use Rattle.lgm_route.specs.Routes.{IsUsable, IsLeast, hops_of}

-- the first reason to refuse a request, whatever the edges are
abbrev pub refusal : Request → Option RouteFault
refusal request =
    if nat_eq request.amount 0 then Some AmountZero
    else if nat_lt 2100000000000000000 request.amount then Some AmountTooLarge
    else if nat_lt 498000000 request.expiry then Some ExpiryTooLarge
    else if is_point request.payer request.payee then Some SelfPayment
    else None

-- the hops of the best walk, or no route if no walk is usable
abbrev pub IsFoundOver : List PointEdge → Request → Result (List Hop) RouteFault → Type 0
IsFoundOver edges request (Ok hops) =
    (walk : List PointEdge) × IsLeast edges request walk × (hops ≡ hops_of request walk)
IsFoundOver edges request (Err fault) =
    (fault ≡ NoRoute) × ((walk : List PointEdge) → IsUsable edges request walk → ⊥)

-- the refusal, if there is one, else what is found
abbrev pub IsAnswerBy : Option RouteFault → List PointEdge → Request → Result (List Hop) RouteFault → Type 0
IsAnswerBy (Some fault) edges request answer = answer ≡ Err fault
IsAnswerBy None edges request answer = IsFoundOver edges request answer

abbrev pub IsAnswer : List PointEdge → Request → Result (List Hop) RouteFault → Type 0
IsAnswer edges request answer = IsAnswerBy (refusal request) edges request answer
