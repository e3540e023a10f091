-- Answers to payments.
use Rattle.std.specs.Prelude.{ℕ, List, Option, Result}
use Rattle.lgm_store.specs.Rows.{Rows}
use Rattle.lgm_graph.specs.Edges.{edges_of}
use Rattle.lgm_route.specs.declared.request.Request.{Request as RouteRequest}
use Rattle.lgm_graph.specs.declared.route.Hop.{Hop}
use Rattle.lgm_route.specs.declared.fault.RouteFault.{RouteFault}
use Rattle.lgm_route.specs.Choice.{answer_of}
use Rattle.lgm_script.specs.declared.grammar.route_parameters.RouteParameters.{RouteParameters}

-- the route that is requested
abbrev pub asked_route : RouteParameters → RouteRequest
asked_route payment =
    record { payer = payment.payer; payee = payment.payee; amount = payment.amount; expiry = payment.expiry }

-- the hops of the best walk over the edges of the rows, or why there is none
abbrev pub route_answer : Option (List ℕ) → Rows → RouteParameters → Result (List Hop) RouteFault
route_answer known rows payment = answer_of (edges_of known rows) (asked_route payment)
