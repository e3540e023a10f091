-- What a script requests of a map that grows: items in batches, and payments that are dealt to workers.
use Rattle.std.specs.Prelude.{ℕ, ◌+◌, ◌%◌, ◌==◌, List, [], ◌∷◌, ◌++◌, map, Option, Some, None, if◌then◌else◌}
use Rattle.std.specs.List.{filter_map, range_with_len}
use Rattle.lgm_route.specs.declared.request.Request.{Request as RouteRequest}
use Rattle.lgm_script.specs.declared.grammar.item.Item.{Item}
use Rattle.lgm_script.specs.declared.grammar.route_parameters.RouteParameters.{RouteParameters}
use Rattle.lgm_script.specs.declared.grammar.command.Command.{Command}
use Rattle.lgm_script.specs.declared.grammar.command.Command.TheVariants as requests
use Rattle.lgm_answers.specs.Routing.{asked_route}

-- the batches, the first of which begins with these items
abbrev pub batches_behind : List Item → List Command → List (List Item)
batches_behind items [] = items ∷ []
batches_behind items (requests.Offer item ∷ asked) = batches_behind (items ++ item ∷ []) asked
batches_behind items (requests.Commit ∷ asked) = items ∷ batches_behind [] asked
batches_behind items (_ ∷ asked) = batches_behind items asked

-- the items of a script, in batches that end at its commits and at its end
abbrev pub batches_of : List Command → List (List Item)
batches_of asked = batches_behind [] asked

-- the payment that is requested
abbrev pub payment_in : Command → Option RouteParameters
payment_in (requests.Route payment) = Some payment
payment_in _ = None

abbrev pub payments_of : List Command → List RouteParameters
payments_of asked = filter_map payment_in asked

-- what one of this many workers gets of payments that are dealt round-robin, the first of which has this index
abbrev pub dealt_from : ℕ → ℕ → ℕ → List RouteParameters → List RouteParameters
dealt_from workers worker place [] = []
dealt_from workers worker place (payment ∷ payments) =
    if place % workers == worker then payment ∷ dealt_from workers worker (place + 1) payments
    else dealt_from workers worker (place + 1) payments

-- the list of one of this many workers
abbrev pub list_for : ℕ → List RouteParameters → ℕ → List RouteRequest
list_for workers payments worker = map asked_route (dealt_from workers worker 0 payments)

-- the payments of a script, dealt to this many workers round-robin, from worker 0 on
abbrev pub lists_of : ℕ → List Command → List (List RouteRequest)
lists_of workers asked = map (list_for workers (payments_of asked)) (range_with_len 0 workers)
