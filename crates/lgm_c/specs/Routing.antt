-- The route of a payment, as C gets it.
use Rattle.std.specs.Prelude.{◌≡◌, ◌⊎◌, ℕ, ◌<◌, nat_lt, Bool, true, false, List, map, length, Option, Result, Ok, Err, if◌then◌else◌}
use Rattle.std.specs.List.{flat_map, zip}
use Rattle.lgm_store.specs.Rows.{Rows}
use Rattle.lgm_graph.specs.Edges.{edges_of}
use Rattle.lgm_route.specs.Choice.{answer_of}
use Rattle.lgm_route.specs.declared.request.Request.{Request}
use Rattle.lgm_graph.specs.declared.route.Hop.{Hop}
use Rattle.lgm_route.specs.declared.fault.RouteFault.{RouteFault}
use Rattle.lgm_route.specs.declared.fault.RouteFault.TheVariants as reasons
use Rattle.lgm_payload.specs.Building.{payloads_of}
use Rattle.lgm_c.specs.declared.routes.LgmPayment.{LgmPayment}
use Rattle.lgm_c.specs.declared.routes.LgmHop.{LgmHop}
use Rattle.lgm_c.specs.declared.routes.LgmLengths.{LgmLengths}
use Rattle.lgm_c.specs.declared.fault.Fault.{Fault}
use Rattle.lgm_c.specs.declared.fault.Fault.TheVariants as faults
use Rattle.lgm_c.specs.Status.{number_of, no_memory, unrouted}
use Rattle.lgm_c.specs.Writing.{in_front}

abbrev pub request_of : LgmPayment → Request
request_of payment = record {
  payer = record { 0 = payment.payer };
  payee = record { 0 = payment.payee };
  amount = payment.amount_msat;
  expiry = payment.expiry;
}

abbrev pub found_or_unrouted : Result (List Hop) RouteFault → Result (List Hop) Fault
found_or_unrouted (Ok hops) = Ok hops
found_or_unrouted (Err reason) = Err (unrouted reason)

-- an answer over the edges of rows; `Full` with too many channels
abbrev pub routed_in : Rows → Result (List Hop) RouteFault → Result (List Hop) Fault
routed_in rows answer =
    if nat_lt 2000000000 (length rows.channels) then Err faults.Full else found_or_unrouted answer

-- the hops of the best walk over the edges of the rows, for a payer who knows these feature bits, or why there is none
abbrev pub route_for : Request → Option (List ℕ) → Rows → Result (List Hop) Fault
route_for request known rows = routed_in rows (answer_of (edges_of known rows) request)

-- a route was searched for: it was found, or there is none
abbrev pub IsSearched : Result (List Hop) Fault → Type 0
IsSearched (Ok hops) = Unit {0}
IsSearched (Err fault) = fault ≡ faults.Unrouted reasons.NoRoute

abbrev pub route_asked : LgmPayment → Option (List ℕ) → Rows → Result (List Hop) Fault
route_asked payment known rows = route_for (request_of payment) known rows

-- a hop, with the length of the payload for the node at its end
abbrev pub c_hop : Hop → List ℕ → LgmHop
c_hop hop payload = record {
  scid = hop.scid;
  amount_msat = hop.amount;
  payload_len = length payload;
  expiry = hop.expiry;
  from = hop.from.0;
  to = hop.to.0;
}

abbrev pub c_hops : List Hop → List (List ℕ) → List LgmHop
c_hops hops payloads = map (λ (pair : Hop × List ℕ). c_hop pair.0 pair.1) (zip hops payloads)

-- payloads, one after the other
abbrev pub all_payloads : List (List ℕ) → List ℕ
all_payloads payloads = flat_map (λ payload. payload) payloads

-- the caller's buffers, and the lengths that are written
pub record Buffers : Type 0 where
  pub hops : List LgmHop
  pub payloads : List ℕ
  pub lengths : LgmLengths

abbrev pub buffers : List LgmHop → List ℕ → LgmLengths → Buffers
buffers hops payloads lengths = record { hops = hops; payloads = payloads; lengths = lengths }

abbrev pub lengths_of : List LgmHop → List ℕ → LgmLengths
lengths_of hops payloads = record { hops = length hops; payloads = length payloads }

-- the number for a route that was written: 27 if it may not be the best one
abbrev pub number_written : Bool → ℕ
number_written true = 0
number_written false = 27

-- what a call returns that writes a route
abbrev pub status_as : {A : Type 0} → ℕ → Result A Fault → ℕ
status_as number (Ok answer) = number
status_as number (Err fault) = number_of fault

-- hops and payloads were written, and this number returned, or only their lengths if a buffer is too short
abbrev pub AreWritten : ℕ → List LgmHop → List ℕ → ℕ → Buffers → Buffers → Type 0
AreWritten number hops payloads status old new =
    (new.lengths ≡ lengths_of hops payloads)
    × (((status ≡ number) × (new.hops ≡ in_front hops old.hops) × (new.payloads ≡ in_front payloads old.payloads))
    ⊎ ((status ≡ number_of faults.Room)
    × ((length old.hops < length hops) ⊎ (length old.payloads < length payloads))
    × (new.hops ≡ old.hops) × (new.payloads ≡ old.payloads)))

-- so were those of a route
abbrev pub IsRouteWritten : ℕ → List Hop → List ℕ → ℕ → Buffers → Buffers → Type 0
IsRouteWritten number hops secret status old new =
    AreWritten number (c_hops hops (payloads_of secret hops)) (all_payloads (payloads_of secret hops)) status old new

-- the same, or out of memory
abbrev pub WritesHops : ℕ → List Hop → List ℕ → ℕ → Buffers → Buffers → Type 0
WritesHops number hops secret status old new =
    IsRouteWritten number hops secret status old new ⊎ ((status ≡ no_memory) × (new ≡ old))

-- a route was written with its payloads, or the fault was returned
abbrev pub WritesFound : Result (List Hop) Fault → List ℕ → ℕ → Buffers → Buffers → Type 0
WritesFound (Ok hops) secret status old new = IsRouteWritten (number_written true) hops secret status old new
WritesFound (Err fault) secret status old new = (status ≡ number_of fault) × (new ≡ old)

-- the same, or out of memory; a fault that takes no search is returned even if memory is short
abbrev pub WritesRoute : Result (List Hop) Fault → List ℕ → ℕ → Buffers → Buffers → Type 0
WritesRoute answer secret status old new =
    WritesFound answer secret status old new ⊎ (IsSearched answer × (status ≡ no_memory) × (new ≡ old))

-- the same, or the search stopped, where it may: then a route that may not be the best one was written, or there was none
abbrev pub WritesSoFar : Result (List Hop) Fault → Type 0 → (List Hop → Type 0) → List ℕ → ℕ → Buffers → Buffers → Type 0
WritesSoFar answer stops is_route secret status old new =
    WritesRoute answer secret status old new
    ⊎ (IsSearched answer × stops × (((status ≡ number_of faults.Undecided) × (new ≡ old))
    ⊎ ((hops : List Hop) × is_route hops × IsRouteWritten (number_written false) hops secret status old new)))
