-- What the payee gets beside the route, as C says it, and what is written of it.
use Rattle.std.specs.Prelude.{◌≡◌, ◌⊎◌, ℕ, ◌≤◌, List, [], ◌∷◌, map, length, Option, Some, None, Result, Ok, Err}
use Rattle.lgm_wire.specs.Tlv.{TlvRecord}
use Rattle.lgm_graph.specs.declared.route.Hop.{Hop}
use Rattle.lgm_payload.specs.Arrival.{ArrivalParts}
use Rattle.lgm_payload.specs.Building.{built_for}
use Rattle.lgm_payload.specs.declared.arrival_fault.ArrivalFault.{ArrivalFault}
use Rattle.lgm_c.specs.declared.arrival.LgmArrival.{LgmArrival}
use Rattle.lgm_c.specs.declared.arrival.LgmRecord.{LgmRecord}
use Rattle.lgm_c.specs.declared.routes.LgmHop.{LgmHop}
use Rattle.lgm_c.specs.declared.argument_fault.ArgumentFault.TheVariants as wrong
use Rattle.lgm_c.specs.declared.fault.Fault.{Fault}
use Rattle.lgm_c.specs.declared.fault.Fault.TheVariants as faults
use Rattle.lgm_c.specs.Routing.{Buffers, AreWritten, c_hops, all_payloads}
use Rattle.lgm_c.specs.Status.{number_of, no_memory, unbuilt}

-- metadata without bytes are none
abbrev pub metadata_given : List ℕ → Option (List ℕ)
metadata_given [] = None
metadata_given (b ∷ bs) = Some (b ∷ bs)

abbrev pub record_given : LgmRecord → TlvRecord
record_given r = record { kind = r.kind; value = r.value.now }

abbrev pub records_given : List LgmRecord → List TlvRecord
records_given rs = map record_given rs

abbrev pub arrival_given : LgmArrival → ArrivalParts
arrival_given arrival = record {
  secret = arrival.secret;
  total = arrival.total_msat;
  metadata = metadata_given arrival.metadata.now;
  records = records_given arrival.records.now;
}

-- a hop, without the length of a payload
abbrev pub hop_given : LgmHop → Hop
hop_given hop = record {
  scid = hop.scid;
  from = record { 0 = hop.from };
  to = record { 0 = hop.to };
  amount = hop.amount_msat;
  expiry = hop.expiry;
}

abbrev pub hops_given : List LgmHop → List Hop
hops_given hops = map hop_given hops

-- a hop begins where the one before ends, and has no greater amount and no later expiry
pub record Follows (hop next : LgmHop) : Type 0 where
  pub joined : hop.to ≡ next.from
  pub amount : next.amount_msat ≤ hop.amount_msat
  pub expiry : next.expiry ≤ hop.expiry

abbrev pub AreJoined : List LgmHop → Type 0
AreJoined [] = Unit {0}
AreJoined (hop ∷ []) = Unit {0}
AreJoined (hop ∷ next ∷ hops) = Follows hop next × AreJoined (next ∷ hops)

-- 1 to 20 hops, each of which follows the one before
pub record IsRoute (hops : List LgmHop) : Type 0 where
  pub some : 1 ≤ length hops
  pub few : length hops ≤ 20
  pub joined : AreJoined hops

-- payloads that can't be built are those of a wrong argument
abbrev pub built_or_fault : Result (List (List ℕ)) ArrivalFault → Result (List (List ℕ)) Fault
built_or_fault (Ok payloads) = Ok payloads
built_or_fault (Err reason) = Err (unbuilt reason)

-- payloads were written, with the length of each in its hop, or the fault was returned
abbrev pub WritesGiven : List Hop → Result (List (List ℕ)) ArrivalFault → ℕ → Buffers → Buffers → Type 0
WritesGiven hops (Ok payloads) status old new = AreWritten 0 (c_hops hops payloads) (all_payloads payloads) status old new
WritesGiven hops (Err reason) status old new = (status ≡ number_of (unbuilt reason)) × (new ≡ old)

-- the same, or out of memory
abbrev pub WritesBuilt : List Hop → Result (List (List ℕ)) ArrivalFault → ℕ → Buffers → Buffers → Type 0
WritesBuilt hops built status old new = WritesGiven hops built status old new ⊎ ((status ≡ no_memory) × (new ≡ old))

-- the payloads of the hops, if they are a route
abbrev pub WritesPayloads : ArrivalParts → ℕ → Buffers → Buffers → Type 0
WritesPayloads arrival status old new =
    (IsRoute old.hops × WritesBuilt (hops_given old.hops) (built_for arrival (hops_given old.hops)) status old new)
    ⊎ ((¬ IsRoute old.hops) × (status ≡ number_of (faults.Argument wrong.Hops)) × (new ≡ old))
