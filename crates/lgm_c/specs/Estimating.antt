-- What a payer has learnt of edges, as C says it and gets it.
use Rattle.std.specs.Prelude.{◌≡◌, ◌⊎◌, ℕ, Bool, true, false, is_some, List, length, slice_get, Option, Some, None, Result, Ok, Err}
use Rattle.lgm_wire.specs.declared.point.Point.{Point}
use Rattle.lgm_graph.specs.Estimates.{Entries, IsEstimated, IsForgotten, carried, estimate_of, failed, known_of}
use Rattle.lgm_graph.specs.declared.estimate.EdgeKey.{EdgeKey}
use Rattle.lgm_graph.specs.declared.estimate.Estimate.{Estimate}
use Rattle.lgm_c.specs.declared.estimates.LgmEstimate.{LgmEstimate}
use Rattle.lgm_c.specs.declared.fault.Fault.{Fault}
use Rattle.lgm_c.specs.declared.fault.Fault.TheVariants as faults
use Rattle.lgm_c.specs.Status.{number_of, no_memory}

abbrev pub estimate_given : LgmEstimate → Estimate
estimate_given estimate =
    record { least = estimate.least_msat; most = estimate.most_msat; penalty = estimate.penalty_msat }

abbrev pub c_estimate : Estimate → LgmEstimate
c_estimate estimate =
    record { least_msat = estimate.least; most_msat = estimate.most; penalty_msat = estimate.penalty }

abbrev pub point_of : List ℕ → Point
point_of bytes = record { 0 = bytes }

-- what is believed of the edge with an id out of a node, of which something is known or nothing
abbrev pub estimate_found : ℕ → List ℕ → Entries → Result LgmEstimate Fault
estimate_found id from entries = Ok (c_estimate (estimate_of entries id (point_of from)))

-- an edge, and what is believed of it
pub record NamedEstimate : Type 0 where
  pub scid : ℕ
  pub from : List ℕ
  pub estimate : LgmEstimate

abbrev pub named : ℕ → List ℕ → LgmEstimate → NamedEstimate
named scid from estimate = record { scid = scid; from = from; estimate = estimate }

abbrev pub entry_found : Option (EdgeKey × Estimate) → Result NamedEstimate Fault
entry_found (Some entry) = Ok (named entry.0.scid entry.0.from.0 (c_estimate entry.1))
entry_found None = Err faults.None

-- the edge at a place among those of which something is known
abbrev pub entry_at : ℕ → Entries → Result NamedEstimate Fault
entry_at place entries = entry_found (slice_get entries place)

-- the number of edges of which something is known: 0 of a closed handle
abbrev pub count_of : Option Entries → ℕ
count_of None = 0
count_of (Some entries) = length entries

-- ---- calls that change what is known of an edge

-- something is known of it, and of the others what was, unless memory runs out: only where nothing was known of it
abbrev pub LearnsIn : ℕ → Point → Estimate → ℕ → Entries → Option Entries → Type 0
LearnsIn id from estimate status old None = ⊥
LearnsIn id from estimate status old (Some new) =
    ((status ≡ 0) × IsEstimated old id from estimate new)
    ⊎ ((status ≡ no_memory) × (is_some (known_of old id from) ≡ false) × (new ≡ old))

-- what is believed becomes this; a closed handle has only its fault
abbrev pub Learns : ℕ → List ℕ → (Estimate → Estimate) → ℕ → Option Entries → Option Entries → Type 0
Learns id from learnt status None new = (status ≡ number_of faults.Closed) × (new ≡ None)
Learns id from learnt status (Some old) new =
    LearnsIn id (point_of from) (learnt (estimate_of old id (point_of from))) status old new

abbrev pub Sets : ℕ → List ℕ → LgmEstimate → ℕ → Option Entries → Option Entries → Type 0
Sets id from estimate = Learns id from (λ _. estimate_given estimate)

abbrev pub Carries : ℕ → List ℕ → ℕ → ℕ → Option Entries → Option Entries → Type 0
Carries id from amount = Learns id from (carried amount)

abbrev pub FailsAt : ℕ → List ℕ → ℕ → ℕ → Option Entries → Option Entries → Type 0
FailsAt id from amount = Learns id from (failed amount)

-- nothing is known of it, and of the others what was; if nothing was known of it, that is the fault
abbrev pub ForgetsIf : Bool → ℕ → Point → ℕ → Entries → Option Entries → Type 0
ForgetsIf known id from status old None = ⊥
ForgetsIf true id from status old (Some new) = (status ≡ 0) × IsForgotten old id from new
ForgetsIf false id from status old (Some new) = (status ≡ number_of faults.None) × (new ≡ old)

abbrev pub Forgets : ℕ → List ℕ → ℕ → Option Entries → Option Entries → Type 0
Forgets id from status None new = (status ≡ number_of faults.Closed) × (new ≡ None)
Forgets id from status (Some old) new =
    ForgetsIf (is_some (known_of old id (point_of from))) id (point_of from) status old new
