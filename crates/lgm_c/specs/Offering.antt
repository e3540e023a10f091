-- What offering a message or a close does to the state of a handle.
use Rattle.std.specs.Prelude.{◌≡◌, ◌⊎◌, ℕ, not, List, Option, Some, Result, Ok, Err}
use Rattle.lgm_wire.specs.reading.Reading.{◌>>=◌}
use Rattle.lgm_wire.specs.declared.chain_hash.ChainHash.{ChainHash}
use Rattle.lgm_wire.specs.declared.point.Point.{Point}
use Rattle.lgm_gossip.specs.Memory.{TakesMemory}
use Rattle.lgm_check.specs.declared.refusal.Refusal.{Refusal}
use Rattle.lgm_check.specs.declared.evidence.Evidence.{Evidence}
use Rattle.lgm_check.specs.declared.refusal.Refusal.TheVariants as refusals
use Rattle.lgm_check.specs.declared.row.BanRow.{BanRow}
use Rattle.lgm_check.specs.Precheck.{checked_of, require}
use Rattle.lgm_store.specs.declared.op.Op.{Op}
use Rattle.lgm_store.specs.declared.op.Op.TheVariants as ops
use Rattle.lgm_store.specs.Rows.{Rows, is_banned}
use Rattle.lgm_store.specs.Admission.{admitted, admitted_close}
use Rattle.lgm_store.specs.History.{absorbed}
use Rattle.lgm_c.specs.declared.argument_fault.ArgumentFault.{ArgumentFault}
use Rattle.lgm_c.specs.declared.fault.Fault.TheVariants as faults
use Rattle.lgm_c.specs.Changing.{Changes}
use Rattle.lgm_c.specs.MapState.{MapState, next_version}
use Rattle.lgm_c.specs.Status.{number_of, no_memory, refused, MayRunOut}

-- the operation of a message on these rows, or its first refusal
abbrev pub offered_to : ChainHash → Rows → List ℕ → Evidence → Result Op Refusal
offered_to chain rows bytes evidence = checked_of chain bytes evidence >>= admitted rows

-- the state after an outcome: its operation was applied and counted, and nothing else changed
abbrev pub state_behind : MapState → Result Op Refusal → MapState
state_behind state (Ok op) = record state { rows = absorbed state.rows op; version = next_version state.version }
state_behind state (Err refusal) = state

abbrev pub outcome_number : Result Op Refusal → ℕ
outcome_number (Ok op) = 0
outcome_number (Err refusal) = number_of (refused refusal)

-- a call returns the number of the outcome and applies it; or it runs out of memory and changes nothing
abbrev pub Does : Type 0 → Result Op Refusal → MapState → ℕ → Option MapState → Type 0
Does takes outcome old status new =
    ((status ≡ outcome_number outcome) × (new ≡ Some (state_behind old outcome)))
    ⊎ (MayRunOut takes outcome × (status ≡ no_memory) × (new ≡ Some old))

-- a message is offered to a map, with the verdicts on it if the numbers stand for some; a refusal is returned even if
-- memory is short, unless decoding the message allocates
abbrev pub OffersTo : List ℕ → Result Evidence ArgumentFault → MapState → ℕ → Option MapState → Type 0
OffersTo bytes (Err wrong) old status new = (status ≡ number_of (faults.Argument wrong)) × (new ≡ Some old)
OffersTo bytes (Ok evidence) old status new =
    Does (TakesMemory bytes) (offered_to old.chain old.rows bytes evidence) old status new

abbrev pub Offers : List ℕ → Result Evidence ArgumentFault → ℕ → Option MapState → Option MapState → Type 0
Offers bytes evidence = Changes (OffersTo bytes evidence)

-- a channel is closed; a refusal allocates nothing
abbrev pub Closes : ℕ → ℕ → Option MapState → Option MapState → Type 0
Closes id = Changes (λ old status new. Does ⊥ (admitted_close old.rows id) old status new)

-- the ban of one node, as that of the nodes of two announcements
abbrev pub ban_of : Point → BanRow
ban_of point = record { held1 = point; held2 = point; new1 = point; new2 = point }

-- the operation that bans a node, unless it is banned
abbrev pub admitted_ban : Rows → Point → Result Op Refusal
admitted_ban rows point =
    require (not (is_banned rows.banned point)) refusals.Banned >>= λ _. Ok (ops.Ban (ban_of point))

-- a node is banned; a refusal allocates nothing
abbrev pub Bans : List ℕ → ℕ → Option MapState → Option MapState → Type 0
Bans point = Changes (λ old status new. Does ⊥ (admitted_ban old.rows (record { 0 = point })) old status new)
