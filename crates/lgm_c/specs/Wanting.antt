-- Whether a message is worth verifying: whether it would be accepted with the right verdicts.
use Rattle.std.specs.Prelude.{◌≡◌, ◌⊎◌, ℕ, ◌%◌, ◌==◌, if◌then◌else◌, Bool, true, List, Option, Some, None, Result, Ok, Err}
use Rattle.lgm_wire.specs.declared.chain_hash.ChainHash.{ChainHash}
use Rattle.lgm_wire.specs.declared.point.Point.{Point}
use Rattle.lgm_gossip.specs.Memory.{TakesMemory}
use Rattle.lgm_gossip.specs.declared.fault.DecodeFault.{DecodeFault}
use Rattle.lgm_gossip.specs.declared.message.Message.{Message}
use Rattle.lgm_gossip.specs.declared.message.Message.TheVariants as messages
use Rattle.lgm_gossip.specs.reading.MessageReading.{message_at}
use Rattle.lgm_check.specs.declared.evidence.Evidence.{Evidence}
use Rattle.lgm_check.specs.declared.evidence.Sig.{Sig}
use Rattle.lgm_check.specs.declared.evidence.Sig.TheVariants as sigs
use Rattle.lgm_check.specs.declared.evidence.Funding.TheVariants as fundings
use Rattle.lgm_check.specs.declared.refusal.Refusal.{Refusal}
use Rattle.lgm_check.specs.declared.row.ChannelRow.{ChannelRow}
use Rattle.lgm_store.specs.declared.op.Op.{Op}
use Rattle.lgm_store.specs.Rows.{Rows, channel_of}
use Rattle.lgm_c.specs.declared.fault.Fault.TheVariants as faults
use Rattle.lgm_c.specs.MapState.{MapState}
use Rattle.lgm_c.specs.Offering.{offered_to}
use Rattle.lgm_c.specs.Status.{number_of, no_memory, refused}

-- all four signatures are valid, and the output is unspent, with however many satoshi
abbrev pub all_right : Evidence
all_right = record { sig = sigs.AllFour true; funding = fundings.Unspent 0 }

-- the one signature is valid for a key
abbrev pub signed_by : Point → Evidence
signed_by point = record { sig = sigs.By point; funding = fundings.NotAsked }

-- the node that sets the terms of a direction, if the channel is there
abbrev pub setter_in : Option ChannelRow → Bool → Point → Point
setter_in (Some row) second other = if second then row.message.node_id_2 else row.message.node_id_1
setter_in None second other = other

-- the right verdicts on a message; the other key where it decides nothing
abbrev pub right_on : Rows → Message → Point → Evidence
right_on rows (messages.Announce m) other = all_right
right_on rows (messages.ChannelUpdate m) other =
    signed_by (setter_in (channel_of rows.channels m.short_channel_id) (m.channel_flags % 2 == 1) other)
right_on rows (messages.NodeAnnounce m) other = signed_by m.node_id
right_on rows _ other = signed_by other

abbrev pub right_of : Rows → Result Message DecodeFault → Point → Evidence
right_of rows (Ok m) other = right_on rows m other
right_of rows (Err fault) other = signed_by other

abbrev pub right_verdicts : Rows → List ℕ → Point → Evidence
right_verdicts rows bytes other = right_of rows (message_at bytes) other

-- the key whose signature is to be verified, if there is one
abbrev pub key_in : Sig → Point → Point
key_in (sigs.By point) other = point
key_in _ other = other

-- the outcome of offering a message with the right verdicts
abbrev pub wanted : ChainHash → Rows → List ℕ → Point → Result Op Refusal
wanted chain rows bytes other = offered_to chain rows bytes (right_verdicts rows bytes other)

-- an outcome is a refusal
abbrev pub IsRefused : Result Op Refusal → Type 0
IsRefused (Ok op) = ⊥
IsRefused (Err refusal) = Unit {0}

-- where this outcome is one, the message is refused whatever the verdicts are
abbrev pub IsRefusedAlways : ChainHash → Rows → List ℕ → Result Op Refusal → Type 0
IsRefusedAlways chain rows bytes (Ok op) = Unit {0}
IsRefusedAlways chain rows bytes (Err refusal) = (evidence : Evidence) → IsRefused (offered_to chain rows bytes evidence)

-- no verdicts mend the refusal of a message that isn't wanted
abbrev pub NoneMends : List ℕ → List ℕ → Option MapState → Type 0
NoneMends bytes old None = Unit {0}
NoneMends bytes old (Some state) =
    IsRefusedAlways state.chain state.rows bytes (wanted state.chain state.rows bytes (record { 0 = old }))

-- the message is wanted, and the key was written; or its refusal was returned
abbrev pub Tells : Result Op Refusal → Point → ℕ → List ℕ → List ℕ → Type 0
Tells (Ok op) key status old new = (status ≡ 0) × (new ≡ key.0)
Tells (Err refusal) key status old new = (status ≡ number_of (refused refusal)) × (new ≡ old)

-- the same of the rows of a map; memory may run out only if decoding the message allocates
abbrev pub TellsOf : List ℕ → ChainHash → Rows → ℕ → List ℕ → List ℕ → Type 0
TellsOf bytes chain rows status old new =
    Tells (wanted chain rows bytes (record { 0 = old }))
    (key_in (right_verdicts rows bytes (record { 0 = old })).sig (record { 0 = old })) status old new
    ⊎ (TakesMemory bytes × (status ≡ no_memory) × (new ≡ old))

abbrev pub Wants : List ℕ → Option MapState → ℕ → List ℕ → List ℕ → Type 0
Wants bytes None status old new = (status ≡ number_of faults.Closed) × (new ≡ old)
Wants bytes (Some state) status old new = TellsOf bytes state.chain state.rows status old new
