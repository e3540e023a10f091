-- What a map lacks of a peer's, and the messages that ask for it, as C has them.
use Rattle.std.specs.Prelude.{◌≡◌, ◌⊎◌, ℕ, ◌<◌, List, length, map, take, Option, Some, None, Result, Ok, Err}
use Rattle.lgm_wire.specs.declared.chain_hash.ChainHash.{ChainHash}
use Rattle.lgm_gossip.specs.Memory.{TakesMemory}
use Rattle.lgm_gossip.specs.RangeReply.{ReplyFields}
use Rattle.lgm_gossip.specs.Spelling.{spelling}
use Rattle.lgm_store.specs.Rows.{Rows}
use Rattle.lgm_sync.specs.Asking.{range_asked, ids_asked, filter_asked}
use Rattle.lgm_sync.specs.Covered.{covered_by}
use Rattle.lgm_sync.specs.Lacking.{lacking_of}
use Rattle.lgm_sync.specs.Reply.{reply_read}
use Rattle.lgm_sync.specs.declared.lacking.Lacking.{Lacking}
use Rattle.lgm_sync.specs.declared.reply.ReplyFault.{ReplyFault}
use Rattle.lgm_sync.specs.declared.reply.ReplyFault.TheVariants as replies
use Rattle.lgm_c.specs.declared.fault.Fault.{Fault}
use Rattle.lgm_c.specs.declared.fault.Fault.TheVariants as faults
use Rattle.lgm_c.specs.declared.syncing.LgmLacking.{LgmLacking}
use Rattle.lgm_c.specs.MapState.{MapState}
use Rattle.lgm_c.specs.Status.{number_of, no_memory, refused, Finds, MayRunOut}
use Rattle.lgm_c.specs.Writing.{Buffer, IsWritten, in_front}

-- ---- messages that ask

-- the bytes of the message that asks for the ids of the channels of some blocks
unfoldable pub range_query : ℕ → ℕ → ChainHash → List ℕ
range_query first_block blocks chain = spelling (range_asked chain first_block blocks)

-- of the one that asks for gossip with timestamps from the first one on, for so many seconds
unfoldable pub filter_message : ℕ → ℕ → ChainHash → List ℕ
filter_message first seconds chain = spelling (filter_asked chain first seconds)

-- the bytes of a message for a chain were written, or their length alone, or memory ran out
abbrev pub AsksIn : (ChainHash → List ℕ) → ℕ → ChainHash → Buffer → Buffer → Type 0
AsksIn message status chain old new = IsWritten (message chain) status old new ⊎ ((status ≡ no_memory) × (new ≡ old))

-- the same for the chain of a handle; a closed one has only its fault
abbrev pub Asks : (ChainHash → List ℕ) → ℕ → Option MapState → Buffer → Buffer → Type 0
Asks message status None old new = (status ≡ number_of faults.Closed) × (new ≡ old)
Asks message status (Some state) old new = AsksIn message status state.chain old new

-- ---- what is lacking

-- a channel of which messages are lacking, as C gets it, and as it gives it back
abbrev pub c_lacking : Lacking → LgmLacking
c_lacking it =
    record { scid = it.scid; timestamp_1 = it.times.node_1; timestamp_2 = it.times.node_2; flags = it.flags }

abbrev pub lacking_given : LgmLacking → Lacking
lacking_given it =
    record { scid = it.scid; flags = it.flags; times = record { node_1 = it.timestamp_1; node_2 = it.timestamp_2 } }

abbrev pub all_given : List LgmLacking → List Lacking
all_given = map lacking_given

-- the bytes of the message that asks for what is lacking of these channels, at most as many as fit it
unfoldable pub ids_query : List LgmLacking → ChainHash → List ℕ
ids_query lacking chain = spelling (ids_asked chain (take 7000 (all_given lacking)))

-- why a message isn't a reply to a query of a range
abbrev pub unreplied : ReplyFault → Fault
unreplied (replies.Refused refusal) = refused refusal
unreplied replies.NotReply = faults.NotReply

-- what follows from a reply, or why there is none
abbrev pub of_reply : {A : Type 0} → Result ReplyFields ReplyFault → (ReplyFields → A) → Result A Fault
of_reply (Ok reply) answer = Ok (answer reply)
of_reply (Err fault) answer = Err (unreplied fault)

-- what is lacking of the channels in a reply
abbrev pub lacking_told : Rows → ReplyFields → List LgmLacking
lacking_told rows reply = map c_lacking (lacking_of rows reply)

abbrev pub lacking_answer : List ℕ → ChainHash → Rows → Result (List LgmLacking) Fault
lacking_answer bytes chain rows = of_reply (reply_read chain bytes) (lacking_told rows)

abbrev pub covered_answer : List ℕ → ChainHash → ℕ → Result ℕ Fault
covered_answer bytes chain next = of_reply (reply_read chain bytes) (covered_by chain next)

-- a buffer of channels, and how many there are
pub record Channels : Type 0 where
  pub room : List LgmLacking
  pub needed : ℕ

abbrev pub channels : List LgmLacking → ℕ → Channels
channels room needed = record { room = room; needed = needed }

-- the channels were written, or only how many there are if the buffer is too short
abbrev pub AreWritten : List LgmLacking → ℕ → Channels → Channels → Type 0
AreWritten found status old new =
    (new.needed ≡ length found)
    × (((status ≡ 0) × (new.room ≡ in_front found old.room))
    ⊎ ((status ≡ number_of faults.Room) × (length old.room < length found) × (new.room ≡ old.room)))

-- they were, or the fault was returned
abbrev pub WritesLacking : Result (List LgmLacking) Fault → ℕ → Channels → Channels → Type 0
WritesLacking (Ok found) status old new = AreWritten found status old new
WritesLacking (Err fault) status old new = (status ≡ number_of fault) × (new ≡ old)

-- the same, or memory ran out: where a fault is returned, only if decoding the message allocates
abbrev pub TellsLacking : List ℕ → Result (List LgmLacking) Fault → ℕ → Channels → Channels → Type 0
TellsLacking message answer status old new =
    WritesLacking answer status old new ⊎ (MayRunOut (TakesMemory message) answer × (status ≡ no_memory) × (new ≡ old))

abbrev pub Lacks : List ℕ → ℕ → Option MapState → Channels → Channels → Type 0
Lacks message status None old new = WritesLacking (Err faults.Closed) status old new
Lacks message status (Some state) old new =
    TellsLacking message (lacking_answer message state.chain state.rows) status old new

-- the block up to which a range is covered becomes that with the reply, or memory ran out
abbrev pub TellsCovered : List ℕ → Result ℕ Fault → ℕ → ℕ → ℕ → Type 0
TellsCovered message answer status old new =
    Finds answer status old new ⊎ (MayRunOut (TakesMemory message) answer × (status ≡ no_memory) × (new ≡ old))

abbrev pub Covers : List ℕ → ℕ → Option MapState → ℕ → ℕ → Type 0
Covers message status None old new = (status ≡ number_of faults.Closed) × (new ≡ old)
Covers message status (Some state) old new = TellsCovered message (covered_answer message state.chain old) status old new
