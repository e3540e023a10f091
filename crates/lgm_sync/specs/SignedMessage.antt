-- What a verifier needs of a message: which keys signed it, and which bytes.
use Rattle.std.specs.Prelude.{◌≡◌, ℕ, ◌+◌, ◌*◌, ◌%◌, ◌==◌, List, [], ◌∷◌, ◌++◌, length, take, drop, Option, Some, None, Result, Ok, Err}
use Rattle.std.specs.List.{AllByRecursion, flat_map}
use Rattle.lgm_gossip.specs.declared.announce.Announce.{Announce}
use Rattle.lgm_gossip.specs.declared.fault.DecodeFault.{DecodeFault}
use Rattle.lgm_gossip.specs.declared.message.Message.{Message}
use Rattle.lgm_gossip.specs.declared.message.Message.TheVariants as messages
use Rattle.lgm_gossip.specs.Message.{layout}
use Rattle.lgm_gossip.specs.reading.MessageReading.{message_at}
use Rattle.lgm_check.specs.Refusal.{refusal_of}
use Rattle.lgm_check.specs.declared.refusal.Refusal.{Refusal}
use Rattle.lgm_sync.specs.declared.signed_message.ChannelKeys.{ChannelKeys}
use Rattle.lgm_sync.specs.declared.signed_message.Signers.{Signers}
use Rattle.lgm_sync.specs.declared.signed_message.Signers.TheVariants as signers
use Rattle.lgm_sync.specs.declared.signed_message.SignedMessage.{SignedMessage}

-- the four keys of a channel_announcement
abbrev pub keys_of : Announce → ChannelKeys
keys_of m = record {
  node_1 = m.node_id_1;
  node_2 = m.node_id_2;
  bitcoin_1 = m.bitcoin_key_1;
  bitcoin_2 = m.bitcoin_key_2;
}

-- who signed a message
abbrev pub signers_of : Message → Signers
signers_of (messages.Announce m) = signers.Channel (keys_of m)
signers_of (messages.NodeAnnounce m) = signers.Node m.node_id
signers_of (messages.ChannelUpdate m) = signers.Setter (m.channel_flags % 2 == 1)
signers_of _ = signers.Nobody

-- the channel that it is of
abbrev pub channel_id : Message → Option ℕ
channel_id (messages.Announce m) = Some m.short_channel_id
channel_id (messages.ChannelUpdate m) = Some m.short_channel_id
channel_id _ = None

abbrev pub signed_message : Message → SignedMessage
signed_message m = record { kind = (layout m).kind; scid = channel_id m; signers = signers_of m }

-- the message of some bytes, or the refusal of bytes that are none
abbrev pub signed_in : Result Message DecodeFault → Result SignedMessage Refusal
signed_in (Ok m) = Ok (signed_message m)
signed_in (Err fault) = Err (refusal_of fault)

abbrev pub signed_read : List ℕ → Result SignedMessage Refusal
signed_read bytes = signed_in (message_at bytes)

-- ---- where signatures stand

-- how many there are
abbrev pub signature_count : Signers → ℕ
signature_count (signers.Channel keys) = 4
signature_count (signers.Node key) = 1
signature_count (signers.Setter second) = 1
signature_count signers.Nobody = 0

-- where the one at a place begins: behind the two bytes of the type, and those before it, each of 64 bytes
abbrev pub signature_at : ℕ → ℕ
signature_at place = 2 + 64 * place

-- where the bytes begin that are signed, up to the end: behind the signatures
abbrev pub signed_from : SignedMessage → ℕ
signed_from message = signature_at (signature_count message.signers)

-- the signatures of a message
abbrev pub signatures_of : Message → List (List ℕ)
signatures_of (messages.Announce m) =
    m.node_signature_1 ∷ m.node_signature_2 ∷ m.bitcoin_signature_1 ∷ m.bitcoin_signature_2 ∷ []
signatures_of (messages.NodeAnnounce m) = m.signature ∷ []
signatures_of (messages.ChannelUpdate m) = m.signature ∷ []
signatures_of _ = []

-- the bytes of a message are the two of its type, its signatures, each of 64 bytes, and the bytes that are signed
pub record IsSigned (message : Message) (bytes : List ℕ) : Type 0 where
  pub whole : bytes ≡ take 2 bytes ++ (flat_map (λ signature. signature) (signatures_of message)
      ++ drop (signed_from (signed_message message)) bytes)
  pub long : AllByRecursion (λ signature. length signature ≡ 64) (signatures_of message)
  pub count : length (signatures_of message) ≡ signature_count (signers_of message)
