-- What a verifier needs of a message, as C gets it.
use Rattle.std.specs.Prelude.{◌≡◌, ◌⊎◌, ℕ, ◌/◌, ◌%◌, ◌^◌, Bool, false, is_some, List, replicate, unwrap_or, Result, Ok, Err}
use Rattle.lgm_gossip.specs.Memory.{TakesMemory}
use Rattle.lgm_check.specs.declared.refusal.Refusal.{Refusal}
use Rattle.lgm_sync.specs.declared.signed_message.SignedMessage.{SignedMessage}
use Rattle.lgm_sync.specs.declared.signed_message.Signers.{Signers}
use Rattle.lgm_sync.specs.declared.signed_message.Signers.TheVariants as signers
use Rattle.lgm_sync.specs.SignedMessage.{signature_count, signed_from, signed_read}
use Rattle.lgm_c.specs.declared.reads.LgmSigned.{LgmSigned}
use Rattle.lgm_c.specs.declared.fault.Fault.{Fault}
use Rattle.lgm_c.specs.Status.{refused, no_memory, Finds}

-- no key
abbrev pub no_key : List ℕ
no_key = replicate 33 0

-- the keys of a message's signatures, in their order
abbrev pub key_1 : Signers → List ℕ
key_1 (signers.Channel keys) = keys.node_1.0
key_1 (signers.Node key) = key.0
key_1 _ = no_key

abbrev pub key_2 : Signers → List ℕ
key_2 (signers.Channel keys) = keys.node_2.0
key_2 _ = no_key

abbrev pub key_3 : Signers → List ℕ
key_3 (signers.Channel keys) = keys.bitcoin_1.0
key_3 _ = no_key

abbrev pub key_4 : Signers → List ℕ
key_4 (signers.Channel keys) = keys.bitcoin_2.0
key_4 _ = no_key

-- whether node 2 of the channel signed it, of an update
abbrev pub is_second : Signers → Bool
is_second (signers.Setter second) = second
is_second _ = false

-- with the parts of this id
abbrev pub with_id : ℕ → SignedMessage → LgmSigned
with_id id message = record {
  scid = id;
  block = id / 2 ^ 40;
  transaction = id / 2 ^ 16 % 2 ^ 24;
  output = id % 2 ^ 16;
  kind = message.kind;
  has_scid = is_some message.scid;
  is_second = is_second message.signers;
  signatures = signature_count message.signers;
  signed_from = signed_from message;
  key_1 = key_1 message.signers;
  key_2 = key_2 message.signers;
  key_3 = key_3 message.signers;
  key_4 = key_4 message.signers;
}

-- a message; its id is 0 if it is of no channel
abbrev pub c_signed : SignedMessage → LgmSigned
c_signed message = with_id (unwrap_or message.scid 0) message

abbrev pub signed_or : Result SignedMessage Refusal → Result LgmSigned Fault
signed_or (Ok message) = Ok (c_signed message)
signed_or (Err refusal) = Err (refused refusal)

-- that of these bytes was written, or the refusal of bytes that are no message was returned; memory may run out only if
-- decoding them allocates
abbrev pub Reads : List ℕ → ℕ → LgmSigned → LgmSigned → Type 0
Reads bytes status old new =
    Finds (signed_or (signed_read bytes)) status old new ⊎ (TakesMemory bytes × (status ≡ no_memory) × (new ≡ old))
