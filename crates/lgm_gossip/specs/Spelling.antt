-- The canonical encoding, which `encode` writes: ids after a byte 0, a record of type 1 for an option, and no other
-- record.
use Rattle.std.specs.Prelude.{◌≡◌, ℕ, ◌<◌, ◌↔◌, List, ◌++◌, length, Result, Err, IfOk}
use Rattle.std.specs.List.{flat_map}
use Rattle.std.specs.Int.{w16, to_be_bytes}
use Rattle.lgm_gossip.specs.declared.message.Message.{Message}
use Rattle.lgm_gossip.specs.declared.encode_fault.EncodeFault.{EncodeFault}
use Rattle.lgm_gossip.specs.declared.encode_fault.EncodeFault.TheVariants.{TooLong}
use Rattle.lgm_gossip.specs.Fields.{Field}
use Rattle.lgm_gossip.specs.Message.{layout, Spells}
pub use Rattle.lgm_gossip.specs.TimestampList.{pairs_text}
pub use Rattle.lgm_gossip.specs.Optional.{option_text}

-- the two bytes of the type, and the fields
abbrev pub typed : ℕ → List (List ℕ) → List ℕ
typed kind texts = to_be_bytes w16 kind ++ flat_map (λ t. t) texts

abbrev pub spelling : Message → List ℕ
spelling m = typed (layout m).kind (layout m).fields.texts

-- the result of encoding: the two bytes of the type and the texts, which encode the fields, if and only if they aren't
-- too long. A segment that exceeds its length field makes them too long.
pub record Encodes (kind : ℕ) (F : Field) (result : Result (List ℕ) EncodeFault) : Type 0 where
  pub too_long : (result ≡ Err TooLong) ↔ (65535 < length (typed kind F.texts))
  pub text : IfOk result (λ b. b ≡ typed kind F.texts)
  pub spelled : IfOk result (λ b. Spells kind F b)

-- the same for a message
abbrev pub MessageEncodes : Message → Result (List ℕ) EncodeFault → Type 0
MessageEncodes m = Encodes (layout m).kind (layout m).fields
