-- reply_channel_range: its fields.
use Rattle.std.specs.Prelude.{ℕ, List, length, Option}
use Rattle.std.specs.Int.{w8, w32}
use Rattle.lgm_wire.specs.declared.chain_hash.ChainHash.{ChainHash}
use Rattle.lgm_gossip.specs.declared.timestamps.Timestamps.{Timestamps}
use Rattle.lgm_gossip.specs.Fields.{Field, ◌⌢◌, fixed, number}
use Rattle.lgm_gossip.specs.EncodedIds.{encoded_ids}
use Rattle.lgm_gossip.specs.Optional.{optional}
use Rattle.lgm_gossip.specs.TimestampList.{pairs_text, IsTimestampList}

-- what contracts see of the message
pub record ReplyFields : Type 0 where
  pub chain_hash : ChainHash
  pub first_blocknum : ℕ
  pub number_of_blocks : ℕ
  pub sync_complete : ℕ
  pub ids : List ℕ
  pub timestamps : Option (List Timestamps)

abbrev pub fields : ReplyFields → Field
fields m =
    fixed 32 m.chain_hash.0
    ⌢ number w32 m.first_blocknum
    ⌢ number w32 m.number_of_blocks
    ⌢ number w8 m.sync_complete
    ⌢ encoded_ids m.ids
    ⌢ optional (IsTimestampList (length m.ids)) pairs_text m.timestamps
