-- query_short_channel_ids: its fields.
use Rattle.std.specs.Prelude.{ℕ, List, length, Option}
use Rattle.lgm_wire.specs.declared.chain_hash.ChainHash.{ChainHash}
use Rattle.lgm_gossip.specs.Fields.{Field, ◌⌢◌, fixed}
use Rattle.lgm_gossip.specs.EncodedIds.{encoded_ids}
use Rattle.lgm_gossip.specs.Optional.{optional}
use Rattle.lgm_gossip.specs.QueryFlags.{flags_text, IsQueryFlags}

-- what contracts see of the message
pub record Query : Type 0 where
  pub chain_hash : ChainHash
  pub ids : List ℕ
  pub flags : Option (List ℕ)

abbrev pub fields : Query → Field
fields m =
    fixed 32 m.chain_hash.0
    ⌢ encoded_ids m.ids
    ⌢ optional (IsQueryFlags (length m.ids)) flags_text m.flags
