-- Which bytes encode which message, as `decode` promises; the modules named Reading define the order of parsing.
use Rattle.std.specs.Prelude.{◌≡◌, ℕ, ◌≤◌, List, ◌++◌, length}
use Rattle.std.specs.Int.{w16, to_be_bytes}
use Rattle.lgm_gossip.specs.declared.message.Message.{Message}
use Rattle.lgm_gossip.specs.declared.message.Message.TheVariants as messages
use Rattle.lgm_gossip.specs.Fields.{Field}
use Rattle.lgm_gossip.specs.Announce as announce
use Rattle.lgm_gossip.specs.NodeAnnounce as node_announce
use Rattle.lgm_gossip.specs.ChannelUpdate as channel_update
use Rattle.lgm_gossip.specs.IdsQuery as ids_query
use Rattle.lgm_gossip.specs.IdsEnd as ids_end
use Rattle.lgm_gossip.specs.RangeQuery as range_query
use Rattle.lgm_gossip.specs.RangeReply as range_reply
use Rattle.lgm_gossip.specs.FilterMsg as filter_msg

-- a message's type and its fields
pub record Layout : Type 1 where
  pub kind : ℕ
  pub fields : Field

abbrev pub layout : Message → Layout
layout (messages.Announce m) = record { kind = 256; fields = announce.fields m }
layout (messages.NodeAnnounce m) = record { kind = 257; fields = node_announce.fields m }
layout (messages.ChannelUpdate m) = record { kind = 258; fields = channel_update.fields m }
layout (messages.IdsQuery m) = record { kind = 261; fields = ids_query.fields m }
layout (messages.IdsEnd m) = record { kind = 262; fields = ids_end.fields m }
layout (messages.RangeQuery m) = record { kind = 263; fields = range_query.fields m }
layout (messages.RangeReply m) = record { kind = 264; fields = range_reply.fields m }
layout (messages.FilterMsg m) = record { kind = 265; fields = filter_msg.fields m }

-- b is the two bytes of the type and an encoding of the fields, together not too long
pub record Spells (kind : ℕ) (F : Field) (b : List ℕ) : Type 0 where
  pub body : List ℕ
  pub whole : b ≡ to_be_bytes w16 kind ++ body
  pub fields : F.Is body
  pub len : length b ≤ 65535

-- b is an encoding of m
abbrev pub Wire : Message → List ℕ → Type 0
Wire m b = Spells (layout m).kind (layout m).fields b
