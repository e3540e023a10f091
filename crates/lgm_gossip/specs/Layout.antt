-- Which announcement or update bytes encode, whose fields are then at their offsets.
use Rattle.std.specs.Prelude.{◌≡◌, ◌≤◌, List, ℕ, length, Result, Ok}
use Rattle.lgm_gossip.specs.declared.fault.DecodeFault.{DecodeFault}
use Rattle.lgm_gossip.specs.declared.layout.Layout.{Layout}
use Rattle.lgm_gossip.specs.declared.layout.Layout.TheVariants as layouts
use Rattle.lgm_gossip.specs.declared.message.Message.{Message}
use Rattle.lgm_gossip.specs.declared.message.Message.TheVariants as messages
use Rattle.lgm_gossip.specs.Message.{Wire}
use Rattle.lgm_gossip.specs.reading.AnnounceReading.{announce_len, announce_in}
use Rattle.lgm_gossip.specs.reading.NodeAnnounceReading.{node_len, node_in}
use Rattle.lgm_gossip.specs.reading.ChannelUpdateReading.{update_in}
use Rattle.lgm_gossip.specs.reading.MessageReading.{message_at}

-- the bytes encode a message of its type, so they are as long as all of its fields
pub record IsAnnounce (raw : List ℕ) : Type 0 where
  pub long : announce_len raw ≤ length raw
  pub spelled : Wire (messages.Announce (announce_in raw)) raw

pub record IsNodeAnnounce (raw : List ℕ) : Type 0 where
  pub long : node_len raw ≤ length raw
  pub spelled : Wire (messages.NodeAnnounce (node_in raw)) raw

pub record IsUpdate (raw : List ℕ) : Type 0 where
  pub long : 138 ≤ length raw
  pub spelled : Wire (messages.ChannelUpdate (update_in raw)) raw

-- it announces nothing: a query, a reply, or no message
abbrev pub AnnouncesNothing : Result Message DecodeFault → Type 0
AnnouncesNothing (Ok (messages.Announce m)) = ⊥
AnnouncesNothing (Ok (messages.NodeAnnounce m)) = ⊥
AnnouncesNothing (Ok (messages.ChannelUpdate m)) = ⊥
AnnouncesNothing _ = Unit {0}

abbrev pub IsLaidOut : Layout → List ℕ → Type 0
IsLaidOut layouts.Announce raw = IsAnnounce raw × (message_at raw ≡ Ok (messages.Announce (announce_in raw)))
IsLaidOut layouts.Update raw = IsUpdate raw × (message_at raw ≡ Ok (messages.ChannelUpdate (update_in raw)))
IsLaidOut layouts.Node raw = IsNodeAnnounce raw × (message_at raw ≡ Ok (messages.NodeAnnounce (node_in raw)))
IsLaidOut layouts.Other raw = AnnouncesNothing (message_at raw)
