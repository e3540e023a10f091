-- What messages are about: the bytes of a row are about its key.
use Rattle.std.proofs.Common.{◌≡◌, ℕ, List, Result, Ok, ap}
use Rattle.std.specs.List.{AllByRecursion}
use Rattle.lgm_wire.specs.declared.point.Point.{Point}
use Rattle.lgm_gossip.specs.declared.fault.DecodeFault.{DecodeFault}
use Rattle.lgm_gossip.specs.declared.message.Message.{Message}
use Rattle.lgm_gossip.specs.declared.message.Message.TheVariants as messages
use Rattle.lgm_gossip.specs.reading.MessageReading.{message_at}
use Rattle.lgm_gossip.specs.Message.{Wire}
use Rattle.lgm_gossip.proofs.MessageLaws.{message_again}
use Rattle.lgm_store.specs.Rows.{Rows}
use Rattle.lgm_store.specs.Spelled.{AreSpelled}
use Rattle.lgm_store.proofs.ListLaws.{All-to}

-- what a message is about: a channel, a node or neither
pub data Subject : Type 0 where
  of_channel : ℕ → Subject
  of_node : Point → Subject
  of_neither : Subject

abbrev pub subject_in : Result Message DecodeFault → Subject
subject_in (Ok (messages.Announce m)) = of_channel m.short_channel_id
subject_in (Ok (messages.ChannelUpdate m)) = of_channel m.short_channel_id
subject_in (Ok (messages.NodeAnnounce m)) = of_node m.node_id
subject_in _ = of_neither

unfoldable pub subject_of : List ℕ → Subject
subject_of bytes = subject_in (message_at bytes)

-- the bytes of each row are about its key
pub record TellKeys (rows : Rows) : Type 0 where
  pub channels : AllByRecursion
      (λ row. subject_of row.raw ≡ of_channel row.message.short_channel_id) rows.channels
  pub updates : AllByRecursion
      (λ row. subject_of row.raw ≡ of_channel row.message.short_channel_id) rows.updates
  pub nodes : AllByRecursion (λ row. subject_of row.raw ≡ of_node row.message.node_id) rows.nodes

-- bytes are about what they encode
subject_is : (m : Message) (bytes : List ℕ) → Wire m bytes → subject_of bytes ≡ subject_in (Ok m)
unfolding subject_of
subject_is m bytes wire = ap subject_in (message_again bytes m wire)

pub spelled_tell : (rows : Rows) → AreSpelled rows → TellKeys rows
spelled_tell rows spelled = record {
  channels = All-to _ _ rows.channels (λ row wire. subject_is (messages.Announce row.message) row.raw wire) spelled.channels;
  updates = All-to _ _ rows.updates (λ row wire. subject_is (messages.ChannelUpdate row.message) row.raw wire) spelled.updates;
  nodes = All-to _ _ rows.nodes (λ row wire. subject_is (messages.NodeAnnounce row.message) row.raw wire) spelled.nodes;
}
